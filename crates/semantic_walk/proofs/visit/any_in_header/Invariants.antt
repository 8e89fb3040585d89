use Rattle.std.proofs.Common.{◌≡◌, drop}
use Rattle.semantic_tree.specs.Children.{forest_of}
use Rattle.semantic_tree.specs.Views.{has_role}
use Rattle.semantic_model.specs.Inside.{header_roles}
use Rattle.semantic_walk.proofs.visit.any_in_header.Given as goal

-- none so far is a part of the header
abbrev pub invariant-loop-role : goal.invariant-loop-role
invariant-loop-role l = has_role (header_roles l.parent) (forest_of (drop l.role-index l.children)) ≡ has_role (header_roles l.parent) (forest_of l.children)
