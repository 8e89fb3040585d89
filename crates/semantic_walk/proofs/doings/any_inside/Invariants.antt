use Rattle.std.proofs.Common.{◌≡◌, drop}
use Rattle.semantic_tree.specs.Children.{forest_of}
use Rattle.semantic_model.specs.Inside.{any_inside}
use Rattle.semantic_walk.proofs.doings.any_inside.Given as goal

-- none so far is inside
abbrev pub invariant-loop-role : goal.invariant-loop-role
invariant-loop-role l = any_inside l.parent (forest_of (drop l.role-index l.children)) ≡ any_inside l.parent (forest_of l.children)
