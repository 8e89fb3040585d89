use Rattle.std.proofs.Common.{◌≡◌, ◌+◌}
use Rattle.semantic_kinds.specs.declared.role.Role.TheVariants as role
use Rattle.semantic_tree.specs.ChildIter.{left_of}
use Rattle.semantic_tree.specs.Views.{children_of}
use Rattle.mangle_model.specs.Written.{sizes}
use Rattle.mangler.proofs.written.key_sizes.Given as goal

-- with the keys that are left, it is all
abbrev pub invariant-loop-key : goal.invariant-loop-key
invariant-loop-key l = l.size + sizes (left_of l.key-iterator) ≡ sizes (children_of role.Key l.node.node.now.children)
