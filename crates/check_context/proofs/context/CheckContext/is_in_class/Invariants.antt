use Rattle.std.proofs.Common.{◌≡◌, length}
use Rattle.std.specs.List.{list_any}
use Rattle.semantic_kinds.specs.declared.kind.AstType.TheVariants as kinds
use Rattle.semantic_tree.specs.Views.{is}
use Rattle.node_store.specs.PathLeft.{path_left}
use Rattle.check_context.proofs.context.CheckContext.is_in_class.Given as goal

abbrev pub invariant-loop-kind : goal.invariant-loop-kind
invariant-loop-kind l = list_any (is kinds.Class) (path_left l.above) ≡ list_any (is kinds.Class) (path_left l.initial.above)

abbrev pub decreases-loop-kind : goal.decreases-loop-kind
decreases-loop-kind l = length (path_left l.above)
