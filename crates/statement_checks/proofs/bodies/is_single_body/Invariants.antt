use Rattle.std.proofs.Common.{◌≡◌, length, not}
use Rattle.std.specs.Prelude.{find}
use Rattle.node_store.specs.PathLeft.{path_left}
use Rattle.semantic_kinds.specs.declared.kind.AstType.TheVariants as kinds
use Rattle.semantic_tree.specs.Views.{is}
use Rattle.check_model.specs.Bodies.{has_single_body}
use Rattle.check_model.specs.Search.{passes}
use Rattle.statement_checks.proofs.bodies.is_single_body.Given as goal

abbrev pub invariant-loop-kind : goal.invariant-loop-kind
invariant-loop-kind l = passes (λ node. has_single_body node.kind) (find (λ node. not (is kinds.LabeledStatement node)) (path_left l.left)) ≡ passes (λ node. has_single_body node.kind) (find (λ node. not (is kinds.LabeledStatement node)) (path_left l.initial.left))

abbrev pub decreases-loop-kind : goal.decreases-loop-kind
decreases-loop-kind l = length (path_left l.left)
