use Rattle.std.proofs.Common.{◌≡◌, length}
use Rattle.semantic_kinds.specs.declared.kind.AstType.TheVariants as kinds
use Rattle.semantic_tree.specs.Views.{is}
use Rattle.node_store.specs.PathLeft.{path_left}
use Rattle.check_model.specs.Search.{find_before}
use Rattle.statement_checks.proofs.names.declaration_around.Given as goal

abbrev pub invariant-loop-kind : goal.invariant-loop-kind
invariant-loop-kind l = find_before (is kinds.Function) (is kinds.VariableDeclaration) (path_left l.left) ≡ find_before (is kinds.Function) (is kinds.VariableDeclaration) (path_left l.initial.left)

abbrev pub decreases-loop-kind : goal.decreases-loop-kind
decreases-loop-kind l = length (path_left l.left)
