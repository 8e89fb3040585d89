use Rattle.std.proofs.Common.{◌≡◌, ◌||◌, length}
use Rattle.std.specs.Prelude.{find}
use Rattle.node_store.specs.PathLeft.{path_left}
use Rattle.semantic_kinds.specs.Classes.{is_member}
use Rattle.check_model.specs.Names.{writes_to}
use Rattle.statement_checks.proofs.references.met_by_write.Given as goal

abbrev pub invariant-loop-node : goal.invariant-loop-node
invariant-loop-node l = find (λ node. is_member node.kind || writes_to l.name.node.now.text node) (path_left l.left) ≡ find (λ node. is_member node.kind || writes_to l.name.node.now.text node) (path_left l.initial.left)

abbrev pub decreases-loop-node : goal.decreases-loop-node
decreases-loop-node l = length (path_left l.left)
