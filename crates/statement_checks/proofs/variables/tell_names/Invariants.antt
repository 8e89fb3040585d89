use Rattle.std.specs.Prelude.{flat_map}
use Rattle.semantic_tree.specs.BoundNames.{bound_names}
use Rattle.node_rules.specs.BoundIdentifiers.{names_left}
use Rattle.check_model.specs.Variables.{name_rows}
use Rattle.check_context.specs.Handed.{sight}
use Rattle.check_context.specs.Tells.{IsTelling}
use Rattle.statement_checks.proofs.variables.tell_names.Given as goal

abbrev pub invariant-loop-name : goal.invariant-loop-name
invariant-loop-name l = IsTelling (flat_map (name_rows (sight l.kind.node.now l.ctx)) (bound_names l.kind.node.now)) (flat_map (name_rows (sight l.kind.node.now l.ctx)) (names_left l.name-iterator)) l.fn.out l.out
