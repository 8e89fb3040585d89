use Rattle.std.proofs.Common.{List, ◌-◌, ◌+◌, subst}
use Rattle.semantic_diagnostics.specs.declared.diagnostic.Diagnostic.{Diagnostic}
use Rattle.semantic_syntax.specs.Reading.{symbol_of}
use Rattle.check_model.specs.Exports.{import_rows}
use Rattle.check_context.specs.Tells.{IsTelling}
use Rattle.check_context.proofs.Telling.{stops}
use Rattle.check_context.proofs.Stopping.{stopped}
use Rattle.statement_checks.specs.Bound.{rows_repeated}
use Rattle.statement_checks.proofs.Counts.{next_turn}
use Rattle.statement_checks.proofs.imports.tell_repeatedly.Goals as goal

pub returns-in_err-tell_import : goal.returns-in_err-tell_import
returns-in_err-tell_import c =
    let rows : List Diagnostic = import_rows (symbol_of c.args.scoping.now c.args.symbol) in
    stopped _ c.from_residual.result _ _ _ c.from_residual.ensures.1
    (stops (rows_repeated c.args.times rows) rows (rows_repeated (c.args.times - (c.loop-turn.turn + 1)) rows) c.args.out.now c.loop-turn.out c.tell_import.new.out
    (subst (λ (l : List Diagnostic). IsTelling (rows_repeated c.args.times rows) l c.args.out.now c.loop-turn.out) (next_turn c.args.times c.loop-turn.turn rows c.loop-turn-test.true) c.loop-turn.invariant)
    c.in_err-tell_import.ensures)
