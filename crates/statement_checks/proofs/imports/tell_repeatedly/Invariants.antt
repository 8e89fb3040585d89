use Rattle.std.proofs.Common.{◌-◌}
use Rattle.check_model.specs.Exports.{import_rows}
use Rattle.semantic_syntax.specs.Reading.{symbol_of}
use Rattle.check_context.specs.Tells.{IsTelling}
use Rattle.statement_checks.specs.Bound.{rows_repeated}
use Rattle.statement_checks.proofs.imports.tell_repeatedly.Given as goal

abbrev pub invariant-loop-turn : goal.invariant-loop-turn
invariant-loop-turn l = IsTelling (rows_repeated l.fn.times (import_rows (symbol_of l.scoping l.symbol))) (rows_repeated (l.fn.times - l.turn) (import_rows (symbol_of l.scoping l.symbol))) l.fn.out l.out
