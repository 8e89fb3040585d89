use Rattle.std.proofs.Common.{drop}
use Rattle.check_model.specs.Exports.{bound_rows}
use Rattle.check_context.specs.Tells.{IsTelling}
use Rattle.statement_checks.specs.Bound.{root_symbols}
use Rattle.statement_checks.proofs.imports.tell_imports.Given as goal

abbrev pub invariant-loop-number : goal.invariant-loop-number
invariant-loop-number l = IsTelling (bound_rows (root_symbols l.scoping) 0 l.scoping.symbols) (bound_rows (root_symbols l.scoping) l.number (drop l.number l.scoping.symbols)) l.fn.out l.out
