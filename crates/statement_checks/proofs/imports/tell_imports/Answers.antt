use Rattle.std.proofs.Common.{ℕ, ◌+◌, ◌<◌, List, ◌++◌, get_or, drop, length, subst, ap, ◌∙◌, arith}
use Rattle.semantic_diagnostics.specs.declared.diagnostic.Diagnostic.{Diagnostic}
use Rattle.semantic_syntax.specs.Reading.{symbol_of}
use Rattle.check_model.specs.Exports.{bound_rows, import_rows}
use Rattle.check_context.specs.Tells.{TellsSome, IsTelling}
use Rattle.check_context.proofs.Telling.{goes_on, stops}
use Rattle.check_context.proofs.Stopping.{stopped}
use Rattle.statement_checks.specs.Bound.{root_symbols, rows_repeated}
use Rattle.statement_checks.proofs.Counts.{next_symbol}
use Rattle.statement_checks.proofs.imports.tell_imports.Goals as goal

pub returns-in_err-tell_repeatedly : goal.returns-in_err-tell_repeatedly
returns-in_err-tell_repeatedly c =
    let t = c.args.scoping.now in
    let number = c.loop-number.number in
    let times = get_or c.args.counts.now number 0 in
    let bound = root_symbols t in
    let within : number < length t.symbols = omega (arith, c.loop-number-test.true, c.symbols_len-number-end.ensures.count) in
    stopped _ c.from_residual.result _ _ _ c.from_residual.ensures.1
    (stops (bound_rows bound 0 t.symbols) (rows_repeated times (import_rows (symbol_of t number))) (bound_rows bound (number + 1) (drop (number + 1) t.symbols)) c.args.out.now c.loop-number.out c.tell_repeatedly.new.out
    (subst (λ (l : List Diagnostic). IsTelling (bound_rows bound 0 t.symbols) l c.args.out.now c.loop-number.out) (next_symbol bound t number times within (c.requires.are_times number within)) c.loop-number.invariant)
    (subst (λ (y : ℕ). TellsSome (rows_repeated times (import_rows (symbol_of t y))) c.loop-number.out c.tell_repeatedly.new.out) c.new-symbol.ensures c.in_err-tell_repeatedly.ensures))

pub loop-number-preserved : goal.loop-number-preserved
loop-number-preserved c =
    let t = c.args.scoping.now in
    let number = c.loop-number.number in
    let times = get_or c.args.counts.now number 0 in
    let bound = root_symbols t in
    let within : number < length t.symbols = omega (arith, c.loop-number-test.true, c.symbols_len-number-end.ensures.count) in
    goes_on (bound_rows bound 0 t.symbols) (rows_repeated times (import_rows (symbol_of t number))) (bound_rows bound (number + 1) (drop (number + 1) t.symbols)) c.args.out.now c.loop-number.out c.tell_repeatedly.new.out
    (subst (λ (l : List Diagnostic). IsTelling (bound_rows bound 0 t.symbols) l c.args.out.now c.loop-number.out) (next_symbol bound t number times within (c.requires.are_times number within)) c.loop-number.invariant)
    (c.in_ok-tell_repeatedly.ensures ∙ ap (λ (y : ℕ). c.loop-number.out ++ rows_repeated times (import_rows (symbol_of t y))) c.new-symbol.ensures)
