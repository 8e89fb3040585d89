use Rattle.semantic_syntax.specs.Reading.{no_symbol}
use Rattle.report_lines.specs.TableLines.{symbol_lines}
use Rattle.report_lines.proofs.Items.{places_go_on, places_fail}
use Rattle.report_lines.proofs.write_symbols.write_symbols.Goals as goal

pub returns-in_err-write_symbol : goal.returns-in_err-write_symbol
returns-in_err-write_symbol g c =
    places_fail g.K.Sink.held g.K.Sink.faults (symbol_lines c.args.scoping.now) c.loop-number.number c.args.scoping.now.symbols no_symbol _ _ _ _ _ c.from_residual.result c.loop-number.invariant
    (rw c.symbols_len-count.ensures.count at c.loop-number-test.true) (rw c.new.ensures at c.in_err-write_symbol.ensures) c.from_residual.ensures.1

pub loop-number-preserved : goal.loop-number-preserved
loop-number-preserved g c =
    places_go_on g.K.Sink.held g.K.Sink.faults (symbol_lines c.args.scoping.now) c.loop-number.number c.args.scoping.now.symbols no_symbol _ _ _ _ _ c.loop-number.invariant
    (rw c.symbols_len-count.ensures.count at c.loop-number-test.true) (rw c.new.ensures at c.in_ok-write_symbol.ensures)
