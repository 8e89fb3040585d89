use Rattle.std.proofs.Common.{refl}
use Rattle.std.specs.Map.Iter.{deref}
use Rattle.report_lines.specs.Rows as row
use Rattle.report_lines.specs.TableLines.{pure_line}
use Rattle.report_lines.proofs.Items.{items_go_on, items_fail}
use Rattle.report_lines.proofs.Made.{writes_made}
use Rattle.report_lines.proofs.write_symbols.write_pures.Goals as goal

pub loop-symbol-preserved : goal.loop-symbol-preserved
loop-symbol-preserved g c =
    items_go_on g.K.Sink.held g.K.Sink.faults deref pure_line _ _ _ _ _ _ _ _ _ c.loop-symbol.invariant c.in-Some.is c.next.ensures.steps
    (writes_made g.K.Sink.held g.K.Sink.faults _ _ _ _ _ _ _ c.in_ok-offer_made.ensures c.make_pure_line-made.ensures refl (row.pure _, refl))

pub returns-in_err-offer_made : goal.returns-in_err-offer_made
returns-in_err-offer_made g c =
    items_fail g.K.Sink.held g.K.Sink.faults deref pure_line _ _ _ _ _ _ _ _ _ c.from_residual.result c.loop-symbol.invariant c.in-Some.is c.next.ensures.steps
    (writes_made g.K.Sink.held g.K.Sink.faults _ _ _ _ _ _ _ c.in_err-offer_made.ensures c.make_pure_line-made.ensures refl (row.pure _, refl)) c.from_residual.ensures.1
