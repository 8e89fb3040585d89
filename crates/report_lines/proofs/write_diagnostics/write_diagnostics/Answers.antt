use Rattle.std.proofs.Common.{refl}
use Rattle.std.specs.Map.Iter.{deref}
use Rattle.report_lines.specs.Rows as row
use Rattle.report_lines.specs.DiagnosticLine.{diagnostic_line}
use Rattle.report_lines.proofs.Items.{items_go_on, items_fail}
use Rattle.report_lines.proofs.Made.{writes_made}
use Rattle.report_lines.proofs.write_diagnostics.write_diagnostics.Goals as goal

pub loop-diagnostic-preserved : goal.loop-diagnostic-preserved
loop-diagnostic-preserved g c =
    items_go_on g.K.Sink.held g.K.Sink.faults deref diagnostic_line _ _ _ _ _ _ _ _ _ c.loop-diagnostic.invariant c.in-Some.is c.next.ensures.steps
    (writes_made g.K.Sink.held g.K.Sink.faults _ _ _ _ _ _ _ c.in_ok-offer_made.ensures c.make_diagnostic_line-made.ensures refl (row.diagnostic _, refl))

pub returns-in_err-offer_made : goal.returns-in_err-offer_made
returns-in_err-offer_made g c =
    items_fail g.K.Sink.held g.K.Sink.faults deref diagnostic_line _ _ _ _ _ _ _ _ _ c.from_residual.result c.loop-diagnostic.invariant c.in-Some.is c.next.ensures.steps
    (writes_made g.K.Sink.held g.K.Sink.faults _ _ _ _ _ _ _ c.in_err-offer_made.ensures c.make_diagnostic_line-made.ensures refl (row.diagnostic _, refl)) c.from_residual.ensures.1
