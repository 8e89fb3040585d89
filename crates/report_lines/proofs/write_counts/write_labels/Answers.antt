use Rattle.std.proofs.Common.{refl}
use Rattle.report_lines.specs.Rows as row
use Rattle.report_ends.proofs.Stages.{flat_map_goes_on, flat_map_fails}
use Rattle.report_lines.specs.CountLines.{label_line}
use Rattle.report_lines.proofs.Made.{writes_made}
use Rattle.report_lines.proofs.write_counts.write_labels.Goals as goal

pub loop-label-preserved : goal.loop-label-preserved
loop-label-preserved g c =
    flat_map_goes_on g.K.Sink.held g.K.Sink.faults label_line c.loop-label.label-index c.args.labels.now _ _ _ _ _ _ c.loop-label.invariant c.loop-label-test.true c.label-item.is
    (writes_made g.K.Sink.held g.K.Sink.faults _ _ _ _ _ _ _ c.in_ok-offer_made.ensures c.make_label_line-made.ensures refl (row.label _, refl))

pub returns-in_err-offer_made : goal.returns-in_err-offer_made
returns-in_err-offer_made g c =
    flat_map_fails g.K.Sink.held g.K.Sink.faults label_line c.loop-label.label-index c.args.labels.now _ _ _ _ _ _ c.from_residual.result c.loop-label.invariant c.loop-label-test.true c.label-item.is
    (writes_made g.K.Sink.held g.K.Sink.faults _ _ _ _ _ _ _ c.in_err-offer_made.ensures c.make_label_line-made.ensures refl (row.label _, refl)) c.from_residual.ensures.1
