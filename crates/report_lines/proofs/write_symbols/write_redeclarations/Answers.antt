use Rattle.std.proofs.Common.{refl}
use Rattle.report_lines.specs.Rows as row
use Rattle.report_ends.proofs.Stages.{flat_map_goes_on, flat_map_fails}
use Rattle.report_lines.specs.TableLines.{redeclaration_line}
use Rattle.report_lines.proofs.Made.{writes_made}
use Rattle.report_lines.proofs.write_symbols.write_redeclarations.Goals as goal

pub loop-entry-preserved : goal.loop-entry-preserved
loop-entry-preserved g c =
    flat_map_goes_on g.K.Sink.held g.K.Sink.faults (redeclaration_line c.args.symbol) c.loop-entry.entry-index c.args.entries.now _ _ _ _ _ _ c.loop-entry.invariant c.loop-entry-test.true c.entry-item.is
    (writes_made g.K.Sink.held g.K.Sink.faults _ _ _ _ _ _ _ c.in_ok-offer_made.ensures c.make_redeclaration_line-made.ensures refl (row.declaration _ _, refl))

pub returns-in_err-offer_made : goal.returns-in_err-offer_made
returns-in_err-offer_made g c =
    flat_map_fails g.K.Sink.held g.K.Sink.faults (redeclaration_line c.args.symbol) c.loop-entry.entry-index c.args.entries.now _ _ _ _ _ _ c.from_residual.result c.loop-entry.invariant c.loop-entry-test.true c.entry-item.is
    (writes_made g.K.Sink.held g.K.Sink.faults _ _ _ _ _ _ _ c.in_err-offer_made.ensures c.make_redeclaration_line-made.ensures refl (row.declaration _ _, refl)) c.from_residual.ensures.1
