use Rattle.std.proofs.Common.{refl}
use Rattle.report_lines.specs.Rows as row
use Rattle.report_lines.proofs.Made.{writes_made}
use Rattle.report_lines.proofs.write_counts.write_made.Goals as goal

pub returns : goal.returns
returns g c = writes_made g.K.Sink.held g.K.Sink.faults _ _ _ _ _ _ _ c.offer_made.ensures c.make_made_line-made.ensures refl (row.made _ _, refl)
