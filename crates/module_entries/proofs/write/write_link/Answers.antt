use Rattle.std.proofs.Common.{refl}
use Rattle.report_lines.proofs.Made.{writes_made}
use Rattle.module_entries.proofs.write.write_link.Goals as goal

pub returns : goal.returns
returns g c = writes_made g.K.Sink.held g.K.Sink.faults _ _ _ _ _ _ _ c.offer_made.ensures c.make_link_line-made.ensures refl (_, _, refl)
