use Rattle.std.proofs.Common.{refl}
use Rattle.report_lines.proofs.line.Line.offer_made.Goals as goal

pub returns-in-Ok : goal.returns-in-Ok
returns-in-Ok g c = rw c.in-Ok.is (record { offered = (c.offer.ensures.written, c.offer.ensures.pieces); lacking = tt })

pub returns-in-Err : goal.returns-in-Err
returns-in-Err g c = rw c.in-Err.is (record { offered = tt; lacking = (refl, refl) })
