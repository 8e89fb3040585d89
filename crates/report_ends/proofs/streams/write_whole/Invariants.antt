use Rattle.std.proofs.Common.{◌≡◌, length, drop, ◌-◌, ◌≤◌}
use Rattle.report_ends.specs.Offers.{OffersUntil}
use Rattle.report_ends.specs.Streams.{HasWritten}
use Rattle.report_ends.proofs.streams.write_whole.Given as goal

abbrev pub invariant-loop-taken : goal.invariant-loop-taken
invariant-loop-taken g l = let held = g.K.Sink.held in let faults = g.K.Sink.faults in record {
  fits : l.taken ≤ length l.piece;
  written : HasWritten (held l.fn.out) (held l.out) (drop l.taken l.piece) l.piece;
  faults : faults l.out ≡ faults l.fn.out;
  offered : OffersUntil g.K.Sink.Offered l.fn.out l.piece l.out (drop l.taken l.piece);
}

abbrev pub decreases-loop-taken : goal.decreases-loop-taken
decreases-loop-taken g l = length l.piece - l.taken
