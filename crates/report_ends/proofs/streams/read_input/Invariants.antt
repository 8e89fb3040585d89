use Rattle.std.proofs.Common.{◌≡◌, ◌-◌, ◌≤◌, vec_len}
use Rattle.std.specs.Io.KnownBytes.{Consumes}
use Rattle.report_ends.proofs.streams.read_input.Given as goal

abbrev pub invariant-loop-bytes : goal.invariant-loop-bytes
invariant-loop-bytes g l = let left = g.S.Source.left in let faults = g.S.Source.faults in record {
  fits : vec_len l.bytes ≤ 67108864;
  left : Consumes (left l.fn.source) (left l.source) l.bytes.items;
  faults : faults l.source ≡ faults l.fn.source;
}

abbrev pub decreases-loop-bytes : goal.decreases-loop-bytes
decreases-loop-bytes g l = 67108865 - vec_len l.bytes
