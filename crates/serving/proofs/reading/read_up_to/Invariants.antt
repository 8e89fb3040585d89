use Rattle.std.proofs.Common.{◌≡◌, ◌-◌, ◌≤◌, vec_len}
use Rattle.std.specs.Io.KnownBytes.{Consumes}
use Rattle.serving.proofs.reading.read_up_to.Given as goal

abbrev pub invariant-loop-piece : goal.invariant-loop-piece
invariant-loop-piece g l = let left = g.S.Source.left in let faults = g.S.Source.faults in record {
  most : vec_len l.bytes ≤ l.count;
  left : Consumes (left l.fn.source) (left l.source) l.bytes.items;
  faults : faults l.source ≡ faults l.fn.source;
}

abbrev pub decreases-loop-piece : goal.decreases-loop-piece
decreases-loop-piece g l = l.count - vec_len l.bytes
