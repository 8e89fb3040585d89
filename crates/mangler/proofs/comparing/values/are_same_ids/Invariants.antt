use Rattle.std.proofs.Common.{◌≡◌, drop, bytes_eq}
use Rattle.mangler.proofs.comparing.values.are_same_ids.Given as goal

abbrev pub invariant-loop-number : goal.invariant-loop-number
invariant-loop-number l = bytes_eq (drop l.number l.one) (drop l.number l.other) ≡ bytes_eq l.one l.other
