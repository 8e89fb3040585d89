use Rattle.std.proofs.Common.{◌≡◌, map, take}
use Rattle.link_search.specs.Walked.{is_ring}
use Rattle.link_search.proofs.rings.Walk.flags.Given as goal

abbrev pub invariant-loop-mark : goal.invariant-loop-mark
invariant-loop-mark l = l.flags.items ≡ map is_ring (take l.mark-index l.self.marks)
