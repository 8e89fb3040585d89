use Rattle.std.proofs.Common.{◌≡◌, drop}
use Rattle.link_search.specs.Walked.{any_turns}
use Rattle.link_search.proofs.rings.Walk.any_turns.Given as goal

abbrev pub invariant-loop-b : goal.invariant-loop-b
invariant-loop-b l = any_turns l.self.marks (drop l.b-index l.numbers) ≡ any_turns l.self.marks l.numbers
