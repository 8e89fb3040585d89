use Rattle.mangler.proofs.Withs.{SoFar}
use Rattle.mangler.proofs.seen.end_of_withs.Given as goal

abbrev pub invariant-loop-number : goal.invariant-loop-number
invariant-loop-number l = SoFar l.scoping.scopes l.number l.end
