use Rattle.std.proofs.Common.{◌≤◌, ℕ, length}
use Rattle.simple_names.specs.NextNames.{unused_from}
use Rattle.simple_names.specs.TakenNames.{unused_by}
use Rattle.simple_names.proofs.PairTurns.{SoFar}
use Rattle.simple_names.proofs.pairs.name_pairs.Given as goal

-- with those that are left, all pairs are there
abbrev pub invariant-loop-number : goal.invariant-loop-number
invariant-loop-number l = (count : ℕ) → length l.changing ≤ length (unused_from (unused_by l.taken) 0 count) → SoFar (unused_by l.taken) l.changing count l.number l.next l.pairs
