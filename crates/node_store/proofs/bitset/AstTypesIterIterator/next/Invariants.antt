use Rattle.std.proofs.Common.{◌≡◌, length}
use Rattle.node_store.specs.KindSets.{kinds_left}
use Rattle.node_store.proofs.bitset.AstTypesIterIterator.next.Given as goal

-- no kind of the set was passed
abbrev pub invariant-loop-ty : goal.invariant-loop-ty
invariant-loop-ty l = kinds_left l.self ≡ kinds_left l.initial.self

abbrev pub decreases-loop-ty : goal.decreases-loop-ty
decreases-loop-ty l = length l.self.left.now
