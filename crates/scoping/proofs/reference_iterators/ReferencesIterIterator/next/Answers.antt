use Rattle.std.proofs.Common.{ℕ, ◌<◌, length, ◌∷◌}
use Rattle.std.specs.List.{AllByRecursion}
use Rattle.std.specs.Slice.Iter.{iter_rest}
use Rattle.scoping.proofs.reference_iterators.ReferencesIterIterator.next.Goals as goal

pub bounds-self-inside-index : goal.bounds-self-inside-index
bounds-self-inside-index c =
    let a = c.self.inside in
    let all : AllByRecursion (λ (r : ℕ). r < length a.references.now) (c.in-Some.id.now ∷ iter_rest c.next.new.self) = rw c.in-Some.ensures.steps at c.self.invariant in
    rw c.index.ensures all.0
