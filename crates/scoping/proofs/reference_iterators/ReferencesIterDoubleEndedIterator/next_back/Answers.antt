use Rattle.std.proofs.Common.{ℕ, ◌<◌, length, sym, ap, ◌∙◌, ◌++◌, ◌∷◌, [], map, get_or}
use Rattle.std.specs.List.{AllByRecursion}
use Rattle.std.specs.Slice.Iter.{iter_rest}
use Rattle.std.proofs.lemmas.List.{map-append, get_or_read}
use Rattle.semantic_syntax.specs.Reading.{no_reference}
use Rattle.semantic_syntax.proofs.Every.{every-last}
use Rattle.scoping.proofs.Every.{every-front}
use Rattle.scoping.proofs.reference_iterators.ReferencesIterDoubleEndedIterator.next_back.Goals as goal

pub returns-clause-steps : goal.returns-clause-steps
returns-clause-steps c =
    let steps = c.in_ok-id.ensures.steps in
    let a = c.self.inside in
    let all : AllByRecursion (λ (r : ℕ). r < length a.references.now) (iter_rest c.next_back.new.self ++ c.in_ok-id.id.now ∷ []) = rw steps at c.self.invariant in
    let within = every-last (λ (r : ℕ). r < length a.references.now) c.in_ok-id.id.now (iter_rest c.next_back.new.self) all in
    let f = λ (r : ℕ). get_or a.references.now r no_reference in
    let read = ap f (sym c.index.ensures) ∙ sym (get_or_read a.references.now c.index.result c.index-self-index.result (rw c.index.ensures within) c.index-self-index.is no_reference) ∙ c.index-self-index.is in
    rw (← c.self.view_is) (ap (map f) steps ∙ map-append f (iter_rest c.next_back.new.self) (c.in_ok-id.id.now ∷ []) ∙ ap (λ x. map f (iter_rest c.next_back.new.self) ++ x ∷ []) read)

pub bounds-self-inside-index : goal.bounds-self-inside-index
bounds-self-inside-index c =
    let a = c.self.inside in
    let all : AllByRecursion (λ (r : ℕ). r < length a.references.now) (iter_rest c.next_back.new.self ++ c.in_ok-id.id.now ∷ []) = rw c.in_ok-id.ensures.steps at c.self.invariant in
    rw c.index.ensures (every-last (λ (r : ℕ). r < length a.references.now) c.in_ok-id.id.now (iter_rest c.next_back.new.self) all)

pub invariant_of-self-2 : goal.invariant_of-self-2
invariant_of-self-2 c =
    let a = c.self.inside in
    every-front (λ (r : ℕ). r < length a.references.now) (iter_rest c.next_back.new.self) (c.in_ok-id.id.now ∷ []) (rw c.in_ok-id.ensures.steps at c.self.invariant)
