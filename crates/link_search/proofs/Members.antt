-- Names and terminals among targets, and members that have numbers.
use Rattle.std.proofs.Common.{◌≡◌, ◌<◌, ◌⊎◌, inl, inr, ℕ, zero, suc, List, [], ◌∷◌, Bool, true, false, Some, refl, sym, ap, subst, ◌∙◌, slice_get, get_or, length, arith}
use Rattle.std.specs.List.{IsDistinct}
use Rattle.std.proofs.lemmas.Bool.{cases_eq, cases_lt}
use Rattle.std.proofs.lemmas.Map.Keys.{apart_from_distinct}
use Rattle.std.proofs.lemmas.Option.{slice_get_within, get_or_from_slice_get}
use Rattle.reachability.specs.Rows.{Among}
use Rattle.link_search.specs.Numbering.{Pair, AreNumbersOf, AreDistinctPairs}
use Rattle.link_search.specs.declared.target.Target.{Target}
use Rattle.link_search.specs.declared.target.Target.TheVariants.{Name, End}
use Rattle.link_search.specs.declared.terminal.Terminal.{Terminal}
use Rattle.link_search.specs.Ends.{AreApart, ends_in}
use Rattle.link_search.specs.Targets.{target_names}

pub name_among : (ts : List Target) (q : Pair) → Among q (target_names ts) → Among (Name q.0 q.1) ts
name_among [] q i = absurd i
name_among (Name m k ∷ ts) q (inl e) = inl (ap (λ (p : Pair). Name p.0 p.1) e)
name_among (Name m k ∷ ts) q (inr i) = inr (name_among ts q i)
name_among (End t ∷ ts) q i = inr (name_among ts q i)

same_name : (a b m k : ℕ) → Name a b ≡ Name m k → ◌≡◌ {A = Pair} (a, b) (m, k)
same_name a b m k e =
    let first : a ≡ m = cc in
    let second : b ≡ k = cc in
    λ i. (first i, second i)

pub among_name : (ts : List Target) (m k : ℕ) → Among (Name m k) ts → Among {A = Pair} (m, k) (target_names ts)
among_name [] m k i = absurd i
among_name (Name a b ∷ ts) m k (inl e) = inl (same_name a b m k e)
among_name (Name a b ∷ ts) m k (inr i) = inr (among_name ts m k i)
among_name (End t ∷ ts) m k (inl e) = absurd cc
among_name (End t ∷ ts) m k (inr i) = among_name ts m k i

pub end_among : (ts : List Target) (t : Terminal) → Among t (ends_in ts) → Among (End t) ts
end_among [] t i = absurd i
end_among (Name m k ∷ ts) t i = inr (end_among ts t i)
end_among (End u ∷ ts) t (inl e) = inl (ap (λ (v : Terminal). End v) e)
end_among (End u ∷ ts) t (inr i) = inr (end_among ts t i)

pub same_end : (t u : Terminal) → End t ≡ End u → t ≡ u
same_end t u e = cc

pub among_end : (ts : List Target) (t : Terminal) → Among (End t) ts → Among t (ends_in ts)
among_end [] t i = absurd i
among_end (Name m k ∷ ts) t (inl e) = absurd cc
among_end (Name m k ∷ ts) t (inr i) = among_end ts t i
among_end (End u ∷ ts) t (inl e) = inl (same_end u t e)
among_end (End u ∷ ts) t (inr i) = inr (among_end ts t i)

pub some_same : {A : Type 0} (x y : A) → Some x ≡ Some y → x ≡ y
some_same x y e = cc

pub at_place : {A : Type 0} (xs : List A) (i : ℕ) (x : A) → slice_get xs i ≡ Some x → Among x xs
at_place [] i x e = absurd cc
at_place (y ∷ xs) zero x e = inl (some_same y x e)
at_place (y ∷ xs) (suc i) x e = inr (at_place xs i x e)

pub of_place : {A : Type 0} (xs : List A) (x : A) → Among x xs → (i : ℕ) × (slice_get xs i ≡ Some x)
of_place [] x i = absurd i
of_place (y ∷ xs) x (inl e) = (0, ap (λ z. Some z) e)
of_place (y ∷ xs) x (inr i) = let w : (j : ℕ) × (slice_get xs j ≡ Some x) = of_place xs x i in (suc w.0, w.1)

-- a number of pairs is that of one
pub has_number : (keys : List Pair) (is : List ℕ) (qs : List Pair) → AreNumbersOf keys is qs → (j : ℕ) → Among j is → (q : Pair) × (slice_get keys j ≡ Some q) × Among q qs
has_number keys [] qs h j i = absurd i
has_number keys (x ∷ is) [] h j i = absurd h
has_number keys (x ∷ is) (q ∷ qs) h j (inl e) = (q, subst (λ n. slice_get keys n ≡ Some q) e h.0, inl refl)
has_number keys (x ∷ is) (q ∷ qs) h j (inr i) =
    let w : (r : Pair) × (slice_get keys j ≡ Some r) × Among r qs = has_number keys is qs h.1 j i in (w.0, w.1, inr w.2)

-- each of the pairs has a number
pub of_number : (keys : List Pair) (is : List ℕ) (qs : List Pair) → AreNumbersOf keys is qs → (q : Pair) → Among q qs → (j : ℕ) × Among j is × (slice_get keys j ≡ Some q)
of_number keys is [] h q i = absurd i
of_number keys [] (r ∷ qs) h q i = absurd h
of_number keys (x ∷ is) (r ∷ qs) h q (inl e) = (x, inl refl, subst (λ p. slice_get keys x ≡ Some p) e h.0)
of_number keys (x ∷ is) (r ∷ qs) h q (inr i) =
    let w : (j : ℕ) × Among j is × (slice_get keys j ≡ Some q) = of_number keys is qs h.1 q i in (w.0, inr w.1, w.2)

-- distinct pairs have one place
pub one_place : (keys : List Pair) → AreDistinctPairs keys → (i j : ℕ) (p : Pair) → slice_get keys i ≡ Some p → slice_get keys j ≡ Some p → i ≡ j
one_place [] d i j p e f = absurd cc
one_place (q ∷ keys) d zero zero p e f = refl
one_place (q ∷ keys) d zero (suc j) p e f = absurd (d.0 (subst (λ r. Among r keys) (sym (some_same q p e)) (at_place keys j p f)))
one_place (q ∷ keys) d (suc i) zero p e f = absurd (d.0 (subst (λ r. Among r keys) (sym (some_same q p f)) (at_place keys i p e)))
one_place (q ∷ keys) d (suc i) (suc j) p e f = ap suc (one_place keys d.1 i j p e f)

-- ---- lists in which none has two numbers

pub apart_by : {A : Type 0} (eq : A → A → Bool) → ((x : A) → eq x x ≡ true) → (xs : List A) → IsDistinct eq xs → AreApart xs
apart_by eq itself xs distinct i j x e f = go (cases_eq i j)
  where
    differ : (i j : ℕ) → i < j → slice_get xs i ≡ Some x → slice_get xs j ≡ Some x → ⊥
    differ i j before e f =
        let within : j < length xs = slice_get_within xs j x f in
        let unlike : eq (get_or xs i x) (get_or xs j x) ≡ false = apart_from_distinct eq xs i j x distinct before within in
        let alike : eq x x ≡ false = sym (λ k. eq (get_or_from_slice_get xs i x x e k) (get_or_from_slice_get xs j x x f k)) ∙ unlike in
        absurd (let both : true ≡ false = sym (itself x) ∙ alike in cc)

    go : (i ≡ j) ⊎ (i ≡ j → ⊥) → i ≡ j
    go (inl same) = same
    go (inr other) = elim (cases_lt i j) [ inl before ↦ absurd (differ i j before e f) | inr behind ↦ absurd (differ j i (omega (arith, other, behind)) f e) ]
