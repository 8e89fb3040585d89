-- What the loop over pairs keeps.
use Rattle.std.proofs.Common.{◌≡◌, ◌≢◌, ◌<◌, ◌≤◌, ◌+◌, ◌*◌, ◌⊎◌, inl, inr, ℕ, zero, suc, List, [], ◌∷◌, ◌++◌, Bool, true, false, Some, None, cond, refl, sym, ap, subst, ◌∙◌, slice_get, length, arith, length-append}
use Rattle.std.specs.List.{list_any}
use Rattle.std.proofs.lemmas.Bool.{cases_eq}
use Rattle.reachability.specs.Rows.{Among, row}
use Rattle.reachability.proofs.Lists.{among_either}
use Rattle.link_search.specs.Numbering.{Pair, same_pair, with_pair, with_pairs, AreNumbersOf, ArePairsWithin, AreDistinctPairs}
use Rattle.link_search.specs.Graph.{StartAmong, AreRowsOf, AreRowsSoFar, IsReached}
use Rattle.link_search.proofs.PairNumbers.{numbers_stay, stays}
use Rattle.link_search.proofs.Few.{stay_distinct, few_pairs}

distinct_all : (ps qs : List Pair) → AreDistinctPairs ps → AreDistinctPairs (with_pairs ps qs)
distinct_all ps [] d = d
distinct_all ps (q ∷ qs) d = distinct_all (with_pair ps q) qs (stay_distinct ps q d)

within_push : (m n : ℕ) (ps : List Pair) (q : Pair) → ArePairsWithin m n ps → q.0 < m → q.1 < n → ArePairsWithin m n (ps ++ q ∷ [])
within_push m n [] q w h k = (h, k, tt)
within_push m n (p ∷ ps) q w h k = (w.0, w.1, within_push m n ps q w.2 h k)

within_one : (m n : ℕ) (ps : List Pair) (q : Pair) → ArePairsWithin m n ps → q.0 < m → q.1 < n → ArePairsWithin m n (with_pair ps q)
within_one m n ps q w h k = go (list_any (same_pair q) ps)
  where
    go : (b : Bool) → ArePairsWithin m n (cond b ps (ps ++ q ∷ []))
    go true = w
    go false = within_push m n ps q w h k

within_all : (m n : ℕ) (ps qs : List Pair) → ArePairsWithin m n ps → ArePairsWithin m n qs → ArePairsWithin m n (with_pairs ps qs)
within_all m n ps [] w v = w
within_all m n ps (q ∷ qs) w v = within_all m n (with_pair ps q) qs (within_one m n ps q w v.0 v.1) v.2

numbers_stay_all : (ps qs : List Pair) (is : List ℕ) (rs : List Pair) → AreNumbersOf ps is rs → AreNumbersOf (with_pairs ps qs) is rs
numbers_stay_all ps [] is rs h = h
numbers_stay_all ps (q ∷ qs) is rs h = numbers_stay_all (with_pair ps q) qs is rs (numbers_stay ps q is rs h)

stays_one : (ps : List Pair) (q : Pair) (i : ℕ) (r : Pair) → slice_get ps i ≡ Some r → slice_get (with_pair ps q) i ≡ Some r
stays_one ps q i r e = go (list_any (same_pair q) ps)
  where
    go : (b : Bool) → slice_get (cond b ps (ps ++ q ∷ [])) i ≡ Some r
    go true = e
    go false = stays ps (q ∷ []) i r e

stays_all : (ps qs : List Pair) (i : ℕ) (r : Pair) → slice_get ps i ≡ Some r → slice_get (with_pairs ps qs) i ≡ Some r
stays_all ps [] i r e = e
stays_all ps (q ∷ qs) i r e = stays_all (with_pair ps q) qs i r (stays_one ps q i r e)

pub there : (ps : List Pair) (i : ℕ) → i < length ps → (r : Pair) × (slice_get ps i ≡ Some r)
there [] i h = absurd (omega (arith, h))
there (p ∷ ps) zero h = (p, refl)
there (p ∷ ps) (suc i) h = there ps i (omega (arith, h))

same_before : (ps qs : List Pair) (i : ℕ) (r : Pair) → i < length ps → slice_get (with_pairs ps qs) i ≡ Some r → slice_get ps i ≡ Some r
same_before ps qs i r h e = let w : (s : Pair) × (slice_get ps i ≡ Some s) = there ps i h in w.1 ∙ sym (stays_all ps qs i w.0 w.1) ∙ e

pub inside : (ps : List Pair) (i : ℕ) (r : Pair) → slice_get ps i ≡ Some r → i < length ps
inside [] i r e = absurd cc
inside (p ∷ ps) zero r e = omega arith
inside (p ∷ ps) (suc i) r e = let h : i < length ps = inside ps i r e in omega (arith, h)

outside : (ps : List Pair) (i : ℕ) → slice_get ps i ≡ None → length ps ≤ i
outside [] i e = omega arith
outside (p ∷ ps) zero e = absurd cc
outside (p ∷ ps) (suc i) e = let h : length ps ≤ i = outside ps i e in omega (arith, h)

longer_one : (ps : List Pair) (q : Pair) → length ps ≤ length (with_pair ps q)
longer_one ps q = go (list_any (same_pair q) ps)
  where
    go : (b : Bool) → length ps ≤ length (cond b ps (ps ++ q ∷ []))
    go true = omega arith
    go false = let e : length (ps ++ q ∷ []) ≡ length ps + 1 = length-append ps (q ∷ []) in omega (arith, e)

longer : (ps qs : List Pair) → length ps ≤ length (with_pairs ps qs)
longer ps [] = omega arith
longer ps (q ∷ qs) = let e : length ps ≤ length (with_pair ps q) = longer_one ps q in let f : length (with_pair ps q) ≤ length (with_pairs (with_pair ps q) qs) = longer (with_pair ps q) qs in omega (arith, e, f)

pub starts_among : (keys : List Pair) (is : List ℕ) (ps : List Pair) → AreNumbersOf keys is ps → StartAmong keys ps
starts_among keys [] [] h = tt
starts_among keys [] (p ∷ ps) h = absurd h
starts_among keys (i ∷ is) [] h = tt
starts_among keys (i ∷ is) (p ∷ ps) h = ((i, h.0), starts_among keys is ps h.1)

starts_stay : (keys qs ps : List Pair) → StartAmong keys ps → StartAmong (with_pairs keys qs) ps
starts_stay keys qs [] h = tt
starts_stay keys qs (p ∷ ps) h = ((h.0.0, stays_all keys qs h.0.0 p h.0.1), starts_stay keys qs ps h.1)

row_before : (rows : List (List ℕ)) (r : List ℕ) (i : ℕ) → i < length rows → row (rows ++ r ∷ []) i ≡ row rows i
row_before [] r i h = absurd (omega (arith, h))
row_before (q ∷ rows) r zero h = refl
row_before (q ∷ rows) r (suc i) h = row_before rows r i (omega (arith, h))

row_last : (rows : List (List ℕ)) (r : List ℕ) → row (rows ++ r ∷ []) (length rows) ≡ r
row_last [] r = refl
row_last (q ∷ rows) r = row_last rows r

-- what is met is all that is new
from_one : (ps : List Pair) (q p : Pair) → Among p (with_pair ps q) → Among p ps ⊎ (q ≡ p)
from_one ps q p i = go (list_any (same_pair q) ps) i
  where
    go : (b : Bool) → Among p (cond b ps (ps ++ q ∷ [])) → Among p ps ⊎ (q ≡ p)
    go true j = inl j
    go false j = elim (among_either p ps (q ∷ []) j) [ inl k ↦ inl k | inr (inl e) ↦ inr e | inr (inr none) ↦ absurd none ]

from_all : (ps qs : List Pair) (p : Pair) → Among p (with_pairs ps qs) → Among p ps ⊎ Among p qs
from_all ps [] p i = inl i
from_all ps (q ∷ qs) p i = after (from_all (with_pair ps q) qs p i)
  where
    after : Among p (with_pair ps q) ⊎ Among p qs → Among p ps ⊎ Among p (q ∷ qs)
    after (inl j) = elim (from_one ps q p j) [ inl k ↦ inl k | inr e ↦ inr (inl e) ]
    after (inr j) = inr (inr j)

at_place : (ps : List Pair) (i : ℕ) (p : Pair) → slice_get ps i ≡ Some p → Among p ps
at_place [] i p e = absurd cc
at_place (q ∷ ps) zero p e = inl cc
at_place (q ∷ ps) (suc i) p e = inr (at_place ps i p e)

module _ (m n : ℕ) (leads : Pair → List Pair) (starts : List Pair) where
  pub graph_begins : (keys : List Pair) (is : List ℕ) → ArePairsWithin m n starts → keys ≡ with_pairs [] starts → AreNumbersOf keys is starts → AreRowsSoFar m n leads starts keys []
  graph_begins keys is w e h = record {
    distinct = subst AreDistinctPairs (sym e) (distinct_all [] starts tt);
    within = subst (ArePairsWithin m n) (sym e) (within_all m n [] starts tt w);
    reached = λ p i. elim (from_all [] starts p (subst (λ ks. Among p ks) e i)) [ inl none ↦ absurd none | inr j ↦ IsReached.start p j ];
    begun = starts_among keys is starts h;
    few = omega arith;
    each = λ i p l. absurd (omega (arith, l));
  }

  pub graph_goes_on : (keys next : List Pair) (rows : List (List ℕ)) (p : Pair) (met : List Pair) (r : List ℕ) → AreRowsSoFar m n leads starts keys rows → slice_get keys (length rows) ≡ Some p → met ≡ leads p → ArePairsWithin m n met → next ≡ with_pairs keys met → AreNumbersOf next r met → AreRowsSoFar m n leads starts next (rows ++ r ∷ [])
  graph_goes_on keys next rows p met r k e f w g h = record {
    distinct = subst AreDistinctPairs (sym g) (distinct_all keys met k.distinct);
    within = subst (ArePairsWithin m n) (sym g) (within_all m n keys met k.within w);
    reached = λ q i. elim (from_all keys met q (subst (λ ks. Among q ks) g i)) [ inl j ↦ k.reached q j | inr j ↦ IsReached.onward p q (k.reached p (at_place keys (length rows) p e)) (subst (λ ps. Among q ps) f j) ];
    begun = subst (λ ks. StartAmong ks starts) (sym g) (starts_stay keys met starts k.begun);
    few = (let a : length rows < length keys = inside keys (length rows) p e in let b : length keys ≤ length (with_pairs keys met) = longer keys met in let c : length next ≡ length (with_pairs keys met) = ap length g in let d : length (rows ++ r ∷ []) ≡ length rows + 1 = length-append rows (r ∷ []) in omega (arith, a, b, c, d));
    each = λ i q l s. each i q l s (cases_eq i (length rows));
  }
    where
      each : (i : ℕ) (q : Pair) → i < length (rows ++ r ∷ []) → slice_get next i ≡ Some q → (i ≡ length rows) ⊎ (i ≢ length rows) → AreNumbersOf next (row (rows ++ r ∷ []) i) (leads q)
      each i q l s (inl same) =
          let t : slice_get keys i ≡ Some q = same_before keys met i q (subst (λ j. j < length keys) (sym same) (inside keys (length rows) p e)) (ap (λ ks. slice_get ks i) (sym g) ∙ s) in
          let u : Some p ≡ Some q = sym e ∙ ap (slice_get keys) (sym same) ∙ t in
          subst (λ j. AreNumbersOf next (row (rows ++ r ∷ []) j) (leads q)) (sym same)
          (subst (λ x. AreNumbersOf next x (leads q)) (sym (row_last rows r))
          (subst (AreNumbersOf next r) (f ∙ ap leads (some_is p q u)) h))
        where
          some_is : (x y : Pair) → Some x ≡ Some y → x ≡ y
          some_is x y v = cc
      each i q l s (inr other) =
          let before : i < length rows = (let d : length (rows ++ r ∷ []) ≡ length rows + 1 = length-append rows (r ∷ []) in omega (arith, d, l, other)) in
          let t : slice_get keys i ≡ Some q = same_before keys met i q (let a : length rows ≤ length keys = k.few in omega (arith, a, before)) (ap (λ ks. slice_get ks i) (sym g) ∙ s) in
          subst (λ x. AreNumbersOf next x (leads q)) (sym (row_before rows r i before))
          (subst (λ ks. AreNumbersOf ks (row rows i) (leads q)) (sym g) (numbers_stay_all keys met (row rows i) (leads q) (k.each i q before t)))

  pub graph_ends : (keys : List Pair) (rows : List (List ℕ)) → AreRowsSoFar m n leads starts keys rows → slice_get keys (length rows) ≡ None → AreRowsOf leads keys rows
  graph_ends keys rows k e =
      let all : length keys ≤ length rows = outside keys (length rows) e in
      record {
        many = (let a : length rows ≤ length keys = k.few in omega (arith, a, all));
        each = λ i p s. k.each i p (let l : i < length keys = inside keys i p s in omega (arith, l, all)) s;
      }

  pub graph_falls : (keys : List Pair) (rows : List (List ℕ)) (p : Pair) → AreRowsSoFar m n leads starts keys rows → slice_get keys (length rows) ≡ Some p → length rows < m * n
  graph_falls keys rows p k e = let a : length rows < length keys = inside keys (length rows) p e in let b : length keys ≤ m * n = few_pairs m n keys k.within k.distinct in omega (arith, a, b)
