-- Symbols that are noted as free of side effects one by one are those of the list, ascending.
use Rattle.std.proofs.Common.{◌≡◌, ℕ, zero, suc, ◌+◌, ◌<◌, ◌≤◌, ◌==◌, List, [], ◌∷◌, Bool, true, false, cond, ◌&&◌, ◌||◌, ◌⊎◌, inl, inr, refl, sym, ap, ◌∙◌, fold, nat_lt, arith}
use Rattle.std.specs.Prelude.{filter}
use Rattle.std.specs.List.{range_with_len}
use Rattle.std.specs.Ordering.{nat_cmp}
use Rattle.std.specs.BTreeSet.{insert_key}
use Rattle.std.proofs.lemmas.Bool.Decides.{eqb_tells, Decides-ltb}
use Rattle.semantic_syntax.proofs.Truth.{or_assoc, or_false}
use Rattle.semantic_model.specs.Entries.{Among}
use Rattle.semantic_model.specs.Fold.{Made}
use Rattle.semantic_model.specs.TablesOf.{any_pure}
use Rattle.walk_model.proofs.shows.Represents.{with_pure, pures}

less_tells : (a b : ℕ) → ((nat_lt a b ≡ true) × (a < b)) ⊎ ((nat_lt a b ≡ false) × (b ≤ a))
less_tells a b = go (nat_lt a b) refl
  where
    go : (t : Bool) → nat_lt a b ≡ t → ((nat_lt a b ≡ true) × (a < b)) ⊎ ((nat_lt a b ≡ false) × (b ≤ a))
    go true e = inl (e, (Decides-ltb a b).0 e)
    go false e = inr (e, by (λ l. let q : true ≡ false = sym ((Decides-ltb a b).1 l) ∙ e in absurd cc))
      where
        by : (a < b → ⊥) → b ≤ a
        by n = omega arith

-- the test, or the number itself
abbrev or_number : (ℕ → Bool) → ℕ → ℕ → Bool
or_number f y s = f s || y == s

filter_same : (f g : ℕ → Bool) (xs : List ℕ) → ((s : ℕ) → f s ≡ g s) → filter f xs ≡ filter g xs
filter_same f g xs h = λ i. filter (λ s. h s i) xs

insert_before : (f : ℕ → Bool) (y b k : ℕ) → y < b → insert_key nat_cmp (filter f (range_with_len b k)) y ≡ y ∷ filter f (range_with_len b k)
insert_before f y b zero l = refl
insert_before f y b (suc k) l = go (f b) (insert_before f y (b + 1) k (omega arith))
  where
    less : nat_cmp y b ≡ nat_cmp 0 1
    less = elim (less_tells y b) [ inl q ↦ rw q.0 refl | inr q ↦ absurd (omega (arith, q.1, l)) ]

    go : (t : Bool) → insert_key nat_cmp (filter f (range_with_len (b + 1) k)) y ≡ y ∷ filter f (range_with_len (b + 1) k)
        → insert_key nat_cmp (cond t (b ∷ filter f (range_with_len (b + 1) k)) (filter f (range_with_len (b + 1) k))) y ≡ y ∷ cond t (b ∷ filter f (range_with_len (b + 1) k)) (filter f (range_with_len (b + 1) k))
    go true h = rw less refl
    go false h = h

filter_above : (f : ℕ → Bool) (y b k : ℕ) → y < b → filter (or_number f y) (range_with_len b k) ≡ filter f (range_with_len b k)
filter_above f y b zero l = refl
filter_above f y b (suc k) l = grind (arith, filter_above f y (b + 1) k (omega arith), eqb_tells y b)

insert_within : (f : ℕ → Bool) (y a k : ℕ) → a ≤ y → y < a + k → insert_key nat_cmp (filter f (range_with_len a k)) y ≡ filter (or_number f y) (range_with_len a k)
insert_within f y a zero l m = absurd (omega arith)
insert_within f y a (suc k) l m = elim (eqb_tells y a) [
  | inl q ↦ rw q.0 (here q.1 (f a))
  | inr q ↦ rw q.0 (later (f a) (insert_within f y (a + 1) k (beyond q.1) (omega arith)) (greater q.0 (beyond q.1)))
]
  where
    R : List ℕ
    R = range_with_len (a + 1) k

    beyond : (y ≡ a → ⊥) → a + 1 ≤ y
    beyond n = elim (less_tells a y) [ inl r ↦ omega (arith, r.1) | inr r ↦ absurd (n (omega (arith, r.1, l))) ]

    greater : (y == a) ≡ false → a + 1 ≤ y → nat_cmp y a ≡ nat_cmp 1 0
    greater e n = elim (less_tells y a) [ inl r ↦ absurd (omega (arith, r.1, n)) | inr r ↦ rw (r.0, e) refl ]

    equal : y ≡ a → nat_cmp y a ≡ nat_cmp 0 0
    equal e = elim (less_tells y a) [ inl r ↦ absurd (omega (arith, r.1, e)) | inr r ↦ elim (eqb_tells y a) [ inl s ↦ rw (r.0, s.0) refl | inr s ↦ absurd (s.1 e) ] ]

    here : y ≡ a → (t : Bool) → insert_key nat_cmp (cond t (a ∷ filter f R) (filter f R)) y ≡ cond (t || true) (a ∷ filter (or_number f y) R) (filter (or_number f y) R)
    here e true = rw (equal e) (ap (λ xs. a ∷ xs) (sym (filter_above f y (a + 1) k (omega arith))))
    here e false = insert_before f y (a + 1) k (omega arith) ∙ (λ i. e i ∷ sym (filter_above f y (a + 1) k (omega arith)) i)

    later : (t : Bool) → insert_key nat_cmp (filter f R) y ≡ filter (or_number f y) R → nat_cmp y a ≡ nat_cmp 1 0
        → insert_key nat_cmp (cond t (a ∷ filter f R) (filter f R)) y ≡ cond (t || false) (a ∷ filter (or_number f y) R) (filter (or_number f y) R)
    later true h g = rw g (ap (λ xs. a ∷ xs) h)
    later false h g = h

pure_step : (f : ℕ → Bool) (n : ℕ) (m : Made) → m.symbol < n → with_pure (filter f (range_with_len 0 n)) m ≡ filter (λ s. f s || (m.declaration.naming.is_pure && m.symbol == s)) (range_with_len 0 n)
pure_step f n m l = go m.declaration.naming.is_pure
  where
    go : (b : Bool) → cond b (insert_key nat_cmp (filter f (range_with_len 0 n)) m.symbol) (filter f (range_with_len 0 n)) ≡ filter (λ s. f s || (b && m.symbol == s)) (range_with_len 0 n)
    go true = insert_within f m.symbol 0 n (omega arith) (omega arith)
    go false = filter_same f (λ s. f s || false) (range_with_len 0 n) (λ s. (sym (or_false (f s))))

pures_from : (f : ℕ → Bool) (n : ℕ) (ms : List Made) → ((m : Made) → Among m ms → m.symbol < n) → fold with_pure (filter f (range_with_len 0 n)) ms ≡ filter (λ s. f s || any_pure ms s) (range_with_len 0 n)
pures_from f n [] h = filter_same f (λ s. f s || false) (range_with_len 0 n) (λ s. (sym (or_false (f s))))
pures_from f n (m ∷ ms) h =
    ap (λ ys. fold with_pure ys ms) (pure_step f n m (h m (inl refl)))
    ∙ pures_from (λ s. f s || (m.declaration.naming.is_pure && m.symbol == s)) n ms (λ k a. h k (inr a))
    ∙ filter_same (λ s. (f s || (m.declaration.naming.is_pure && m.symbol == s)) || any_pure ms s) (λ s. f s || any_pure (m ∷ ms) s) (range_with_len 0 n) (λ s. or_assoc (f s) (m.declaration.naming.is_pure && m.symbol == s) (any_pure ms s))

filter_none : (a n : ℕ) → filter (λ s. false) (range_with_len a n) ≡ []
filter_none a zero = refl
filter_none a (suc n) = filter_none (a + 1) n

pub pures_ascend : (n : ℕ) (ms : List Made) → ((m : Made) → Among m ms → m.symbol < n) → pures ms ≡ filter (any_pure ms) (range_with_len 0 n)
pures_ascend n ms h = ap (λ ys. fold with_pure ys ms) (sym (filter_none 0 n)) ∙ pures_from (λ s. false) n ms h
