-- What stands in lists of names and pairs, and where no two are the same.
use Rattle.std.proofs.Common.{◌≡◌, ℕ, zero, suc, ◌+◌, ◌≤◌, List, [], ◌∷◌, ◌++◌, ◌||◌, Bool, true, false, cond, inl, inr, ◌⊎◌, refl, sym, ap, ◌∙◌, filter, fold, zip, bytes_eq, arith}
use Rattle.std.specs.List.{list_any, range_with_len}
use Rattle.semantic_syntax.specs.Tables.{Name}
use Rattle.semantic_model.specs.Entries.{Among}
use Rattle.semantic_model.proofs.lists.Members.{among_more}
use Rattle.semantic_model.proofs.once.ListedUnder.{name_tells}
use Rattle.mangle_model.specs.OneNameEach.{joining}

-- ---- what stands there

pub among_passing : {A : Type 0} → (test : A → Bool) (xs : List A) (x : A) → Among x (filter test xs) → Among x xs × (test x ≡ true)
among_passing test [] x a = absurd a
among_passing test (y ∷ ys) x a = go (test y) refl a (λ b. among_passing test ys x b)
  where
    go : (b : Bool) → test y ≡ b → Among x (cond b (y ∷ filter test ys) (filter test ys)) → (Among x (filter test ys) → Among x ys × (test x ≡ true)) → Among x (y ∷ ys) × (test x ≡ true)
    go true e (inl f) more = (inl f, sym (ap test f) ∙ e)
    go true e (inr b) more = let (c, f) = more b in (inr c, f)
    go false e b more = let (c, f) = more b in (inr c, f)

pub among_zipped : {A B : Type 0} → (xs : List A) (ys : List B) (d : A × B) → Among d (zip xs ys) → Among d.0 xs × Among d.1 ys
among_zipped [] ys d a = absurd a
among_zipped (x ∷ xs) [] d a = absurd a
among_zipped (x ∷ xs) (y ∷ ys) d (inl e) = (inl (ap (λ q. q.0) e), inl (ap (λ q. q.1) e))
among_zipped (x ∷ xs) (y ∷ ys) d (inr a) = let (b, c) = among_zipped xs ys d a in (inr b, inr c)

pub among_range : (from count n : ℕ) → Among n (range_with_len from count) → from ≤ n
among_range from zero n a = absurd a
among_range from (suc count) n (inl e) = omega (arith, e)
among_range from (suc count) n (inr a) = omega (arith, among_range (from + 1) count n a)

pub any_among : (name : Name) (names : List Name) → Among name names → list_any (bytes_eq name) names ≡ true
any_among name [] a = absurd a
any_among name (x ∷ xs) a = go (bytes_eq name x) (name_tells name x) a (λ b. any_among name xs b)
  where
    go : (b : Bool) → ((b ≡ true) × (name ≡ x)) ⊎ ((b ≡ false) × (name ≡ x → ⊥)) → (x ≡ name) ⊎ Among name xs → (Among name xs → list_any (bytes_eq name) xs ≡ true) → (b || list_any (bytes_eq name) xs) ≡ true
    go true w a more = refl
    go false (inl w) a more = absurd cc
    go false (inr w) (inl e) more = absurd (w.1 (sym e))
    go false (inr w) (inr c) more = more c

-- ---- names of which no two are the same

abbrev pub Different : List Name → Type 0
Different [] = Unit {0}
Different (x ∷ xs) = ((y : Name) → Among y xs → x ≡ y → ⊥) × Different xs

pub passing_different : (test : Name → Bool) (xs : List Name) → Different xs → Different (filter test xs)
passing_different test [] h = tt
passing_different test (x ∷ xs) h = go (test x) (passing_different test xs h.1)
  where
    go : (b : Bool) → Different (filter test xs) → Different (cond b (x ∷ filter test xs) (filter test xs))
    go true k = (λ y a e. h.0 y (among_passing test xs y a).0 e, k)
    go false k = k

different_with : (xs : List Name) (y : Name) → Different xs → (Among y xs → ⊥) → Different (xs ++ y ∷ [])
different_with [] y h k = (λ z a e. a, tt)
different_with (x ∷ xs) y h k =
    (λ z a e. elim (among_more z y xs a) [ inl b ↦ h.0 z b e | inr f ↦ k (inl (e ∙ sym f)) ], different_with xs y h.1 (λ a. k (inr a)))

pub joined_different : (names acc : List Name) → Different acc → Different (fold joining acc names)
joined_different [] acc h = h
joined_different (x ∷ xs) acc h = joined_different xs (joining acc x) (go (list_any (bytes_eq x) acc) refl)
  where
    go : (b : Bool) → list_any (bytes_eq x) acc ≡ b → Different (cond b acc (acc ++ x ∷ []))
    go true e = h
    go false e = different_with acc x h (λ a. let w : true ≡ false = sym (any_among x acc a) ∙ e in absurd cc)

pub among_joined : (names acc : List Name) (y : Name) → Among y (fold joining acc names) → Among y acc ⊎ Among y names
among_joined [] acc y a = inl a
among_joined (x ∷ xs) acc y a = elim (among_joined xs (joining acc x) y a) [ inl b ↦ go (list_any (bytes_eq x) acc) b | inr b ↦ inr (inr b) ]
  where
    go : (b : Bool) → Among y (cond b acc (acc ++ x ∷ [])) → Among y acc ⊎ Among y (x ∷ xs)
    go true c = inl c
    go false c = elim (among_more y x acc c) [ inl d ↦ inl d | inr e ↦ inr (inl e) ]
