-- There are enough short names: of so many, the taken names leave one for each symbol.
use Rattle.std.proofs.Common.{◌≡◌, ℕ, suc, ◌+◌, ◌≤◌, List, [], ◌∷◌, ◌++◌, Bool, true, false, not, ◌||◌, cond, inl, inr, ◌⊎◌, refl, sym, ap, ◌∙◌, bytes_eq, filter, fold, length, arith}
use Rattle.std.specs.List.{list_any, range_with_len}
use Rattle.std.proofs.lemmas.List.{length-map}
use Rattle.std.proofs.lemmas.List.FromFn.{length-range_with_len}
use Rattle.semantic_syntax.specs.Tables.{Name, Symbol}
use Rattle.semantic_tree.specs.Tree.{Tree}
use Rattle.semantic_model.specs.Analysis.{Analysis}
use Rattle.semantic_model.specs.Entries.{Among}
use Rattle.semantic_model.proofs.once.ListedUnder.{name_tells}
use Rattle.mangle_model.specs.OneNameEach.{does_change, joining, symbol_names, changing_names, taken_names, is_unused_name, short_names, unused_names}
use Rattle.mangle_model.specs.ShortNames.{short_name}
use Rattle.mangle_model.proofs.EachPair.{short_different}
use Rattle.mangle_model.proofs.NameLists.{among_passing, Different, passing_different}

-- ---- lengths

length-passing : (test : Name → Bool) (xs : List Name) → length (filter test xs) ≤ length xs
length-passing test [] = omega arith
length-passing test (x ∷ xs) = go (test x) (length-passing test xs)
  where
    go : (b : Bool) → length (filter test xs) ≤ length xs → length (cond b (x ∷ filter test xs) (filter test xs)) ≤ suc (length xs)
    go true h = omega (arith, h)
    go false h = omega (arith, h)

-- those that pass and those that don't
length-parted : (test : Name → Bool) (xs : List Name) → length xs ≡ length (filter test xs) + length (filter (λ x. not (test x)) xs)
length-parted test [] = refl
length-parted test (x ∷ xs) = go (test x) (length-parted test xs)
  where
    go : (b : Bool) → length xs ≡ length (filter test xs) + length (filter (λ y. not (test y)) xs) → suc (length xs) ≡ length (cond b (x ∷ filter test xs) (filter test xs)) + length (cond (not b) (x ∷ filter (λ y. not (test y)) xs) (filter (λ y. not (test y)) xs))
    go true e = omega (arith, e)
    go false e = omega (arith, e)

length-appended : (xs : List Name) (y : Name) → length (xs ++ y ∷ []) ≡ suc (length xs)
length-appended [] y = refl
length-appended (x ∷ xs) y = ap suc (length-appended xs y)

length-joined : (names acc : List Name) → length (fold joining acc names) ≤ length acc + length names
length-joined [] acc = omega arith
length-joined (x ∷ xs) acc = omega (arith, length-joined xs (joining acc x), go (list_any (bytes_eq x) acc))
  where
    go : (b : Bool) → length (cond b acc (acc ++ x ∷ [])) ≤ suc (length acc)
    go true = omega arith
    go false = omega (arith, length-appended acc x)

-- ---- different names in a list

among_any : (name : Name) (names : List Name) → list_any (bytes_eq name) names ≡ true → Among name names
among_any name [] h = absurd cc
among_any name (x ∷ xs) h = go (bytes_eq name x) (name_tells name x) h (λ k. among_any name xs k)
  where
    go : (b : Bool) → ((b ≡ true) × (name ≡ x)) ⊎ ((b ≡ false) × (name ≡ x → ⊥)) → (b || list_any (bytes_eq name) xs) ≡ true → (list_any (bytes_eq name) xs ≡ true → Among name xs) → (x ≡ name) ⊎ Among name xs
    go true (inl w) k more = inl (sym w.1)
    go true (inr w) k more = absurd cc
    go false w k more = inr (more k)

abbrev is_other : Name → Name → Bool
is_other y x = not (bytes_eq y x)

stays : (x y : Name) (zs : List Name) → (y ≡ x → ⊥) → Among x zs → Among x (filter (is_other y) zs)
stays x y [] h a = absurd a
stays x y (z ∷ zs) h a = go (bytes_eq y z) (name_tells y z) a (λ b. stays x y zs h b)
  where
    go : (b : Bool) → ((b ≡ true) × (y ≡ z)) ⊎ ((b ≡ false) × (y ≡ z → ⊥)) → (z ≡ x) ⊎ Among x zs → (Among x zs → Among x (filter (is_other y) zs)) → Among x (cond (not b) (z ∷ filter (is_other y) zs) (filter (is_other y) zs))
    go true (inl w) (inl e) more = absurd (h (w.1 ∙ e))
    go true (inl w) (inr c) more = more c
    go true (inr w) c more = absurd cc
    go false w (inl e) more = inl e
    go false w (inr c) more = inr (more c)

goes : (y : Name) (zs : List Name) → Among y zs → suc (length (filter (is_other y) zs)) ≤ length zs
goes y [] a = absurd a
goes y (z ∷ zs) a = go (bytes_eq y z) (name_tells y z) a (λ b. goes y zs b)
  where
    go : (b : Bool) → ((b ≡ true) × (y ≡ z)) ⊎ ((b ≡ false) × (y ≡ z → ⊥)) → (z ≡ y) ⊎ Among y zs → (Among y zs → suc (length (filter (is_other y) zs)) ≤ length zs) → suc (length (cond (not b) (z ∷ filter (is_other y) zs) (filter (is_other y) zs))) ≤ suc (length zs)
    go true w c more = omega (arith, length-passing (is_other y) zs)
    go false (inl w) c more = absurd cc
    go false (inr w) (inl e) more = absurd (w.1 (sym e))
    go false (inr w) (inr c) more = omega (arith, more c)

-- different names that stand in a list are no more than it has
fits : (xs zs : List Name) → Different xs → ((x : Name) → Among x xs → Among x zs) → length xs ≤ length zs
fits [] zs d h = omega arith
fits (x ∷ xs) zs d h =
    omega (arith, goes x zs (h x (inl refl)), fits xs (filter (is_other x) zs) d.1 (λ y a. stays y x zs (d.0 y a) (h y (inr a))))

-- ---- short names

module _ (may : ℕ → Bool) (a : Analysis) (p : Tree) where
  abbrev taken : List Name
  taken = taken_names may a p

  abbrev all : List Name
  all = short_names may a p

  abbrev used : List Name
  used = filter (λ name. not (is_unused_name may a p name)) all

  twice : (b : Bool) → not (not b) ≡ true → b ≡ true
  twice true h = refl
  twice false h = absurd cc

  used_taken : length used ≤ length taken
  used_taken = fits used taken (passing_different (λ name. not (is_unused_name may a p name)) all (short_different 0 (length taken + length a.tables.symbols)))
      (λ x b. among_any x taken (twice (list_any (bytes_eq x) taken) (among_passing (λ name. not (is_unused_name may a p name)) all x b).1))

  many : length all ≡ length taken + length a.tables.symbols
  many = length-map (range_with_len 0 (length taken + length a.tables.symbols)) short_name ∙ length-range_with_len 0 (length taken + length a.tables.symbols)

  few : length (changing_names may a p) ≤ length a.tables.symbols
  few =
      let names : length (symbol_names a.tables) ≡ length a.tables.symbols = length-map a.tables.symbols (λ (y : Symbol). y.name) in
      omega (arith, length-joined (filter (does_change may a p) (symbol_names a.tables)) [], length-passing (does_change may a p) (symbol_names a.tables), names)

  pub enough : length (changing_names may a p) ≤ length (unused_names may a p)
  enough = omega (arith, length-parted (is_unused_name may a p) all, used_taken, many, few)
