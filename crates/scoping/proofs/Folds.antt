-- Symbols, as several of them change.
use Rattle.std.proofs.Common.{◌≡◌, ℕ, ◌<◌, List, [], ◌∷◌, length, get_or, map, fold, refl, ap, ◌∙◌}
use Rattle.std.specs.List.{AllByRecursion}
use Rattle.std.proofs.Math.ListN.{set}
use Rattle.std.proofs.lemmas.List.{length-set, get_or-set_same, get_or_default}
use Rattle.semantic_syntax.specs.Tables.{Name}
use Rattle.scoping_rows.specs.Names.{name_at}
use Rattle.scoping_rows.specs.Row.{Row, symbol_of_row, no_row, row_named, row_moved}
use Rattle.semantic_syntax.specs.Writing.{with_symbol_name, with_home}
use Rattle.std.specs.Map.{values_of}
use Rattle.scoping_rows.specs.Flat.{Numbered}
use Rattle.scoping.specs.View.{IsBoundWithin}
use Rattle.semantic_syntax.proofs.Every.{every-more, every-at, every-set}
use Rattle.scoping.proofs.Shown.{AreBound, AreNamed, bound_at, symbol_changed}

abbrev pub AreRows : List Row → List ℕ → Type 0
AreRows ys ids = AllByRecursion (λ i. i < length ys) ids

still : (ys zs : List Row) (ids : List ℕ) → length zs ≡ length ys → AreRows ys ids → AreRows zs ids
still ys zs ids same h = every-more (λ i. i < length ys) (λ i. i < length zs) (λ i l. rw same l) ids h

module _ (names : List Name) where
  pub length_named : (n : ℕ) (ids : List ℕ) (ys : List Row) → length (fold (row_named n) ys ids) ≡ length ys
  length_named n [] ys = refl
  length_named n (i ∷ ids) ys = length_named n ids (row_named n ys i) ∙ length-set ys i _

  pub named_named : (count n : ℕ) → n < count → (ids : List ℕ) (ys : List Row) → AreNamed count ys → AreNamed count (fold (row_named n) ys ids)
  named_named count n l [] ys h = h
  named_named count n l (i ∷ ids) ys h = named_named count n l ids (row_named n ys i) (every-set (λ (y : Row). y.name < count) _ ys i h l)

  pub shown_named : (n : ℕ) (name : Name) → name_at names n ≡ name → (ids : List ℕ) (ys : List Row) → AreRows ys ids
      → map (symbol_of_row names) (fold (row_named n) ys ids) ≡ fold (with_symbol_name name) (map (symbol_of_row names) ys) ids
  shown_named n name is [] ys h = refl
  shown_named n name is (i ∷ ids) ys h =
      shown_named n name is ids (row_named n ys i) (still ys (row_named n ys i) ids (length-set ys i _) h.1)
      ∙ ap (λ x. fold (with_symbol_name name) x ids)
      (symbol_changed names ys i i (get_or ys i no_row) (record (get_or ys i no_row) { name = n }) refl h.0 (read ys i h.0) (λ y. record y { name = name })
      (λ j. record (symbol_of_row names (get_or ys i no_row)) { name = is j }))
    where
      read : (xs : List Row) (k : ℕ) → k < length xs → get_or xs k no_row ≡ get_or xs k (get_or xs k no_row)
      read xs k l = get_or_default xs k no_row (get_or xs k no_row) l

  pub length_homes : (scope : ℕ) (ids : List ℕ) (ys : List Row) → length (fold (row_moved scope) ys ids) ≡ length ys
  length_homes scope [] ys = refl
  length_homes scope (i ∷ ids) ys = length_homes scope ids (row_moved scope ys i) ∙ length-set ys i _

  pub named_homes : (count scope : ℕ) → (ids : List ℕ) (ys : List Row) → AreRows ys ids → AreNamed count ys → AreNamed count (fold (row_moved scope) ys ids)
  named_homes count scope [] ys rows h = h
  named_homes count scope (i ∷ ids) ys rows h =
      named_homes count scope ids (row_moved scope ys i) (still ys (row_moved scope ys i) ids (length-set ys i _) rows.1)
      (every-set (λ (y : Row). y.name < count) _ ys i h (every-at (λ (y : Row). y.name < count) no_row ys i h rows.0))

  pub shown_homes : (scope : ℕ) → (ids : List ℕ) (ys : List Row) → AreRows ys ids
      → map (symbol_of_row names) (fold (row_moved scope) ys ids) ≡ fold (with_home scope) (map (symbol_of_row names) ys) ids
  shown_homes scope [] ys h = refl
  shown_homes scope (i ∷ ids) ys h =
      shown_homes scope ids (row_moved scope ys i) (still ys (row_moved scope ys i) ids (length-set ys i _) h.1)
      ∙ ap (λ x. fold (with_home scope) x ids)
      (symbol_changed names ys i i (get_or ys i no_row) (record (get_or ys i no_row) { scope = scope }) refl h.0 (get_or_default ys i no_row (get_or ys i no_row) h.0) (λ y. record y { scope = scope }) refl)

-- the symbols that a scope binds are rows
pub rows_bound : (names : ℕ) (ys : List Row) (b : Numbered) → AllByRecursion (IsBoundWithin names (length ys)) b → AreRows ys (values_of b)
rows_bound names ys [] h = tt
rows_bound names ys (e ∷ b) h = (h.0.1, rows_bound names ys b h.1)

-- the symbols of the bindings that the scope `to` takes over from the scope `from`
module _ (names : ℕ) (ys : List Row) (bs : List Numbered) (bound : AreBound names (length ys) bs) (from to : ℕ) (within : to < length bs)
    (taken : List Numbered) (is : taken ≡ set (set bs from []) to (get_or bs from [])) (ids : List ℕ) (read : ids ≡ values_of (get_or taken to [])) where
  pub ids_taken_over : ids ≡ values_of (get_or bs from [])
  ids_taken_over = read ∙ ap (λ x. values_of (get_or x to [])) is ∙ ap values_of (get_or-set_same (set bs from []) to (get_or bs from []) [] (rw length-set within))

  pub rows_taken_over : AreRows ys ids
  rows_taken_over = rw ids_taken_over (rows_bound names ys (get_or bs from []) (bound_at names (length ys) bs from bound))
