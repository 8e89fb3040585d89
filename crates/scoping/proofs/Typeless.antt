-- What tables show once the symbols that go with types are unbound.
use Rattle.std.proofs.Common.{◌≡◌, ℕ, ◌==◌, Bool, true, false, not, cond, List, [], ◌∷◌, length, get_or, map, zero, suc, refl, ap}
use Rattle.semantic_syntax.specs.declared.references.Reference.{Reference}
use Rattle.semantic_syntax.specs.Tables.{Name}
use Rattle.scoping_rows.specs.Flat.{Numbered}
use Rattle.scoping_rows.specs.Names.{name_at, named}
use Rattle.semantic_syntax.specs.Reading.{no_symbol}
use Rattle.scoping_rows.specs.Row.{Row, no_row, symbol_of_row}
use Rattle.scoping_rows.specs.Kept.{stays, rows_without_types, lists_without_types, without_type_uses}
use Rattle.scoping.specs.Kept.{without_types}

-- what the tables show of it
module _ (names : List Name) where
  flags_at : (ys : List Row) (y : ℕ) → (get_or (map (symbol_of_row names) ys) y no_symbol).flags ≡ (get_or ys y no_row).flags
  flags_at [] y = refl
  flags_at (r ∷ ys) zero = refl
  flags_at (r ∷ ys) (suc y) = flags_at ys y

  module _ (ys : List Row) where
    shown_kept : (b : Numbered) → named names (rows_without_types ys b) ≡ without_types (map (symbol_of_row names) ys) (named names b)
    shown_kept [] = refl
    shown_kept (e ∷ b) = rw (flags_at ys e.1) (by (stays ys e.1) (shown_kept b))
      where
        by : (k : Bool) → named names (rows_without_types ys b) ≡ without_types (map (symbol_of_row names) ys) (named names b)
            → named names (cond k (e ∷ rows_without_types ys b) (rows_without_types ys b))
            ≡ cond k ((name_at names e.0, e.1) ∷ without_types (map (symbol_of_row names) ys) (named names b)) (without_types (map (symbol_of_row names) ys) (named names b))
        by true rest = ap (λ t. (name_at names e.0, e.1) ∷ t) rest
        by false rest = rest

    pub shown_typeless : (bs : List Numbered) → map (named names) (map (rows_without_types ys) bs) ≡ map (without_types (map (symbol_of_row names) ys)) (map (named names) bs)
    shown_typeless [] = refl
    shown_typeless (b ∷ bs) = rw (shown_kept b, shown_typeless bs) refl

  pub shown_lists : (references : List Reference) (es : List (ℕ × List ℕ)) → named names (lists_without_types references es) ≡ lists_without_types references (named names es)
  shown_lists references [] = refl
  shown_lists references (e ∷ es) = by (not (length (without_type_uses references e.1) == 0)) (shown_lists references es)
    where
      head : List ℕ
      head = without_type_uses references e.1

      by : (k : Bool) → named names (lists_without_types references es) ≡ lists_without_types references (named names es)
          → named names (cond k ((e.0, head) ∷ lists_without_types references es) (lists_without_types references es))
          ≡ cond k ((name_at names e.0, head) ∷ lists_without_types references (named names es)) (lists_without_types references (named names es))
      by true rest = ap (λ t. (name_at names e.0, head) ∷ t) rest
      by false rest = rest
