-- References and bindings that are kept as others are dropped.
use Rattle.std.specs.Prelude.{◌≡◌, ℕ, ◌<◌, ◌≤◌, ◌==◌, ◌&&◌, ◌||◌, not, Bool, false, true, None, List, [], ◌∷◌, length, map, filter, nat_eq, slice_index_or}
use Rattle.std.specs.Option.{option_map_or}
use Rattle.std.specs.Map.{lookup, set_value}
use Rattle.indexmap.specs.IndexMap.{shift_remove_entry, swap_remove_by}
use Rattle.semantic_syntax.specs.declared.references.Reference.{Reference}
use Rattle.semantic_syntax.specs.declared.reference_flags.TheConstants.ReferenceFlags as way
use Rattle.semantic_syntax.specs.declared.symbol_flags.TheConstants.SymbolFlags as symbol
use Rattle.semantic_syntax.specs.Sets.{meets}
use Rattle.scoping_rows.specs.Row.{Row, no_row}
use Rattle.scoping_rows.specs.Flat.{SlotList}
use Rattle.semantic_syntax.specs.Reading.{no_reference}

-- whether the reference is not marked; one past the end is not
abbrev pub is_unmarked : List Bool → ℕ → Bool
is_unmarked excluded r = not (slice_index_or excluded r false)

abbrev pub without_marked : List Bool → List ℕ → List ℕ
without_marked excluded rs = filter (is_unmarked excluded) rs

-- whether a use in the way is of types alone: as a type and not by value, or of the type of a value
abbrev pub is_of_types : ℕ → Bool
is_of_types w = (meets w way.TypeFlag.bits && not (meets w way.Value.bits)) || meets w way.ValueAsType.bits

abbrev pub is_used_by_value : List Reference → ℕ → Bool
is_used_by_value references r = not (is_of_types (slice_index_or references r no_reference).flags.bits)

abbrev pub without_type_uses : List Reference → List ℕ → List ℕ
without_type_uses references rs = filter (is_used_by_value references) rs

-- the lists without uses of types; empty lists go
abbrev pub lists_without_types : {K : Type 0} → List Reference → List (K × List ℕ) → List (K × List ℕ)
lists_without_types references es = filter (λ e. not (length e.1 == 0)) (map (λ e. (e.0, without_type_uses references e.1)) es)

-- whether a symbol with the flags goes with the types
abbrev pub goes_with_types : ℕ → Bool
goes_with_types flags =
    meets flags symbol.TypeAlias.bits
    || meets flags symbol.Interface.bits
    || meets flags symbol.TypeParameter.bits
    || meets flags symbol.EnumMember.bits

-- whether the symbol of the row stays as types go
abbrev pub stays : List Row → ℕ → Bool
stays ys y = not (goes_with_types (slice_index_or ys y no_row).flags.bits)

-- the bindings of symbols that stay
abbrev pub rows_without_types : {K : Type 0} → List Row → List (K × ℕ) → List (K × ℕ)
rows_without_types ys bs = filter (λ b. stays ys b.1) bs

-- the entries with another list for the key; an empty one goes
abbrev pub relisted : {K : Type 0} → (K → Bool) → List (K × List ℕ) → List ℕ → List (K × List ℕ)
relisted test es [] = shift_remove_entry test es
relisted test es (r ∷ rs) = set_value test es (r ∷ rs)

-- the entries without the reference in the key's list: the last one takes its place, and an empty list goes
abbrev pub delisted : {K : Type 0} → (K → Bool) → ℕ → List (K × List ℕ) → List (K × List ℕ)
delisted test r es = option_map_or (λ rs. relisted test es (swap_remove_by (nat_eq r) rs)) (lookup test es) es

-- the slots below the place stay as types go, and stand one behind the other below `packed`
pub record IsPacked (ys : List Row) (xs : SlotList) (packed position : ℕ) : Type 0 where
  pub behind : packed ≤ position
  pub gap : (i : ℕ) → packed ≤ i → i < position → slice_index_or xs i None ≡ None
  pub stay : (i : ℕ) → i < position → option_map_or (λ b. stays ys b.1) (slice_index_or xs i None) true ≡ true
