-- Scopes one inside the other are a source.
use Rattle.std.proofs.Common.{◌≡◌, ℕ, zero, suc, ◌<◌, ◌-◌, ◌==◌, Bool, true, false, if◌then◌else◌, List, None, Some, IfSome, length, refl, arith}
use Rattle.std.specs.Option.{option_map_or}
use Rattle.std.specs.Str.{bytes_eq}
use Rattle.semantic_syntax.specs.Tables.{Name}
use Rattle.semantic_syntax.specs.Source.{IsSource, ends_within}
use Rattle.scoping_rows.specs.Names.{name_at}
use Rattle.library_cases.specs.Nested.{scope_around, own_symbol, nest_of}

around_within : (count s : ℕ) → s < count → IfSome (scope_around s) (λ p. p < count)
around_within count s h = by (s == 0)
  where
    by : (b : Bool) → IfSome (if b then None else Some (s - 1)) (λ p. p < count)
    by true = tt
    by false = omega (arith, h)

nest_ends : (count s : ℕ) → s < count → ends_within scope_around count s ≡ true
unfolding ends_within
nest_ends zero s h = absurd (omega (arith, h))
nest_ends (suc count) zero h = refl
nest_ends (suc count) (suc s) h = by (suc s == 0) (nest_ends count (suc s - 1) (omega (arith, h)))
  where
    by : (b : Bool) → ends_within scope_around count (suc s - 1) ≡ true → option_map_or (ends_within scope_around count) (if b then None else Some (suc s - 1)) true ≡ true
    by true rest = refl
    by false rest = rest

own_within : (names : List Name) (s : ℕ) (name : Name) → s < length names → IfSome (own_symbol names s name) (λ y. y < length names)
own_within names s name h = by (bytes_eq name (name_at names s))
  where
    by : (b : Bool) → IfSome (if b then Some s else None) (λ y. y < length names)
    by true = h
    by false = tt

pub nest_is_source : (names : List Name) (flags declared way : ℕ) → IsSource (nest_of names flags declared way)
nest_is_source names flags declared way = record {
  parents = around_within (length names);
  ends = nest_ends (length names);
  bound_symbols = own_within names;
}
