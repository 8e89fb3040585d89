-- Unused short names in order.
use Rattle.std.specs.Prelude.{◌≡◌, ◌≤◌, ◌<◌, ◌+◌, ◌^◌, ℕ, List, Bool, true, false, filter, map, string_bytes}
use Rattle.std.specs.List.{range_with_len}
use Rattle.std.specs.Str.{chars}
use Rattle.semantic_syntax.specs.Tables.{Name}
use Rattle.mangle_model.specs.ShortNames.{short_name}
use Rattle.simple_names.specs.declared.next_name.Short.{Short}

-- the unused ones of so many numbers from one on
abbrev pub unused_from : (unused : Name → Bool) → (from count : ℕ) → List Name
unused_from unused from count = filter unused (map short_name (range_with_len from count))

-- the next unused one from a number on
pub record IsNextName (unused : Name → Bool) (from : ℕ) (short : Short) : Type 0 where
  pub named : chars (string_bytes short.name) ≡ short_name short.number
  pub is_unused : unused (short_name short.number) ≡ true
  pub after : from ≤ short.number
  pub used : (n : ℕ) → from ≤ n → n < short.number → unused (short_name n) ≡ false
  pub small : short.number + 1 < 2 ^ 64
