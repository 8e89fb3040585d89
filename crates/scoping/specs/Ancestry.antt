-- The scopes outward from one.
use Rattle.std.specs.Prelude.{◌≡◌, ℕ, ◌-◌, List, length, slice_get, slice_index_or, nat_eq, None, Some}
use Rattle.std.specs.List.{IsDistinct}
use Rattle.semantic_syntax.specs.Tables.{Scope}
use Rattle.semantic_syntax.specs.Reading.{parent_of}

-- the list begins with the scope, ends with one that has none around it, and repeats none
pub record RunsOutward (scopes : List Scope) (s : ℕ) (outward : List ℕ) : Type 0 where
  pub begins : slice_get outward 0 ≡ Some s
  pub ends : parent_of scopes (slice_index_or outward (length outward - 1) s) ≡ None
  pub repeats_none : IsDistinct nat_eq outward
