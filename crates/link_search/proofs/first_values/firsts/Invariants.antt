use Rattle.std.proofs.Common.{◌≡◌, ℕ, drop, nat_eq}
use Rattle.std.specs.Map.{lookup}
use Rattle.indexmap.specs.IndexMap.{get}
use Rattle.link_search.proofs.Orelse.{or_else}
use Rattle.link_search.proofs.first_values.firsts.Given as goal

-- what the map has comes before what is left
abbrev pub invariant-loop-key : goal.invariant-loop-key
invariant-loop-key g l = (k : ℕ) → or_else (get nat_eq l.made k) (lookup (nat_eq k) (drop l.key-index l.pairs)) ≡ lookup (nat_eq k) l.pairs
