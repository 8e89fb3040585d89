-- Where exported names lead in one step.
use Rattle.std.specs.Prelude.{ℕ, ◌<◌, ◌==◌, nat_eq, nat_lt, List, [], ◌∷◌, Option, Some, None, if◌then◌else◌, map, length, slice_get}
use Rattle.indexmap.specs.IndexMap.{get}
use Rattle.reachability.specs.Rows.{Among}
use Rattle.link_search.specs.Numbering.{Pair}
use Rattle.link_search.specs.declared.target.Target.{Target}
use Rattle.link_search.specs.declared.target.Target.TheVariants.{Name, End}
use Rattle.link_search.specs.declared.exports.ModuleExports.{ModuleExports}
use Rattle.link_search.specs.declared.exports.SetExports.{SetExports}
use Rattle.link_search.specs.Targets.{target_names}

-- the name as each of these modules exports it
abbrev pub passed_on : ℕ → List ℕ → List Target
passed_on name stars = map (λ m. Name m name) stars

abbrev pub if_any : Option Target → List Target
if_any None = []
if_any (Some t) = t ∷ []

-- a name that no node exports is passed on by stars, unless it is `default`
abbrev pub exported_or_passed : ℕ → ModuleExports → ℕ → Option (Option Target) → List Target
exported_or_passed default_name m name (Some target) = if_any target
exported_or_passed default_name m name None = if name == default_name then [] else passed_on name m.stars.items

abbrev pub module_targets : ℕ → ModuleExports → ℕ → List Target
module_targets default_name m name = exported_or_passed default_name m name (get nat_eq m.names name)

abbrev pub targets_at : SetExports → ℕ → Option ModuleExports → List Target
targets_at s name None = []
targets_at s name (Some m) = module_targets s.default_name m name

-- where a name of a module leads; a number that no name has leads nowhere
abbrev pub targets_of : SetExports → Pair → List Target
targets_of s p = if nat_lt p.1 s.names then targets_at s p.1 (slice_get s.modules.items p.0) else []

-- where a target leads: a terminal nowhere
abbrev pub leads_of : SetExports → Target → List Target
leads_of s (Name m k) = targets_of s (m, k)
leads_of s (End t) = []

-- names lead only to names that there are
abbrev pub StaysWithin : SetExports → Type 0
StaysWithin s = (p q : Pair) → Among q (target_names (targets_of s p)) → (q.0 < length s.modules.items) × (q.1 < s.names)
