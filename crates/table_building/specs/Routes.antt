-- Ways outward through the scopes of tables.
use Rattle.std.specs.Prelude.{◌≡◌, ℕ, ◌<◌, List, map, All}
use Rattle.semantic_syntax.specs.Sets.{meets}
use Rattle.semantic_syntax.specs.Tables.{Tables}
use Rattle.semantic_syntax.specs.Reading.{scope_of, chain}
use Rattle.semantic_model.specs.Place.{OpenScope, no_scope}
use Rattle.semantic_model.specs.Declaration.{Route as Way, outward_to}
use Rattle.table_building.specs.declared.route.Route.{Route}

abbrev pub open_of : Tables → ℕ → OpenScope
open_of t s = record no_scope { number = s; flags = (scope_of t s).flags.bits }

-- the scopes from one outward
abbrev pub open_from : Tables → ℕ → List OpenScope
open_from t s = map (open_of t) (chain t.scopes s)

-- outward to the first scope with one of the flags
abbrev pub way_from : Tables → (from bits : ℕ) → Way
way_from t from bits = outward_to (λ s. meets s.flags bits) (open_from t from)

-- the route is the way
pub record IsRouteOf (way : Way) (route : Route) : Type 0 where
  pub passes : route.passed.items ≡ map (λ s. s.number) way.passed
  pub ends : route.target ≡ way.target.number

-- the route goes through scopes of so many
pub record IsRoute (count : ℕ) (route : Route) : Type 0 where
  pub passed : All (λ s. s < count) route.passed.items
  pub target : route.target < count
