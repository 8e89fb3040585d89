-- The search outward for what decides about a `super`, scope by scope.
use Rattle.std.proofs.Common.{◌≡◌, ℕ, ◌<◌, List, [], ◌∷◌, Option, Some, None, ap, length}
use Rattle.std.specs.Prelude.{map}
use Rattle.std.specs.Option.{option_map, option_map_or, unwrap_or}
use Rattle.semantic_syntax.specs.Tables.{Tables}
use Rattle.semantic_syntax.specs.Source.{IsSource}
use Rattle.semantic_syntax.specs.Told.{source_of}
use Rattle.semantic_syntax.specs.Reading.{parent_of, chain}
use Rattle.check_model.specs.Context.{seen_row}
use Rattle.check_model.specs.Sight.{Sight, SeenScope, SeenClass}
use Rattle.check_model.specs.Super.{Verdict, decides, kept_after, search_from}
use Rattle.check_context.proofs.Outward.{next}

-- the scopes from one on, if there is one
abbrev pub scopes_from : Tables → Option ℕ → List SeenScope
scopes_from t scope = map (seen_row t) (option_map_or (chain t.scopes) scope [])

-- the first scope decides
pub found : (s : Sight) (kept : List SeenClass) (from : ℕ) (seen : SeenScope) (rest : List SeenScope) (verdict : Verdict) → decides s kept from seen ≡ Some verdict → search_from s kept from (seen ∷ rest) ≡ (verdict, kept)
found s kept from seen rest verdict h = ap (λ decided. unwrap_or (option_map (λ v. (v, kept)) decided) (search_from s (kept_after kept seen) seen.opener rest)) h

-- the first scope decides nothing
pub passed : (s : Sight) (kept : List SeenClass) (from : ℕ) (seen : SeenScope) (rest : List SeenScope) → decides s kept from seen ≡ None → search_from s kept from (seen ∷ rest) ≡ search_from s (kept_after kept seen) seen.opener rest
passed s kept from seen rest h = ap (λ decided. unwrap_or (option_map (λ v. (v, kept)) decided) (search_from s (kept_after kept seen) seen.opener rest)) h

module _ (t : Tables) (h : IsSource (source_of t)) where
  -- a scope, and then those outward from the one around it
  pub stepped : (scope : ℕ) (outer : Option ℕ) → scope < length t.scopes → parent_of t.scopes scope ≡ outer → scopes_from t (Some scope) ≡ seen_row t scope ∷ scopes_from t outer
  stepped scope outer within is = ap (map (seen_row t)) (next t h scope outer within is)
