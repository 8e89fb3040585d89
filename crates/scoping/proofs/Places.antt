-- What a scope binds under the number that a table has for a name.
use Rattle.std.proofs.Common.{◌≡◌, ℕ, ◌<◌, List, [], Option, None, length, get_or, sym, ap, ◌∙◌, arith}
use Rattle.std.specs.Map.{lookup}
use Rattle.std.specs.Str.{bytes_eq}
use Rattle.std.proofs.lemmas.List.{get_or-map, length-map}
use Rattle.semantic_syntax.specs.Tables.{Name, Tables}
use Rattle.semantic_syntax.specs.Reading.{bound_in}
use Rattle.scoping_rows.specs.Flat.{Numbered, bound_under}
use Rattle.scoping.specs.Placed.{IsPlaceOf}

module _ (t : Tables) (name : Name) (bs : List Numbered) (number : Option ℕ) (place : IsPlaceOf t name bs number) (counted : length t.bindings ≡ length t.scopes) where
  same_length : length bs ≡ length t.bindings
  same_length = sym (length-map bs (bound_under number)) ∙ ap length place ∙ length-map t.bindings (lookup (bytes_eq name))

  module _ (s : ℕ) (within : s < length t.scopes) where
    pub place_within : s < length bs
    place_within = omega (arith, within, counted, same_length)

    pub bound_at_place : bound_under number (get_or bs s []) ≡ bound_in t s name
    bound_at_place =
        sym (get_or-map (bound_under number) bs s [] None place_within) ∙ ap (λ xs. get_or xs s None) place
        ∙ get_or-map (lookup (bytes_eq name)) t.bindings s [] None (omega (arith, within, counted))
