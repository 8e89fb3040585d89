-- The first scope outward that binds a name.
use Rattle.std.proofs.Common.{◌≡◌, ℕ, List, [], ◌∷◌, None, Some, get_or, refl, ap}
use Rattle.std.specs.Option.{option_map_or}
use Rattle.std.specs.Str.{bytes_eq}
use Rattle.std.specs.Map.{lookup}
use Rattle.semantic_syntax.specs.Tables.{Name, Bindings}
use Rattle.semantic_syntax.specs.Reading.{first_bound}

module _ (bindings : List Bindings) (name : Name) where
  pub first_bound-found : (s y : ℕ) (ss : List ℕ) → lookup (bytes_eq name) (get_or bindings s []) ≡ Some y → first_bound bindings name (s ∷ ss) ≡ Some y
  unfolding first_bound
  first_bound-found s y ss found = ap (λ o. option_map_or (λ x. Some x) o (first_bound bindings name ss)) found

  pub first_bound-passed : (s : ℕ) (ss : List ℕ) → lookup (bytes_eq name) (get_or bindings s []) ≡ None → first_bound bindings name (s ∷ ss) ≡ first_bound bindings name ss
  unfolding first_bound
  first_bound-passed s ss none = ap (λ o. option_map_or (λ x. Some x) o (first_bound bindings name ss)) none

  pub first_bound-none : first_bound bindings name [] ≡ None
  unfolding first_bound
  first_bound-none = refl
