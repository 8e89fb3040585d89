-- What is known of open labels: of each the place of the one around it that has its name, and of each name the place of
-- the innermost.
use Rattle.std.specs.Prelude.{◌≡◌, ℕ, suc, List, [], ◌∷◌, Option, Some, None, cond, map}
use Rattle.std.specs.Borrow.{Bor}
use Rattle.std.specs.Map.{lookup}
use Rattle.std.specs.Str.{chars, bytes_eq, IsUtf8}
use Rattle.semantic_syntax.specs.Tables.{Name}
use Rattle.unused_labels.specs.declared.open_labels.OpenLabel.{OpenLabel}

abbrev pub label_names : List OpenLabel → List Name
label_names labels = map (λ l. chars l.name.now) labels

-- where the innermost label of a name stands, by the bytes of the name
abbrev pub Places : Type 0
Places = List ℕ → Option ℕ

abbrev pub nowhere : Places
nowhere name = None

-- the innermost of this name stands at the place
abbrev pub with_place : Places → List ℕ → ℕ → Places
with_place places name place other = cond (bytes_eq name other) (Some place) (places other)

-- the places that a map has
abbrev pub places_of_map : List (Bor (List ℕ) × ℕ) → Places
places_of_map entries name = lookup (λ k. bytes_eq name k.now) entries

-- with these labels from a place on, further inward than those of which places are known, the places are the last ones
abbrev pub PlacesAreKnown : Places → ℕ → List OpenLabel → Places → Type 0
PlacesAreKnown places n [] last = (name : Bor (List ℕ)) → last name.now ≡ places name.now
PlacesAreKnown places n (l ∷ ls) last = IsUtf8 l.name.now × ((l.outer ≡ places l.name.now) × PlacesAreKnown (with_place places l.name.now n) (suc n) ls last)
