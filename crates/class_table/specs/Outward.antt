-- The way outward from a class.
use Rattle.std.specs.Prelude.{ℕ, zero, suc, ◌<◌, List, [], ◌∷◌, Option, IfSome, nat_eq}
use Rattle.std.specs.Map.{lookup}
use Rattle.std.specs.Option.{option_map_or}

-- the class around a class, if it stands inside one
abbrev pub parent_class : List (ℕ × ℕ) → ℕ → Option ℕ
parent_class parents c = lookup (nat_eq c) parents

-- each class stands behind the one around it
abbrev pub StandBefore : List (ℕ × ℕ) → Type 0
StandBefore parents = (c : ℕ) → IfSome (parent_class parents c) (λ p. p < c)

-- a class and those around it, inner first, at most so many
abbrev pub classes_outward_within : ℕ → List (ℕ × ℕ) → ℕ → List ℕ
classes_outward_within zero parents c = []
classes_outward_within (suc steps) parents c = c ∷ option_map_or (classes_outward_within steps parents) (parent_class parents c) []

-- a class and those around it, inner first
abbrev pub classes_outward : List (ℕ × ℕ) → ℕ → List ℕ
classes_outward parents c = classes_outward_within (suc c) parents c

-- the same, of a class that there may be
abbrev pub classes_outward_from : List (ℕ × ℕ) → Option ℕ → List ℕ
classes_outward_from parents c = option_map_or (classes_outward parents) c []
