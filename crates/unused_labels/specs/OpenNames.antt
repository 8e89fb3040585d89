-- The names of the labels around a place, and the innermost of a name.
use Rattle.std.specs.Prelude.{ℕ, suc, List, [], ◌∷◌, Bool, Option, Some, None, cond, map, bytes_eq}
use Rattle.std.specs.Str.{chars}
use Rattle.semantic_syntax.specs.Tables.{Name}
use Rattle.unused_labels.specs.declared.labels.LabeledScope.{LabeledScope}

-- the names of labelled statements
abbrev pub names_around : List LabeledScope → List Name
names_around labels = map (λ l. chars l.name.text.now) labels

-- one place on, or the first, if it has the name
abbrev pub next_or_first : Option ℕ → Bool → Option ℕ
next_or_first (Some k) has = Some (suc k)
next_or_first None has = cond has (Some 0) None

-- the place of the last of the name
abbrev pub last_place : Name → List Name → Option ℕ
last_place name [] = None
last_place name (x ∷ xs) = next_or_first (last_place name xs) (bytes_eq x name)
