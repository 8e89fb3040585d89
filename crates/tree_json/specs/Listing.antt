-- Which lines are the listing of a tree.
use Rattle.std.specs.Prelude.{◌≡◌, ◌<◌, ◌≤◌, ℕ, ◌+◌, List, [], ◌∷◌}
use Rattle.std.specs.Str.{chars}
use Rattle.semantic_kinds.specs.declared.role.Role.TheVariants.{Root}
use Rattle.tree_json.specs.Lines.{Line}
use Rattle.tree_json.specs.declared.row.Row.{Row}

-- the line that a row says
abbrev pub line : Row → Line
line r = record { depth = r.depth; role = r.role; kind = r.kind; span = r.span; text = chars r.text.now; marks = r.marks }

-- each line is at most as deep as nodes are open, and only the first is a root
abbrev pub Continues : ℕ → List Line → Type 0
Continues opened [] = Unit {0}
Continues opened (l ∷ ls) = (l.depth ≤ opened) × (0 < opened → 0 < l.depth) × Continues (l.depth + 1) ls

abbrev pub IsListing : List Line → Type 0
IsListing [] = ⊥
IsListing (l ∷ ls) = (l.role ≡ Root) × Continues 0 (l ∷ ls)

-- what follows is less deep
abbrev pub IsLessDeep : ℕ → List Line → Type 0
IsLessDeep depth [] = Unit {0}
IsLessDeep depth (l ∷ ls) = l.depth < depth
