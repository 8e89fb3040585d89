-- Names that a program binds nowhere.
use Rattle.std.specs.Prelude.{◌≡◌, ℕ, Bool, Some, None, slice_get, bytes_eq}
use Rattle.std.specs.List.{list_any}
use Rattle.semantic_syntax.specs.Tables.{Name}
use Rattle.semantic_syntax.specs.declared.references.Reference.{Reference}
use Rattle.semantic_tree.specs.Tree.{Tree}
use Rattle.semantic_model.specs.Reference.{Occurrence, references}
use Rattle.semantic_model.specs.Step.{steps}
use Rattle.semantic_model.specs.TablesOf.{tables_of}
use Rattle.language_ties.specs.Bound.{written}

-- whether a node of the program binds the name
abbrev pub binds_name : Tree → Name → Bool
binds_name p name = list_any (λ b. bytes_eq b.name name) (written p.source_type (steps p))

-- the tables tie no reference of the name
abbrev pub IsFreeEverywhere : Tree → Name → Type 0
IsFreeEverywhere p name = (n : ℕ) (r : Occurrence) (e : Reference) → slice_get (references (steps p)) n ≡ Some r → slice_get (tables_of p).references n ≡ Some e → r.name ≡ name → e.symbol_id ≡ None
