-- Names that have one symbol, and mean something wherever they are referred to.
use Rattle.std.specs.Prelude.{◌≡◌, Bool, true, false, ◌&&◌, ◌||◌, not, bytes_eq}
use Rattle.std.specs.List.{list_all}
use Rattle.semantic_kinds.specs.declared.kind.AstType.TheVariants as kind
use Rattle.semantic_syntax.specs.Tables.{Name}
use Rattle.semantic_tree.specs.Tree.{Tree}
use Rattle.semantic_tree.specs.Views.{is}
use Rattle.semantic_model.specs.Entries.{Among}
use Rattle.semantic_model.specs.Place.{Place}
use Rattle.semantic_model.specs.Step.{Step, entering, steps}
use Rattle.semantic_model.specs.TablesOf.{tables_of}
use Rattle.tangle_model.specs.Tangled.{is_shared}
use Rattle.typescript_ties.specs.NamedDeclarations.{named_in}
use Rattle.typescript_ties.specs.Resolved.{Resolved, nowhere, declared_in, name_use, resolved_by}

abbrev pub means_something : Resolved → Bool
means_something nowhere = false
means_something (declared_in c ids) = true

-- what the reference of the place means is declared
abbrev pub is_meant_at : Tree → Place → Bool
is_meant_at p q = means_something (resolved_by (named_in p) (name_use p.source_type q))

-- each reference of the name means something
abbrev pub IsMeantEverywhere : Tree → Name → Type 0
IsMeantEverywhere p x = (q : Place) → Among (entering q) (steps p) → is kind.IdentifierReference q.node ≡ true → q.node.text ≡ x → is_meant_at p q ≡ true

-- no two symbols have the name, and it means something wherever it is referred to
pub record IsSingleName (p : Tree) (x : Name) : Type 0 where
  pub alone : is_shared (tables_of p).symbols x ≡ false
  pub meant : IsMeantEverywhere p x

-- the same, tried
abbrev pub is_meant_step : Tree → Name → Step → Bool
is_meant_step p x (entering q) = not (is kind.IdentifierReference q.node && bytes_eq q.node.text x) || is_meant_at p q
is_meant_step p x _ = true

abbrev pub is_single_name : Tree → Name → Bool
is_single_name p x = not (is_shared (tables_of p).symbols x) && list_all (is_meant_step p x) (steps p)
