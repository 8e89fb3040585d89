-- The names that the tables are told to declare, and those that a program declares.
use Rattle.std.specs.Prelude.{◌≡◌, ℕ, List, ◌++◌, Bool, false, Some, None, map, slice_get, bytes_eq}
use Rattle.std.specs.List.{list_any}
use Rattle.semantic_kinds.specs.declared.kind.AstType.TheVariants as kind
use Rattle.semantic_syntax.specs.Tables.{Name}
use Rattle.semantic_syntax.specs.declared.references.Reference.{Reference}
use Rattle.semantic_syntax.specs.declared.source_type.SourceType.{SourceType}
use Rattle.semantic_tree.specs.Tree.{Tree}
use Rattle.semantic_tree.specs.Views.{is}
use Rattle.semantic_model.specs.Binder.{declared_on_entering, declared_on_opening}
use Rattle.semantic_model.specs.Declaration.{Declaration}
use Rattle.semantic_model.specs.EachStep.{EachStep}
use Rattle.semantic_model.specs.Reference.{Occurrence, references}
use Rattle.semantic_model.specs.ScopeKind.{opened_scope}
use Rattle.semantic_model.specs.Step.{Step, entering, opening, header_ending, closing, leaving, steps}
use Rattle.semantic_model.specs.TablesOf.{tables_of}
use Rattle.typescript_ties.specs.Containers.{Container}
use Rattle.typescript_ties.specs.MeaningSets.{MeaningSet}
use Rattle.typescript_ties.specs.NamedDeclarations.{NamedDeclaration, named_by_node, named_in}
use Rattle.typescript_ties.specs.Resolved.{nowhere, resolve}

-- an identifier and the name that it declares
pub record NamedIdentifier : Type 0 where
  pub identifier : ℕ
  pub name : Name

abbrev pub told_to_tables : Declaration → NamedIdentifier
told_to_tables d = record { identifier = d.naming.identifier; name = d.naming.name }

abbrev pub told_by_language : NamedDeclaration → NamedIdentifier
told_by_language d = record { identifier = d.identifier; name = d.name }

-- at a node that is entered: the tables leave out the parameters of index signatures
abbrev pub NamesAsDeclared : SourceType → Step → Type 0
NamesAsDeclared s (entering p) =
    is kind.TSIndexSignatureName p.node ≡ false
    → map told_to_tables (declared_on_opening p (opened_scope p 0) ++ declared_on_entering p) ≡ map told_by_language (named_by_node p.node.kind s p.node p.path)
NamesAsDeclared s (opening p o) = Unit {0}
NamesAsDeclared s (header_ending p o) = Unit {0}
NamesAsDeclared s (closing p o) = Unit {0}
NamesAsDeclared s (leaving p) = Unit {0}

-- at each node of the program
abbrev pub NamesAreDeclared : Tree → Type 0
NamesAreDeclared p = EachStep (NamesAsDeclared p.source_type) (steps p)

-- whether a node of the program declares the name
abbrev pub is_declared_in : Tree → Name → Bool
is_declared_in p name = list_any (λ d. bytes_eq d.name name) (named_in p)

-- the tables tie no reference of the name
abbrev pub IsUntiedEverywhere : Tree → Name → Type 0
IsUntiedEverywhere p name = (n : ℕ) (r : Occurrence) (e : Reference) → slice_get (references (steps p)) n ≡ Some r → slice_get (tables_of p).references n ≡ Some e → r.name ≡ name → e.symbol_id ≡ None

-- it means nothing anywhere
abbrev pub MeansNothing : Tree → Name → Type 0
MeansNothing p name = (cs : List Container) (asked : MeaningSet) → resolve (named_in p) cs asked name ≡ nowhere
