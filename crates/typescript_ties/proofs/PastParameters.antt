-- References in the type parameters of something that has a parameter of their name: there the language doesn't see it.
use Rattle.std.specs.Prelude.{◌≡◌, ◌==◌, List, [], ◌∷◌, Bool, true, false, ◌&&◌, ◌||◌, bytes_eq}
use Rattle.std.specs.List.{list_any}
use Rattle.semantic_kinds.specs.declared.kind.AstType.TheVariants as kind
use Rattle.semantic_syntax.specs.Tables.{Name}
use Rattle.semantic_tree.specs.Tree.{Tree}
use Rattle.semantic_tree.specs.Views.{is}
use Rattle.semantic_tree.specs.declared.node.Node.{Node}
use Rattle.semantic_model.specs.Entries.{Among}
use Rattle.semantic_model.specs.Place.{Place}
use Rattle.semantic_model.specs.Step.{entering, steps}
use Rattle.typescript_ties.specs.AskedMeanings.{asked_by_reference}
use Rattle.typescript_ties.specs.NamedDeclarations.{NamedDeclaration, is_sort, named_in}
use Rattle.typescript_ties.specs.declared.declaration_sort.DeclarationSort.TheVariants as sort

-- a parameter of the name that the node has
abbrev pub is_parameter_named : Node → Name → NamedDeclaration → Bool
is_parameter_named f name d = is_sort sort.Parameter d && (bytes_eq d.name name && d.container.node == f.node_id)

-- whether a node stands in the type parameters of such a node
abbrev pub is_past_parameter : List NamedDeclaration → Name → Node → List Node → Bool
is_past_parameter ds name child [] = false
is_past_parameter ds name child (f ∷ path) = (is kind.TSTypeParameterDeclaration child && list_any (is_parameter_named f name) ds) || is_past_parameter ds name f path

-- no reference of the name asks for a value there, as in `<T extends typeof a>(a: T)`
abbrev pub AsksPastNoParameter : Tree → Name → Type 0
AsksPastNoParameter p x =
    (q : Place) → Among (entering q) (steps p) → is kind.IdentifierReference q.node ≡ true → q.node.text ≡ x → is_past_parameter (named_in p) x q.node q.path ≡ true → (asked_by_reference q.path).value ≡ false
