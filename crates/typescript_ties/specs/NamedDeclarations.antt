-- The names that a node declares, as what, and the containers that have them.
use Rattle.std.specs.Prelude.{ℕ, List, [], ◌∷◌, Bool, false, ◌&&◌, ◌||◌, not, cond, map, flat_map, codes}
use Rattle.std.specs.List.{list_any}
use denote.Enum.Bare.{sameb}
use Rattle.semantic_kinds.specs.Classes.{holds_kind}
use Rattle.semantic_kinds.specs.declared.kind.AstType.{AstType}
use Rattle.semantic_kinds.specs.declared.kind.AstType.TheVariants as kind
use Rattle.semantic_kinds.specs.declared.mark.Mark.TheVariants as mark
use Rattle.semantic_kinds.specs.declared.role.Role.TheVariants as role
use Rattle.semantic_syntax.specs.SourceTypes.{is_module}
use Rattle.semantic_syntax.specs.Tables.{Name}
use Rattle.semantic_syntax.specs.declared.source_type.SourceType.{SourceType}
use Rattle.semantic_tree.specs.Tree.{Tree}
use Rattle.semantic_tree.specs.Views.{is, has, is_with_text, has_use_strict, child_of, children_of, holds}
use Rattle.semantic_tree.specs.declared.node.Node.{Node}
use Rattle.semantic_model.specs.Binder.{is_statement, member_named}
use Rattle.semantic_model.specs.Names.{bound_names, names_at}
use Rattle.semantic_model.specs.Namespace.{InstanceState, non_instantiated, instance_state, nodes_around}
use Rattle.semantic_model.specs.Place.{parent_holds}
use Rattle.semantic_model.specs.Step.{Step, entering, steps}
use Rattle.typescript_ties.specs.Containers.{Container, container_of, no_container, is_container, bound_container, is_exported_under, containers}
use Rattle.typescript_ties.specs.contracts.declaration_sort.DeclarationSort.{the_type as the_sorts}
use Rattle.typescript_ties.specs.declared.container_kind.ContainerKind.TheVariants as container
use Rattle.typescript_ties.specs.declared.declaration_sort.DeclarationSort.{DeclarationSort}
use Rattle.typescript_ties.specs.declared.declaration_sort.DeclarationSort.TheVariants as sort

abbrev pub same_sort : DeclarationSort → DeclarationSort → Bool
same_sort = sameb the_sorts

-- a name that an identifier declares
pub record NamedDeclaration : Type 0 where
  pub sort : DeclarationSort
  pub identifier : ℕ
  pub name : Name
  -- the container that has it
  pub container : Container
  -- others that have it as well: what is global where a `global` block declares it, and of an `infer` the `infer` itself
  pub also : List Container

abbrev pub is_sort : DeclarationSort → NamedDeclaration → Bool
is_sort k d = same_sort d.sort k

abbrev pub named_declaration : DeclarationSort → Container → List Container → Node → NamedDeclaration
named_declaration k c also id = record { sort = k; identifier = id.node_id; name = id.text; container = c; also = also }

-- what a `global` block declares is global
abbrev pub global_besides : Container → List Container
global_besides c = cond (is_container container.GlobalMembers c) (no_container ∷ []) []

abbrev pub declared_in_container : DeclarationSort → Container → Node → NamedDeclaration
declared_in_container k c id = named_declaration k c (global_besides c) id

-- in the innermost container, or as a member
abbrev pub declared_here : DeclarationSort → SourceType → Node → List Node → Node → NamedDeclaration
declared_here k s x path id = declared_in_container k (bound_container (is_exported_under s path) (containers s x path)) id

-- by itself, an import is no member
abbrev pub imported_as : DeclarationSort → SourceType → Node → List Node → Node → NamedDeclaration
imported_as k s x path id = declared_in_container k (bound_container (parent_holds (is kind.ExportDeclaration) path) (containers s x path)) id

abbrev pub import_sort : Node → List Node → DeclarationSort
import_sort x path = cond (has mark.TypeOnly x || parent_holds (has mark.TypeOnly) path) sort.TypeImport sort.Import

abbrev pub imported_here : SourceType → Node → List Node → Node → NamedDeclaration
imported_here s x path id = imported_as (import_sort x path) s x path id

-- what takes the variables, and in sloppy code the functions, of the blocks in it
abbrev pub takes_vars : Container → Bool
takes_vars c =
    is_container container.Body c || is_container container.StaticBlock c || is_container container.ModuleBlock c || is_container container.File c

abbrev pub from_first_taking : List Container → List Container
from_first_taking [] = []
from_first_taking (c ∷ cs) = cond (takes_vars c) (c ∷ cs) (from_first_taking cs)

abbrev pub declared_outward : DeclarationSort → SourceType → Node → List Node → Node → NamedDeclaration
declared_outward k s x path id = declared_in_container k (bound_container (is_exported_under s path) (from_first_taking (containers s x path))) id

-- a declarator, in the declaration above it
abbrev pub variables_named : SourceType → Node → List Node → List NamedDeclaration
variables_named s x [] = []
variables_named s x (declaration ∷ path) =
    map (cond (is_with_text kind.VariableDeclaration (codes "var") declaration) (declared_outward sort.Var s x (declaration ∷ path)) (declared_here sort.Lexical s x (declaration ∷ path)))
    (bound_names x)

-- what makes the code in it strict: a class, or the directive
abbrev pub is_strict_by : Node → Bool
is_strict_by x =
    is kind.Class x || (holds_kind (kind.Program ∷ kind.TSModuleBlock ∷ []) x.kind && has_use_strict x)
    || (holds_kind (kind.Function ∷ kind.ArrowFunctionExpression ∷ []) x.kind && holds has_use_strict (child_of role.Body x))

abbrev pub is_strict_inside : SourceType → List Node → Bool
is_strict_inside s path = is_module s || list_any is_strict_by path

-- a function in a block of sloppy code
abbrev pub leaves_its_block : SourceType → Node → List Node → Bool
leaves_its_block s x path = not (is_strict_inside s path) && not (takes_vars (bound_container false (containers s x path)))

abbrev pub functions_named : SourceType → Node → List Node → List NamedDeclaration
functions_named s x path =
    map (cond (is_statement x)
    (cond (leaves_its_block s x path) (declared_outward sort.BlockFunction s x path) (declared_here sort.Function s x path))
    (named_declaration sort.FunctionName (container_of container.OwnName x) [])) (names_at role.Id x)

abbrev pub classes_named : SourceType → Node → List Node → List NamedDeclaration
classes_named s x path =
    map (cond (is_statement x) (declared_here sort.Class s x path) (named_declaration sort.ClassName (container_of container.OwnName x) [])) (names_at role.Id x)

abbrev pub namespace_sort : InstanceState → DeclarationSort
namespace_sort non_instantiated = sort.TypeNamespace
namespace_sort _ = sort.ValueNamespace

-- the conditional type of an `infer`: the nearest in whose `extends` it stands
abbrev pub first_condition : List Container → Container
first_condition [] = no_container
first_condition (c ∷ cs) = cond (is_container container.Condition c) (record c { kind = container.Inferred }) (first_condition cs)

-- a type parameter belongs to what has its list, or to the conditional type
abbrev pub type_parameters_named : SourceType → Node → List Node → List NamedDeclaration
type_parameters_named s x path =
    let cs : List Container = containers s x path in
    map (cond (parent_holds (is kind.TSInferType) path)
    (named_declaration sort.Inferred (first_condition cs) (bound_container false cs ∷ []))
    (named_declaration sort.TypeParameter (bound_container false cs) [])) (names_at role.Name x)

-- what a node of the kind declares
abbrev pub named_by_node : AstType → SourceType → Node → List Node → List NamedDeclaration
named_by_node kind.VariableDeclarator s x path = variables_named s x path
named_by_node kind.Function s x path = functions_named s x path
named_by_node kind.Class s x path = classes_named s x path
named_by_node kind.FormalParameter s x path = map (named_declaration sort.Parameter (bound_container false (containers s x path)) []) (bound_names x)
named_by_node kind.FormalParameterRest s x path = map (named_declaration sort.Parameter (bound_container false (containers s x path)) []) (bound_names x)
named_by_node kind.TSIndexSignatureName s x path = named_declaration sort.IndexParameter (bound_container false (containers s x path)) [] x ∷ []
named_by_node kind.CatchParameter s x path =
    map (named_declaration sort.CatchName (bound_container false (containers s x path)) []) (flat_map bound_names (children_of role.Pattern x.children))
named_by_node kind.ImportSpecifier s x path = map (imported_here s x path) (names_at role.Local x)
named_by_node kind.ImportDefaultSpecifier s x path = map (imported_here s x path) (names_at role.Local x)
named_by_node kind.ImportNamespaceSpecifier s x path = map (imported_here s x path) (names_at role.Local x)
named_by_node kind.TSImportEqualsDeclaration s x path = map (imported_as sort.Import s x path) (names_at role.Id x)
named_by_node kind.TSTypeAliasDeclaration s x path = map (declared_here sort.TypeAlias s x path) (names_at role.Id x)
named_by_node kind.TSInterfaceDeclaration s x path = map (declared_here sort.Interface s x path) (names_at role.Id x)
named_by_node kind.TSEnumDeclaration s x path = map (declared_here sort.Enum s x path) (names_at role.Id x)
named_by_node kind.TSEnumMember s x path =
    map (named_declaration sort.EnumMember (bound_container false (containers s x path)) []) (flat_map (member_named x) (children_of role.Id x.children))
named_by_node kind.TSNamespaceDeclaration s x path =
    map (declared_here (namespace_sort (instance_state x path (nodes_around x path))) s x path) (names_at role.Id x)
named_by_node kind.TSTypeParameter s x path = type_parameters_named s x path
named_by_node kind.TSMappedType s x path = map (named_declaration sort.MappedKey (container_of container.TypeParameters x) []) (names_at role.Key x)
named_by_node _ s x path = []

abbrev pub named_at : SourceType → Step → List NamedDeclaration
named_at s (entering p) = named_by_node p.node.kind s p.node p.path
named_at s _ = []

-- what a program declares
abbrev pub named_in : Tree → List NamedDeclaration
named_in p = flat_map (named_at p.source_type) (steps p)
