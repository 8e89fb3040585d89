-- What is noted of names, node by node in preorder.
use Rattle.std.specs.Prelude.{ℕ, ◌==◌, List, [], ◌∷◌, ◌++◌, Bool, ◌&&◌, not, cond, Option, Some, None, codes}
use Rattle.std.specs.List.{flat_map}
use denote.Enum.Bare.{sameb}
use Rattle.semantic_kinds.specs.declared.kind.AstType.{AstType}
use Rattle.semantic_kinds.specs.declared.kind.AstType.TheVariants as kind
use Rattle.semantic_kinds.specs.declared.role.Role.TheVariants as role
use Rattle.semantic_syntax.specs.Tables.{Name}
use Rattle.semantic_syntax.specs.declared.source_type.SourceType.{SourceType}
use Rattle.semantic_tree.specs.Tree.{Tree}
use Rattle.semantic_tree.specs.Views.{child_of}
use Rattle.semantic_tree.specs.declared.node.Node.{Node}
use Rattle.semantic_model.specs.Binder.{is_statement, is_special}
use Rattle.semantic_model.specs.Step.{Step, entering, steps}
use Rattle.tangle_model.specs.Surroundings.{around_under, around_in}
use Rattle.tangle_model.specs.contracts.around.Declarer.{the_type as the_declarers}
use Rattle.tangle_model.specs.declared.around.Around.{Around}
use Rattle.tangle_model.specs.declared.around.Declarer.{Declarer}
use Rattle.tangle_model.specs.declared.around.Declarer.TheVariants as declarer
use Rattle.tangle_model.specs.declared.what.What.{What}
use Rattle.tangle_model.specs.declared.what.What.TheVariants as what

-- what is noted of a name: at its home, of a block at the node that opens its scope, or at the outermost `extends` or index signature around
pub record Mention : Type 0 where
  pub what : What
  pub home : ℕ
  pub name : Name

abbrev pub same_declarer : Declarer → Declarer → Bool
same_declarer = sameb the_declarers

abbrev pub noted : What → ℕ → Name → List Mention
noted w home name = record { what = w; home = home; name = name } ∷ []

abbrev pub noted_if : Bool → What → ℕ → Name → List Mention
noted_if b w home name = cond b (noted w home name) []

-- of a binding identifier; the name of a function declaration is noted at the function
abbrev pub identifier_noted : Around → Name → List Mention
identifier_noted a name =
    noted_if (not (same_declarer a.declarer declarer.Function)) what.Declaration a.home name
    ++ noted_if (same_declarer a.declarer declarer.CatchParameter) what.CatchName a.home name
    ++ noted_if (same_declarer a.declarer declarer.Var && a.in_catch) what.VarInCatch a.home name
    ++ noted_if (same_declarer a.declarer declarer.Var && a.in_with) what.InWith a.home name
    ++ noted_if (same_declarer a.declarer declarer.Var && a.in_inner_block) what.PassingVariable a.home name

-- a plain function declaration in a block, a case or as the body of an `if` of sloppy code (B.3.2, B.3.3)
abbrev pub is_block_function : Around → Node → Bool
is_block_function a x = a.in_block && not a.is_strict && not (is_special x)

-- a function declaration in a block, a loop, a `switch` or a `with` of sloppy code, which TypeScript takes out to its home
abbrev pub is_inner_function : Around → Bool
is_inner_function a = a.in_inner_block && not a.is_strict

abbrev pub function_noted : Around → Node → Name → List Mention
function_noted a x name =
    noted what.Declaration a.home name
    ++ noted_if (is_block_function a x) what.BlockFunction a.home name
    ++ noted_if (is_inner_function a) what.InnerFunction a.home name

abbrev pub named_noted : (Name → List Mention) → Option Node → List Mention
named_noted f None = []
named_noted f (Some id) = f id.text

-- of a function, if it is a declaration
abbrev pub declaration_noted : Around → Node → List Mention
declaration_noted a x = cond (is_statement x) (named_noted (function_noted a x) (child_of role.Id x)) []

-- of an enum, at its body
abbrev pub enum_noted : Option Node → Option Node → List Mention
enum_noted (Some id) (Some body) = noted what.Block body.node_id id.text
enum_noted _ _ = []

-- of a reference
abbrev pub reference_noted : Around → Name → List Mention
reference_noted a name =
    noted_if a.in_with what.InWith a.home name
    ++ noted_if (not (a.extends == 0)) what.BesideInfer a.extends name
    ++ noted_if (not (a.index_signature == 0)) what.InIndexSignature a.index_signature name
    ++ noted_if a.in_type_parameters what.InTypeParameters a.home name
    ++ noted_if a.exports_types what.ExportedType a.home name

-- of what `infer` declares, by what is around its type parameter
abbrev pub inferred_noted : Around → Name → List Mention
inferred_noted a name = noted what.Inferred a.extends name ++ noted_if (not a.in_extends) what.BesideInfer a.extends name

-- its name
abbrev pub name_of_parameter : Option Node → Option Node
name_of_parameter None = None
name_of_parameter (Some parameter) = child_of role.Name parameter

-- of a node of the kind
abbrev pub noted_by : AstType → Around → Node → List Mention
noted_by kind.BindingIdentifier a x = identifier_noted a x.text
noted_by kind.IdentifierReference a x = reference_noted a x.text
noted_by kind.Function a x = declaration_noted a x
noted_by kind.TSNamespaceDeclaration a x = named_noted (noted what.Block x.node_id) (child_of role.Id x)
noted_by kind.TSExternalModuleDeclaration a x = named_noted (noted what.Block x.node_id) (child_of role.Id x)
noted_by kind.TSGlobalDeclaration a x = noted what.Block x.node_id (codes "global")
noted_by kind.TSEnumDeclaration a x = enum_noted (child_of role.Id x) (child_of role.Body x)
noted_by kind.TSInferType a x = named_noted (inferred_noted (around_in a x)) (name_of_parameter (child_of role.Parameter x))
noted_by kind.TSIndexSignatureName a x = noted what.IndexParameter a.index_signature x.text
noted_by _ a x = []

abbrev pub noted_at : SourceType → Step → List Mention
noted_at s (entering p) = noted_by p.node.kind (around_under s p.path) p.node
noted_at s _ = []

abbrev pub mentions_by : SourceType → List Step → List Mention
mentions_by s walk = flat_map (noted_at s) walk

-- what is noted in a program
abbrev pub mentions : Tree → List Mention
mentions p = mentions_by p.source_type (steps p)
