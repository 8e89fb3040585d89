-- What each node declares, and how.
use Rattle.std.specs.Prelude.{ℕ, List, [], ◌∷◌, Bool, false, ◌&&◌, ◌||◌, not, cond, if◌then◌else◌, map, flat_map, filter, codes}
use Rattle.bitflags.specs.Sets.{without}
use Rattle.semantic_kinds.specs.declared.kind.AstType.{AstType}
use Rattle.semantic_kinds.specs.declared.kind.AstType.TheVariants as kind
use Rattle.semantic_kinds.specs.declared.role.Role.TheVariants as role
use Rattle.semantic_kinds.specs.declared.mark.Mark.TheVariants as mark
use Rattle.semantic_tree.specs.declared.node.Node.{Node}
use Rattle.semantic_syntax.specs.declared.scope_flags.TheConstants.ScopeFlags as scope
use Rattle.semantic_syntax.specs.declared.symbol_flags.TheConstants.SymbolFlags as symbol
use Rattle.semantic_syntax.specs.Sets.{meets, union}
use Rattle.semantic_tree.specs.Views.{is, is_with_text, has, has_text, child_of, children_of, holds}
use Rattle.semantic_model.specs.Names.{bound_names, names_at}
use Rattle.semantic_tree.specs.BoundNames.{is_simple_parameter_list}
use Rattle.semantic_syntax.specs.SourceTypes.{is_typescript}
use Rattle.semantic_model.specs.Place.{Place, OpenScope, innermost, is_strict, parent_holds}
use Rattle.semantic_model.specs.Declaration.{How, plain, hoisted, moved, caught, Declaration, Route, here, outward_to, outward_past}
use Rattle.semantic_model.specs.Namespace.{InstanceState, non_instantiated, instance_state, nodes_around}
use Rattle.semantic_kinds.specs.Classes.{holds_kind}

-- what a row gives to each of its names
pub record BinderRow : Type 0 where
  pub flags : ℕ
  pub excluded : ℕ
  pub how : How
  pub route : Route

-- a name is declared at the node
abbrev pub declaration_at : Node → BinderRow → Bool → Node → Declaration
declaration_at node row is_pure name = record {
  naming = record {
    node = node.node_id;
    identifier = name.node_id;
    name = name.text;
    span = name.span;
    flags = row.flags;
    excluded = row.excluded;
    is_pure = is_pure;
  };
  how = row.how;
  route = row.route;
}

-- the names are declared in the scope where the node stands
abbrev pub declare_here : Place → ℕ → ℕ → List Node → List Declaration
declare_here p flags excluded names =
    map (declaration_at p.node (record { flags = flags; excluded = excluded; how = plain; route = here p.chain }) false) names

abbrev pub ids : Node → List Node
ids node = names_at role.Id node

abbrev pub ambient_if : Bool → ℕ
ambient_if b = cond b symbol.Ambient.bits 0

abbrev pub marked_ambient : Node → ℕ
marked_ambient node = ambient_if (has mark.Declare node)

abbrev pub is_var : OpenScope → Bool
is_var s = meets s.flags scope.Var.bits

abbrev pub is_conditional : OpenScope → Bool
is_conditional s = meets s.flags scope.TsConditional.bits

-- a function or an arrow that is marked as having no side effects
abbrev pub is_pure_function : Node → Bool
is_pure_function node = holds_kind (kind.Function ∷ kind.ArrowFunctionExpression ∷ []) node.kind && has mark.Pure node

-- a plain name that is set to such a function
abbrev pub is_pure_declarator : Node → Bool
is_pure_declarator node = holds (is kind.BindingIdentifier) (child_of role.Id node) && holds is_pure_function (child_of role.Init node)

abbrev pub lexical_flags : Node → ℕ
lexical_flags declaration =
    cond (is_with_text kind.VariableDeclaration (codes "let") declaration) symbol.BlockScopedVariable.bits (union symbol.BlockScopedVariable.bits symbol.ConstVariable.bits)

-- `var` goes out to the next function, the other kinds stay
abbrev pub variable_row : Node → List OpenScope → BinderRow
variable_row declaration chain =
    if is_with_text kind.VariableDeclaration (codes "var") declaration then record {
      flags = union symbol.FunctionScopedVariable.bits (marked_ambient declaration);
      excluded = symbol.FunctionScopedVariableExcludes.bits;
      how = hoisted;
      route = outward_to is_var chain;
    }
    else record {
      flags = union (lexical_flags declaration) (marked_ambient declaration);
      excluded = symbol.BlockScopedVariableExcludes.bits;
      how = plain;
      route = here chain;
    }

abbrev pub variables_under : List Node → Place → List Declaration
variables_under [] p = []
variables_under (declaration ∷ path) p =
    map (declaration_at p.node (variable_row declaration p.chain) (is_pure_declarator p.node)) (bound_names p.node)

-- a function or class as a statement
abbrev pub is_statement : Node → Bool
is_statement node = has_text (codes "declaration") node || has_text (codes "ts-declare") node

abbrev pub is_special : Node → Bool
is_special node = has mark.Async node || has mark.Generator node

abbrev pub function_flags : Node → ℕ
function_flags node =
    union (union symbol.Function.bits (marked_ambient node))
    (union (cond (is_statement node) 0 symbol.FunctionExpression.bits) (cond (is_special node) symbol.AsyncOrGeneratorFunction.bits 0))

-- a function directly under a sloppy `if` conflicts with nothing
abbrev pub function_excluded : Place → ℕ
function_excluded p =
    if is_typescript p.source_type then symbol.FunctionExcludes.bits
    else if is_statement p.node && not (is_strict p.chain) && parent_holds (is kind.IfStatement) p.path then 0
    else without 32 symbol.FunctionExcludes.bits symbol.FunctionScopedVariable.bits

-- the scope of a catch clause itself, in which no statement stands
abbrev pub is_clause : OpenScope → Bool
is_clause s = meets s.flags scope.CatchClause.bits

-- a plain function in a block of sloppy JavaScript, which may move out of it (ECMAScript, Annex B.3.2)
abbrev pub is_block_function : Place → Bool
is_block_function p =
    not (is_special p.node) && not (is_typescript p.source_type) && not (is_strict p.chain)
    && not (is_var (innermost p.chain) || is_clause (innermost p.chain))

abbrev pub function_row : Place → BinderRow
function_row p =
    if is_block_function p
    then record { flags = function_flags p.node; excluded = function_excluded p; how = moved; route = outward_past is_var p.chain }
    else record { flags = function_flags p.node; excluded = function_excluded p; how = plain; route = here p.chain }

abbrev pub own_function_row : Place → OpenScope → BinderRow
own_function_row p own = record { flags = function_flags p.node; excluded = function_excluded p; how = plain; route = here (own ∷ []) }

abbrev pub class_row : Place → List OpenScope → BinderRow
class_row p chain = record {
  flags = union symbol.Class.bits (marked_ambient p.node);
  excluded = symbol.ClassExcludes.bits;
  how = plain;
  route = here chain;
}

-- parameters of one name are allowed in the simple list of a sloppy plain function
abbrev pub parameter_excluded : Node → List OpenScope → ℕ
parameter_excluded list chain =
    if is_with_text kind.FormalParameters (codes "arrow") list || is_with_text kind.FormalParameters (codes "unique") list || is_strict chain || not (is_simple_parameter_list list)
    then union symbol.FunctionScopedVariableExcludes.bits symbol.FunctionScopedVariable.bits
    else symbol.FunctionScopedVariableExcludes.bits

abbrev pub parameters_under : List Node → Place → List Declaration
parameters_under [] p = []
parameters_under (list ∷ path) p =
    declare_here p symbol.FunctionScopedVariable.bits (parameter_excluded list p.chain) (bound_names p.node)

-- a plain catch name is always new; the names of a pattern are lexical
abbrev pub catch_names : Place → Node → List Declaration
catch_names p pattern =
    if is kind.BindingIdentifier pattern
    then declaration_at p.node (record {
      flags = union symbol.FunctionScopedVariable.bits symbol.CatchVariable.bits;
      excluded = 0;
      how = caught;
      route = here p.chain;
    }) false pattern ∷ []
    else declare_here p (union symbol.BlockScopedVariable.bits symbol.CatchVariable.bits) symbol.BlockScopedVariableExcludes.bits (bound_names pattern)

abbrev pub import_flags : Place → ℕ
import_flags p =
    cond (has mark.TypeOnly p.node || parent_holds (has mark.TypeOnly) p.path) symbol.TypeImport.bits symbol.Import.bits

abbrev pub import_declarations : Place → List Declaration
import_declarations p = declare_here p (import_flags p) symbol.ImportBindingExcludes.bits (names_at role.Local p.node)

abbrev pub enums : Place → List Declaration
enums p =
    if has mark.Const p.node
    then declare_here p (union symbol.ConstEnum.bits (marked_ambient p.node)) symbol.ConstEnumExcludes.bits (ids p.node)
    else declare_here p (union symbol.RegularEnum.bits (marked_ambient p.node)) symbol.RegularEnumExcludes.bits (ids p.node)

-- the node whose text names a member: its id, or the one piece of a template
abbrev pub member_names : Node → List Node
member_names id =
    cond (holds_kind (kind.IdentifierName ∷ kind.StringLiteral ∷ []) id.kind) (id ∷ [])
    (cond (is kind.TemplateLiteral id) (filter (is kind.TemplateElement) (children_of role.Quasis id.children)) [])

-- the member stands for its name, at the place of its id
abbrev pub named_member : Node → Node → Node → Node
named_member member id name = record member { text = name.text; span = id.span }

abbrev pub member_named : Node → Node → List Node
member_named member id = map (named_member member id) (member_names id)

abbrev pub member_declarations : Place → List Declaration
member_declarations p =
    declare_here p symbol.EnumMember.bits symbol.EnumMemberExcludes.bits (flat_map (member_named p.node) (children_of role.Id p.node.children))

abbrev pub namespace_row : InstanceState → Place → List Declaration
namespace_row non_instantiated p =
    declare_here p (union symbol.NamespaceModule.bits (marked_ambient p.node)) symbol.NamespaceModuleExcludes.bits (ids p.node)
namespace_row _ p = declare_here p (union symbol.ValueModule.bits (marked_ambient p.node)) symbol.ValueModuleExcludes.bits (ids p.node)

-- what `infer` declares goes out to the conditional type
abbrev pub type_parameter_route : Place → Route
type_parameter_route p = cond (parent_holds (is kind.TSInferType) p.path) (outward_to is_conditional p.chain) (here p.chain)

abbrev pub type_parameter_row : Route → BinderRow
type_parameter_row r = record { flags = symbol.TypeParameter.bits; excluded = symbol.TypeParameterExcludes.bits; how = plain; route = r }

-- what a node declares on entering it
abbrev pub declared_by : AstType → Place → List Declaration
declared_by kind.VariableDeclarator p = variables_under p.path p
declared_by kind.Function p = cond (is_statement p.node) (map (declaration_at p.node (function_row p) (has mark.Pure p.node)) (ids p.node)) []
declared_by kind.Class p = cond (is_statement p.node) (map (declaration_at p.node (class_row p p.chain) false) (ids p.node)) []
declared_by kind.FormalParameter p = parameters_under p.path p
declared_by kind.FormalParameterRest p = parameters_under p.path p
declared_by kind.BindingRestElement p =
    cond (parent_holds (is kind.FormalParameters) p.path)
    (declare_here p symbol.FunctionScopedVariable.bits (union symbol.FunctionScopedVariableExcludes.bits symbol.FunctionScopedVariable.bits) (bound_names p.node)) []
declared_by kind.CatchParameter p = flat_map (catch_names p) (children_of role.Pattern p.node.children)
declared_by kind.ImportSpecifier p = import_declarations p
declared_by kind.ImportDefaultSpecifier p = import_declarations p
declared_by kind.ImportNamespaceSpecifier p = import_declarations p
declared_by kind.TSImportEqualsDeclaration p = declare_here p symbol.Import.bits symbol.ImportBindingExcludes.bits (ids p.node)
declared_by kind.TSTypeAliasDeclaration p =
    declare_here p (union symbol.TypeAlias.bits (marked_ambient p.node)) symbol.TypeAliasExcludes.bits (ids p.node)
declared_by kind.TSInterfaceDeclaration p =
    declare_here p (union symbol.Interface.bits (marked_ambient p.node)) symbol.InterfaceExcludes.bits (ids p.node)
declared_by kind.TSEnumDeclaration p = enums p
declared_by kind.TSEnumMember p = member_declarations p
declared_by kind.TSNamespaceDeclaration p = namespace_row (instance_state p.node p.path (nodes_around p.node p.path)) p
declared_by kind.TSTypeParameter p =
    map (declaration_at p.node (type_parameter_row (type_parameter_route p)) false) (names_at role.Name p.node)
declared_by _ p = []

abbrev pub declared_on_entering : Place → List Declaration
declared_on_entering p = declared_by p.node.kind p

-- what a node declares in its own scope, once that opens
abbrev pub declared_inside : AstType → Place → OpenScope → List Declaration
declared_inside kind.Function p own = cond (is_statement p.node) [] (map (declaration_at p.node (own_function_row p own) (has mark.Pure p.node)) (ids p.node))
declared_inside kind.Class p own = cond (is_statement p.node) [] (map (declaration_at p.node (class_row p (own ∷ [])) false) (ids p.node))
declared_inside kind.TSMappedType p own =
    map (declaration_at p.node (type_parameter_row (here (own ∷ []))) false) (names_at role.Key p.node)
declared_inside _ p own = []

abbrev pub declared_on_opening : Place → OpenScope → List Declaration
declared_on_opening p own = declared_inside p.node.kind p own
