-- Which declarations are of the own name of a function expression: those of a function in its own scope.
use Rattle.std.proofs.Common.{◌≡◌, ℕ, List, [], ◌∷◌, ◌++◌, Bool, true, false, cond, ◌||◌, refl, map, flat_map, if◌then◌else◌, codes}
use Rattle.semantic_tree.specs.declared.node.Node.{Node}
use Rattle.semantic_kinds.specs.declared.kind.AstType.{AstType}
use Rattle.semantic_kinds.specs.declared.kind.AstType.TheVariants as kind
use Rattle.semantic_kinds.specs.declared.role.Role.TheVariants as role
use Rattle.semantic_kinds.specs.declared.mark.Mark.TheVariants as mark
use Rattle.semantic_syntax.specs.declared.symbol_flags.TheConstants.SymbolFlags as symbol
use Rattle.semantic_syntax.specs.Sets.{meets, union}
use Rattle.semantic_tree.specs.Views.{is, has, is_with_text, children_of}
use Rattle.semantic_model.specs.Names.{bound_names, names_at}
use Rattle.semantic_model.specs.Namespace.{InstanceState, non_instantiated, const_enum_only, instantiated, instance_state, nodes_around}
use Rattle.semantic_model.specs.Place.{Place, OpenScope, parent_holds}
use Rattle.semantic_model.specs.Declaration.{Declaration, caught, here}
use Rattle.semantic_model.specs.Binder.{BinderRow, declaration_at, declare_here, ambient_if, marked_ambient, is_statement, is_special, is_block_function, variable_row, variables_under, function_flags, function_row, own_function_row, class_row, is_pure_declarator, ids, parameter_excluded, parameters_under, catch_names, import_flags, enums, member_named, namespace_row, type_parameter_route, type_parameter_row, declared_by, declared_inside}
use Rattle.semantic_model.proofs.fold.EachDeclared.{EachDeclared}
use Rattle.binding_laws.specs.SeenDeclarations.{is_own_name}

abbrev pub IsOther : Declaration → Type 0
IsOther d = is_own_name d ≡ false

abbrev pub IsOwnName : Declaration → Type 0
IsOwnName d = is_own_name d ≡ true

abbrev pub AllOther : List Declaration → Type 0
AllOther = EachDeclared IsOther

-- flags that aren't a function expression's
abbrev AreOther : ℕ → Type 0
AreOther flags = meets flags symbol.FunctionExpression.bits ≡ false

row_other : (node : Node) (row : BinderRow) (is_pure : Bool) (names : List Node) → AreOther row.flags → AllOther (map (declaration_at node row is_pure) names)
row_other node row is_pure [] h = tt
row_other node row is_pure (x ∷ xs) h = (h, row_other node row is_pure xs h)

here_other : (p : Place) (flags excluded : ℕ) (names : List Node) → AreOther flags → AllOther (declare_here p flags excluded names)
here_other p flags excluded [] h = tt
here_other p flags excluded (x ∷ xs) h = (h, here_other p flags excluded xs h)

other-append : (ds es : List Declaration) → AllOther ds → AllOther es → AllOther (ds ++ es)
other-append [] es h k = k
other-append (d ∷ ds) es h k = (h.0, other-append ds es h.1 k)

-- with `declaration_at` or without
marked_other : (x : ℕ) (node : Node) → AreOther (union x symbol.Ambient.bits) → AreOther (union x 0) → AreOther (union x (marked_ambient node))
marked_other x node h k = by (has mark.Declare node)
  where
    by : (b : Bool) → AreOther (union x (ambient_if b))
    by true = h
    by false = k

variable_flags : (declaration : Node) (chain : List OpenScope) → AreOther (variable_row declaration chain).flags
variable_flags declaration chain = by (is_with_text kind.VariableDeclaration (codes "var") declaration) refl
  where
    lexical : (a b : Bool) → AreOther (union (cond a symbol.BlockScopedVariable.bits (union symbol.BlockScopedVariable.bits symbol.ConstVariable.bits)) (ambient_if b))
    lexical true true = refl
    lexical true false = refl
    lexical false true = refl
    lexical false false = refl

    by : (b : Bool) → is_with_text kind.VariableDeclaration (codes "var") declaration ≡ b → AreOther (variable_row declaration chain).flags
    by true q = rw q (marked_other symbol.FunctionScopedVariable.bits declaration refl refl)
    by false q = rw q (lexical (is_with_text kind.VariableDeclaration (codes "let") declaration) (has mark.Declare declaration))

variables : (path : List Node) (p : Place) → AllOther (variables_under path p)
variables [] p = tt
variables (declaration ∷ path) p = row_other p.node (variable_row declaration p.chain) (is_pure_declarator p.node) (bound_names p.node) (variable_flags declaration p.chain)

statement_flags : (node : Node) → is_statement node ≡ true → AreOther (function_flags node)
statement_flags node e = rw e (by (has mark.Declare node) (is_special node))
  where
    by : (a b : Bool) → AreOther (union (union symbol.Function.bits (ambient_if a)) (union 0 (cond b symbol.AsyncOrGeneratorFunction.bits 0)))
    by true true = refl
    by true false = refl
    by false true = refl
    by false false = refl

expression_flags : (node : Node) → is_statement node ≡ false → meets (function_flags node) symbol.FunctionExpression.bits ≡ true
expression_flags node e = rw e (by (has mark.Declare node) (is_special node))
  where
    by : (a b : Bool) → meets (union (union symbol.Function.bits (ambient_if a)) (union symbol.FunctionExpression.bits (cond b symbol.AsyncOrGeneratorFunction.bits 0))) symbol.FunctionExpression.bits ≡ true
    by true true = refl
    by true false = refl
    by false true = refl
    by false false = refl

functions : (p : Place) → AllOther (declared_by kind.Function p)
functions p = by (is_statement p.node) refl
  where
    row : is_statement p.node ≡ true → (b : Bool) → is_block_function p ≡ b → AreOther (function_row p).flags
    row s true q = rw q (statement_flags p.node s)
    row s false q = rw q (statement_flags p.node s)

    by : (b : Bool) → is_statement p.node ≡ b → AllOther (cond b (map (declaration_at p.node (function_row p) (has mark.Pure p.node)) (ids p.node)) [])
    by true s = row_other p.node (function_row p) (has mark.Pure p.node) (ids p.node) (row s (is_block_function p) refl)
    by false s = tt

classes : (p : Place) → AllOther (declared_by kind.Class p)
classes p = by (is_statement p.node)
  where
    by : (b : Bool) → AllOther (cond b (map (declaration_at p.node (class_row p p.chain) false) (ids p.node)) [])
    by true = row_other p.node (class_row p p.chain) false (ids p.node) (marked_other symbol.Class.bits p.node refl refl)
    by false = tt

parameters : (path : List Node) (p : Place) → AllOther (parameters_under path p)
parameters [] p = tt
parameters (l ∷ path) p = here_other p symbol.FunctionScopedVariable.bits (parameter_excluded l p.chain) (bound_names p.node) refl

rest_names : (p : Place) → AllOther (declared_by kind.BindingRestElement p)
rest_names p = by (parent_holds (is kind.FormalParameters) p.path)
  where
    by : (b : Bool) → AllOther (cond b (declare_here p symbol.FunctionScopedVariable.bits (union symbol.FunctionScopedVariableExcludes.bits symbol.FunctionScopedVariable.bits) (bound_names p.node)) [])
    by true = here_other p symbol.FunctionScopedVariable.bits (union symbol.FunctionScopedVariableExcludes.bits symbol.FunctionScopedVariable.bits) (bound_names p.node) refl
    by false = tt

catches : (p : Place) (patterns : List Node) → AllOther (flat_map (catch_names p) patterns)
catches p [] = tt
catches p (x ∷ xs) = other-append (catch_names p x) (flat_map (catch_names p) xs) (by (is kind.BindingIdentifier x)) (catches p xs)
  where
    row : BinderRow
    row = record { flags = union symbol.FunctionScopedVariable.bits symbol.CatchVariable.bits; excluded = 0; how = caught; route = here p.chain }

    by : (b : Bool) → AllOther (if b then declaration_at p.node row false x ∷ [] else declare_here p (union symbol.BlockScopedVariable.bits symbol.CatchVariable.bits) symbol.BlockScopedVariableExcludes.bits (bound_names x))
    by true = (refl, tt)
    by false = here_other p (union symbol.BlockScopedVariable.bits symbol.CatchVariable.bits) symbol.BlockScopedVariableExcludes.bits (bound_names x) refl

imports : (p : Place) → AreOther (import_flags p)
imports p = by (has mark.TypeOnly p.node) (parent_holds (has mark.TypeOnly) p.path)
  where
    by : (a b : Bool) → AreOther (cond (a || b) symbol.TypeImport.bits symbol.Import.bits)
    by true b = refl
    by false true = refl
    by false false = refl

enum_names : (p : Place) → AllOther (enums p)
enum_names p = by (has mark.Const p.node)
  where
    by : (b : Bool) → AllOther (if b then declare_here p (union symbol.ConstEnum.bits (marked_ambient p.node)) symbol.ConstEnumExcludes.bits (ids p.node) else declare_here p (union symbol.RegularEnum.bits (marked_ambient p.node)) symbol.RegularEnumExcludes.bits (ids p.node))
    by true = here_other p (union symbol.ConstEnum.bits (marked_ambient p.node)) symbol.ConstEnumExcludes.bits (ids p.node) (marked_other symbol.ConstEnum.bits p.node refl refl)
    by false = here_other p (union symbol.RegularEnum.bits (marked_ambient p.node)) symbol.RegularEnumExcludes.bits (ids p.node) (marked_other symbol.RegularEnum.bits p.node refl refl)

namespace_names : (s : InstanceState) (p : Place) → AllOther (namespace_row s p)
namespace_names non_instantiated p = here_other p (union symbol.NamespaceModule.bits (marked_ambient p.node)) symbol.NamespaceModuleExcludes.bits (ids p.node) (marked_other symbol.NamespaceModule.bits p.node refl refl)
namespace_names const_enum_only p = here_other p (union symbol.ValueModule.bits (marked_ambient p.node)) symbol.ValueModuleExcludes.bits (ids p.node) (marked_other symbol.ValueModule.bits p.node refl refl)
namespace_names instantiated p = here_other p (union symbol.ValueModule.bits (marked_ambient p.node)) symbol.ValueModuleExcludes.bits (ids p.node) (marked_other symbol.ValueModule.bits p.node refl refl)

-- what a node declares on entering it is no own name
pub entering_other : (k : AstType) (p : Place) → AllOther (declared_by k p)
entering_other kind.VariableDeclarator p = variables p.path p
entering_other kind.Function p = functions p
entering_other kind.Class p = classes p
entering_other kind.FormalParameter p = parameters p.path p
entering_other kind.FormalParameterRest p = parameters p.path p
entering_other kind.BindingRestElement p = rest_names p
entering_other kind.CatchParameter p = catches p (children_of role.Pattern p.node.children)
entering_other kind.ImportSpecifier p = here_other p (import_flags p) symbol.ImportBindingExcludes.bits (names_at role.Local p.node) (imports p)
entering_other kind.ImportDefaultSpecifier p = here_other p (import_flags p) symbol.ImportBindingExcludes.bits (names_at role.Local p.node) (imports p)
entering_other kind.ImportNamespaceSpecifier p = here_other p (import_flags p) symbol.ImportBindingExcludes.bits (names_at role.Local p.node) (imports p)
entering_other kind.TSImportEqualsDeclaration p = here_other p symbol.Import.bits symbol.ImportBindingExcludes.bits (ids p.node) refl
entering_other kind.TSTypeAliasDeclaration p = here_other p (union symbol.TypeAlias.bits (marked_ambient p.node)) symbol.TypeAliasExcludes.bits (ids p.node) (marked_other symbol.TypeAlias.bits p.node refl refl)
entering_other kind.TSInterfaceDeclaration p = here_other p (union symbol.Interface.bits (marked_ambient p.node)) symbol.InterfaceExcludes.bits (ids p.node) (marked_other symbol.Interface.bits p.node refl refl)
entering_other kind.TSEnumDeclaration p = enum_names p
entering_other kind.TSEnumMember p = here_other p symbol.EnumMember.bits symbol.EnumMemberExcludes.bits (flat_map (member_named p.node) (children_of role.Id p.node.children)) refl
entering_other kind.TSNamespaceDeclaration p = namespace_names (instance_state p.node p.path (nodes_around p.node p.path)) p
entering_other kind.TSTypeParameter p = row_other p.node (type_parameter_row (type_parameter_route p)) false (names_at role.Name p.node) refl
entering_other _ p = tt

-- nor what a class or a mapped type declares in its own scope
pub class_other : (p : Place) (own : OpenScope) → AllOther (declared_inside kind.Class p own)
class_other p own = by (is_statement p.node)
  where
    by : (b : Bool) → AllOther (cond b [] (map (declaration_at p.node (class_row p (own ∷ [])) false) (ids p.node)))
    by true = tt
    by false = row_other p.node (class_row p (own ∷ [])) false (ids p.node) (marked_other symbol.Class.bits p.node refl refl)

pub key_other : (p : Place) (own : OpenScope) → AllOther (declared_inside kind.TSMappedType p own)
key_other p own = row_other p.node (type_parameter_row (here (own ∷ []))) false (names_at role.Key p.node) refl

-- what a function declares in its own scope is
pub own_named : (p : Place) (own : OpenScope) → EachDeclared IsOwnName (declared_inside kind.Function p own)
own_named p own = by (is_statement p.node) refl
  where
    row_own : (names : List Node) → is_statement p.node ≡ false → EachDeclared IsOwnName (map (declaration_at p.node (own_function_row p own) (has mark.Pure p.node)) names)
    row_own [] s = tt
    row_own (x ∷ xs) s = (expression_flags p.node s, row_own xs s)

    by : (b : Bool) → is_statement p.node ≡ b → EachDeclared IsOwnName (cond b [] (map (declaration_at p.node (own_function_row p own) (has mark.Pure p.node)) (ids p.node)))
    by true s = tt
    by false s = row_own (ids p.node) s
