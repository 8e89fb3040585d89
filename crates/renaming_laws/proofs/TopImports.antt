-- So each import is declared in the program's own scope.
use Rattle.std.proofs.Common.{◌≡◌, ℕ, List, [], ◌∷◌, ◌++◌, Bool, true, false, ◌||◌, cond, if◌then◌else◌, inl, inr, refl, sym, ap, subst, ◌∙◌, map, flat_map, codes}
use Rattle.semantic_syntax.specs.Sets.{meets, union}
use Rattle.semantic_syntax.specs.declared.symbol_flags.TheConstants.SymbolFlags as symbol
use Rattle.semantic_kinds.specs.declared.kind.AstType.{AstType}
use Rattle.semantic_kinds.specs.declared.kind.AstType.TheVariants as kind
use Rattle.semantic_kinds.specs.declared.mark.Mark.TheVariants as mark
use Rattle.semantic_kinds.specs.declared.role.Role.TheVariants as role
use Rattle.semantic_tree.specs.Tree.{Tree}
use Rattle.semantic_tree.specs.Views.{is, has, is_with_text, children_of}
use Rattle.semantic_tree.specs.declared.node.Node.{Node}
use Rattle.semantic_model.specs.Binder.{BinderRow, declaration_at, declare_here, is_statement, is_special, is_var, is_block_function, function_excluded, ambient_if, marked_ambient, lexical_flags, variable_row, variables_under, is_pure_declarator, function_flags, function_row, own_function_row, class_row, parameter_excluded, parameters_under, catch_names, import_flags, enums, member_named, namespace_row, type_parameter_route, type_parameter_row, ids, declared_by, declared_inside, declared_on_entering, declared_on_opening}
use Rattle.semantic_model.specs.Declaration.{How, plain, hoisted, moved, caught, Declaration, here, outward_to, outward_past}
use Rattle.semantic_model.specs.Entries.{Among}
use Rattle.semantic_model.specs.Event.{declared, is_barred, staying_declaration, placed_by, taken_over, declares_all, events_of, events, declarations, written_declarations}
use Rattle.semantic_model.specs.Names.{bound_names, names_at}
use Rattle.semantic_model.specs.Namespace.{InstanceState, non_instantiated, const_enum_only, instantiated, instance_state, nodes_around}
use Rattle.semantic_model.specs.Place.{Place, OpenScope, innermost, outside, parent_holds}
use Rattle.semantic_model.specs.Step.{Step, entering, opening, header_ending, closing, leaving, steps}
use Rattle.semantic_model.proofs.fold.EachDeclared.{EachDeclared}
use Rattle.semantic_model.proofs.lists.Members.{among_cases}
use Rattle.semantic_model.proofs.steps.Compose.{flat-append}
use Rattle.semantic_model.proofs.steps.EachStep.{EachStep}
use Rattle.binding_laws.specs.SeenDeclarations.{is_own_name}
use Rattle.binding_laws.proofs.Growing.{meets_neither}
use Rattle.renaming_laws.specs.ImportsAtTop.{declares_import, imports_at_top}
use Rattle.renaming_laws.proofs.DeclaredPairs.{taken_none}
use Rattle.renaming_laws.proofs.TopChains.{IsTop, ImportsThere, imports_there}

-- an import is declared in the program's own scope, and there at once
abbrev pub IsTopImport : Declaration → Type 0
IsTopImport d = meets d.naming.flags symbol.Import.bits ≡ true → (d.how ≡ plain) × IsTop d.route.target × (is_own_name d ≡ false)

not_so : {A : Type 0} → (b : Bool) → b ≡ false → b ≡ true → A
not_so b h e = let w : false ≡ true = sym h ∙ e in absurd cc

-- ---- rows of no import

row_none : (node : Node) (row : BinderRow) (is_pure : Bool) (names : List Node) → meets row.flags symbol.Import.bits ≡ false → EachDeclared IsTopImport (map (declaration_at node row is_pure) names)
row_none node row is_pure [] h = tt
row_none node row is_pure (x ∷ xs) h = (λ e. not_so (meets row.flags symbol.Import.bits) h e, row_none node row is_pure xs h)

here_none : (p : Place) (flags excluded : ℕ) (names : List Node) → meets flags symbol.Import.bits ≡ false → EachDeclared IsTopImport (declare_here p flags excluded names)
here_none p flags excluded names h = row_none p.node (record { flags = flags; excluded = excluded; how = plain; route = here p.chain }) false names h

here_top : (p : Place) (flags excluded : ℕ) (names : List Node) → IsTop (innermost p.chain) → meets flags symbol.FunctionExpression.bits ≡ false → EachDeclared IsTopImport (declare_here p flags excluded names)
here_top p flags excluded [] t h = tt
here_top p flags excluded (x ∷ xs) t h = (λ e. (refl, t, h), here_top p flags excluded xs t h)

when : (b : Bool) (ds : List Declaration) → EachDeclared IsTopImport ds → EachDeclared IsTopImport (cond b ds [])
when true ds h = h
when false ds h = tt

unless : (b : Bool) (ds : List Declaration) → EachDeclared IsTopImport ds → EachDeclared IsTopImport (cond b [] ds)
unless true ds h = tt
unless false ds h = h

both : (ds es : List Declaration) → EachDeclared IsTopImport ds → EachDeclared IsTopImport es → EachDeclared IsTopImport (ds ++ es)
both [] es h k = k
both (d ∷ ds) es h k = (h.0, both ds es h.1 k)

-- ---- flags

abbrev NoImport : ℕ → Type 0
NoImport flags = meets flags symbol.Import.bits ≡ false

joined : (a b : ℕ) → NoImport a → NoImport b → NoImport (union a b)
joined a b h k = meets_neither a b symbol.Import.bits h k

ambient_none : (b : Bool) → NoImport (ambient_if b)
ambient_none true = refl
ambient_none false = refl

with_ambient : (a : ℕ) (n : Node) → NoImport a → NoImport (union a (marked_ambient n))
with_ambient a n h = joined a (marked_ambient n) h (ambient_none (has mark.Declare n))

flags_if : (b : Bool) (a c : ℕ) → NoImport a → NoImport c → NoImport (cond b a c)
flags_if true a c h k = h
flags_if false a c h k = k

lexical_none : (n : Node) → NoImport (lexical_flags n)
lexical_none n = flags_if (is_with_text kind.VariableDeclaration (codes "let") n) symbol.BlockScopedVariable.bits (union symbol.BlockScopedVariable.bits symbol.ConstVariable.bits) refl refl

function_none : (n : Node) → NoImport (function_flags n)
function_none n =
    joined (union symbol.Function.bits (marked_ambient n)) (union (cond (is_statement n) 0 symbol.FunctionExpression.bits) (cond (is_special n) symbol.AsyncOrGeneratorFunction.bits 0))
    (with_ambient symbol.Function.bits n refl)
    (joined (cond (is_statement n) 0 symbol.FunctionExpression.bits) (cond (is_special n) symbol.AsyncOrGeneratorFunction.bits 0) (flags_if (is_statement n) 0 symbol.FunctionExpression.bits refl refl) (flags_if (is_special n) symbol.AsyncOrGeneratorFunction.bits 0 refl refl))

either_row : (b : Bool) (x y : BinderRow) → NoImport x.flags → NoImport y.flags → NoImport (if b then x else y).flags
either_row true x y h k = h
either_row false x y h k = k

function_row_none : (p : Place) → NoImport (function_row p).flags
function_row_none p =
    either_row (is_block_function p) (record { flags = function_flags p.node; excluded = function_excluded p; how = moved; route = outward_past is_var p.chain }) (record { flags = function_flags p.node; excluded = function_excluded p; how = plain; route = here p.chain })
    (function_none p.node) (function_none p.node)

variable_row_none : (n : Node) (chain : List OpenScope) → NoImport (variable_row n chain).flags
variable_row_none n chain =
    either_row (is_with_text kind.VariableDeclaration (codes "var") n)
    (record { flags = union symbol.FunctionScopedVariable.bits (marked_ambient n); excluded = symbol.FunctionScopedVariableExcludes.bits; how = hoisted; route = outward_to is_var chain })
    (record { flags = union (lexical_flags n) (marked_ambient n); excluded = symbol.BlockScopedVariableExcludes.bits; how = plain; route = here chain })
    (with_ambient symbol.FunctionScopedVariable.bits n refl) (with_ambient (lexical_flags n) n (lexical_none n))

import_not_own : (b : Bool) → meets (cond b symbol.TypeImport.bits symbol.Import.bits) symbol.FunctionExpression.bits ≡ false
import_not_own true = refl
import_not_own false = refl

-- ---- by the kind of the node

variables : (path : List Node) (p : Place) → EachDeclared IsTopImport (variables_under path p)
variables [] p = tt
variables (n ∷ path) p = row_none p.node (variable_row n p.chain) (is_pure_declarator p.node) (bound_names p.node) (variable_row_none n p.chain)

parameters : (path : List Node) (p : Place) → EachDeclared IsTopImport (parameters_under path p)
parameters [] p = tt
parameters (list ∷ path) p = here_none p symbol.FunctionScopedVariable.bits (parameter_excluded list p.chain) (bound_names p.node) refl

caught_names : (p : Place) (x : Node) → EachDeclared IsTopImport (catch_names p x)
caught_names p x = go (is kind.BindingIdentifier x)
  where
    go : (b : Bool) → EachDeclared IsTopImport (if b then declaration_at p.node (record { flags = union symbol.FunctionScopedVariable.bits symbol.CatchVariable.bits; excluded = 0; how = caught; route = here p.chain }) false x ∷ [] else declare_here p (union symbol.BlockScopedVariable.bits symbol.CatchVariable.bits) symbol.BlockScopedVariableExcludes.bits (bound_names x))
    go true = ((λ e. not_so (meets (union symbol.FunctionScopedVariable.bits symbol.CatchVariable.bits) symbol.Import.bits) refl e), tt)
    go false = here_none p (union symbol.BlockScopedVariable.bits symbol.CatchVariable.bits) symbol.BlockScopedVariableExcludes.bits (bound_names x) refl

all_caught : (p : Place) (xs : List Node) → EachDeclared IsTopImport (flat_map (catch_names p) xs)
all_caught p [] = tt
all_caught p (x ∷ xs) = both (catch_names p x) (flat_map (catch_names p) xs) (caught_names p x) (all_caught p xs)

enums_none : (p : Place) → EachDeclared IsTopImport (enums p)
enums_none p = go (has mark.Const p.node)
  where
    go : (b : Bool) → EachDeclared IsTopImport (if b then declare_here p (union symbol.ConstEnum.bits (marked_ambient p.node)) symbol.ConstEnumExcludes.bits (ids p.node) else declare_here p (union symbol.RegularEnum.bits (marked_ambient p.node)) symbol.RegularEnumExcludes.bits (ids p.node))
    go true = here_none p (union symbol.ConstEnum.bits (marked_ambient p.node)) symbol.ConstEnumExcludes.bits (ids p.node) (with_ambient symbol.ConstEnum.bits p.node refl)
    go false = here_none p (union symbol.RegularEnum.bits (marked_ambient p.node)) symbol.RegularEnumExcludes.bits (ids p.node) (with_ambient symbol.RegularEnum.bits p.node refl)

namespaces : (s : InstanceState) (p : Place) → EachDeclared IsTopImport (namespace_row s p)
namespaces non_instantiated p = here_none p (union symbol.NamespaceModule.bits (marked_ambient p.node)) symbol.NamespaceModuleExcludes.bits (ids p.node) (with_ambient symbol.NamespaceModule.bits p.node refl)
namespaces const_enum_only p = here_none p (union symbol.ValueModule.bits (marked_ambient p.node)) symbol.ValueModuleExcludes.bits (ids p.node) (with_ambient symbol.ValueModule.bits p.node refl)
namespaces instantiated p = here_none p (union symbol.ValueModule.bits (marked_ambient p.node)) symbol.ValueModuleExcludes.bits (ids p.node) (with_ambient symbol.ValueModule.bits p.node refl)

imports : (p : Place) → IsTop (innermost p.chain) → EachDeclared IsTopImport (declare_here p (import_flags p) symbol.ImportBindingExcludes.bits (names_at role.Local p.node))
imports p t = here_top p (import_flags p) symbol.ImportBindingExcludes.bits (names_at role.Local p.node) t (import_not_own (has mark.TypeOnly p.node || parent_holds (has mark.TypeOnly) p.path))

on_entering_it : (k : AstType) (p : Place) → (declares_import k ≡ true → IsTop (innermost p.chain)) → EachDeclared IsTopImport (declared_by k p)
on_entering_it kind.VariableDeclarator p h = variables p.path p
on_entering_it kind.Function p h = when (is_statement p.node) (map (declaration_at p.node (function_row p) (has mark.Pure p.node)) (ids p.node)) (row_none p.node (function_row p) (has mark.Pure p.node) (ids p.node) (function_row_none p))
on_entering_it kind.Class p h = when (is_statement p.node) (map (declaration_at p.node (class_row p p.chain) false) (ids p.node)) (row_none p.node (class_row p p.chain) false (ids p.node) (with_ambient symbol.Class.bits p.node refl))
on_entering_it kind.FormalParameter p h = parameters p.path p
on_entering_it kind.FormalParameterRest p h = parameters p.path p
on_entering_it kind.BindingRestElement p h =
    when (parent_holds (is kind.FormalParameters) p.path) (declare_here p symbol.FunctionScopedVariable.bits (union symbol.FunctionScopedVariableExcludes.bits symbol.FunctionScopedVariable.bits) (bound_names p.node))
    (here_none p symbol.FunctionScopedVariable.bits (union symbol.FunctionScopedVariableExcludes.bits symbol.FunctionScopedVariable.bits) (bound_names p.node) refl)
on_entering_it kind.CatchParameter p h = all_caught p (children_of role.Pattern p.node.children)
on_entering_it kind.ImportSpecifier p h = imports p (h refl)
on_entering_it kind.ImportDefaultSpecifier p h = imports p (h refl)
on_entering_it kind.ImportNamespaceSpecifier p h = imports p (h refl)
on_entering_it kind.TSImportEqualsDeclaration p h = here_top p symbol.Import.bits symbol.ImportBindingExcludes.bits (ids p.node) (h refl) refl
on_entering_it kind.TSTypeAliasDeclaration p h = here_none p (union symbol.TypeAlias.bits (marked_ambient p.node)) symbol.TypeAliasExcludes.bits (ids p.node) (with_ambient symbol.TypeAlias.bits p.node refl)
on_entering_it kind.TSInterfaceDeclaration p h = here_none p (union symbol.Interface.bits (marked_ambient p.node)) symbol.InterfaceExcludes.bits (ids p.node) (with_ambient symbol.Interface.bits p.node refl)
on_entering_it kind.TSEnumDeclaration p h = enums_none p
on_entering_it kind.TSEnumMember p h = here_none p symbol.EnumMember.bits symbol.EnumMemberExcludes.bits (flat_map (member_named p.node) (children_of role.Id p.node.children)) refl
on_entering_it kind.TSNamespaceDeclaration p h = namespaces (instance_state p.node p.path (nodes_around p.node p.path)) p
on_entering_it kind.TSTypeParameter p h = row_none p.node (type_parameter_row (type_parameter_route p)) false (names_at role.Name p.node) refl
on_entering_it _ p h = tt

on_opening_it : (k : AstType) (p : Place) (own : OpenScope) → EachDeclared IsTopImport (declared_inside k p own)
on_opening_it kind.Function p own = unless (is_statement p.node) (map (declaration_at p.node (own_function_row p own) (has mark.Pure p.node)) (ids p.node)) (row_none p.node (own_function_row p own) (has mark.Pure p.node) (ids p.node) (function_none p.node))
on_opening_it kind.Class p own = unless (is_statement p.node) (map (declaration_at p.node (class_row p (own ∷ [])) false) (ids p.node)) (row_none p.node (class_row p (own ∷ [])) false (ids p.node) (with_ambient symbol.Class.bits p.node refl))
on_opening_it kind.TSMappedType p own = row_none p.node (type_parameter_row (here (own ∷ []))) false (names_at role.Key p.node) refl
on_opening_it _ p own = tt

-- ---- along the steps

placed_top : (how : How) (ds : List Declaration) (d : Declaration) → d.how ≡ how → IsTopImport d → IsTopImport (placed_by how ds d)
placed_top plain ds d e h = h
placed_top hoisted ds d e h = h
placed_top caught ds d e h = h
placed_top moved ds d e h = go (is_barred ds d (outside d.route.passed))
  where
    go : (b : Bool) → IsTopImport (if b then staying_declaration d else d)
    go true = λ i. let w : moved ≡ plain = sym e ∙ (h i).0 in absurd cc
    go false = h

of_all : (ds new : List Declaration) → EachDeclared IsTopImport new → (d : Declaration) → Among d (declarations (declares_all ds new)) → IsTopImport d
of_all ds [] h d a = absurd a
of_all ds (w ∷ ws) h d (inl e) = subst IsTopImport e (placed_top w.how ds w refl h.0)
of_all ds (w ∷ ws) h d (inr a) = of_all ds ws h.1 d a

of_step : (ds : List Declaration) (t : Step) → ImportsThere t → (d : Declaration) → Among d (declarations (events_of ds t)) → IsTopImport d
of_step ds (entering p) h d a = of_all ds (declared_on_entering p) (on_entering_it p.node.kind p h) d a
of_step ds (opening p s) h d a =
    of_all ds (declared_on_opening p s) (on_opening_it p.node.kind p s) d
    (subst (Among d) (flat-append declared (taken_over p s) (declares_all ds (declared_on_opening p s)) ∙ ap (λ cs. cs ++ declarations (declares_all ds (declared_on_opening p s))) (taken_none p s)) a)
of_step ds (header_ending p s) h d a = absurd a
of_step ds (closing p s) h d a = absurd a
of_step ds (leaving p) h d a = absurd a

of_steps : (ds : List Declaration) (ss : List Step) → EachStep ImportsThere ss → (d : Declaration) → Among d (declarations (flat_map (events_of ds) ss)) → IsTopImport d
of_steps ds [] h d a = absurd a
of_steps ds (t ∷ ss) h d a = elim (among_cases d (declarations (events_of ds t)) (declarations (flat_map (events_of ds) ss)) (subst (Among d) (flat-append declared (events_of ds t) (flat_map (events_of ds) ss)) a)) [
  | inl b ↦ of_step ds t h.0 d b
  | inr b ↦ of_steps ds ss h.1 d b
]

pub declared_at_top : (p : Tree) → p.root.kind ≡ kind.Program → imports_at_top p.root.children ≡ true → (d : Declaration) → Among d (declarations (events (steps p))) → IsTopImport d
declared_at_top p e h d a = of_steps (written_declarations (steps p)) (steps p) (imports_there p e h) d a
