-- Only the parameter of a catch clause declares a plain catch name, and it stands in the clause's scope, where no `var` goes.
use Rattle.std.proofs.Common.{◌≡◌, ℕ, List, [], ◌∷◌, Option, Some, None, Bool, true, false, cond, ◌&&◌, ◌||◌, not, inl, inr, refl, sym, ap, subst, ◌∙◌, map, flat_map, if◌then◌else◌, codes}
use Rattle.std.specs.List.{list_all}
use Rattle.std.proofs.lemmas.Bool.{cases_Bool}
use Rattle.semantic_kinds.specs.Classes.{is_of}
use Rattle.semantic_kinds.specs.Kinds.{same_kind}
use Rattle.semantic_kinds.specs.Parts.{parts}
use Rattle.semantic_kinds.specs.declared.kind.AstType.{AstType}
use Rattle.semantic_kinds.specs.declared.kind.AstType.TheVariants as kind
use Rattle.semantic_kinds.specs.declared.mark.Mark.TheVariants as mark
use Rattle.semantic_kinds.specs.declared.part.Part.{Part}
use Rattle.semantic_kinds.specs.declared.role.Role.{Role}
use Rattle.semantic_kinds.specs.declared.role.Role.TheVariants as role
use Rattle.semantic_syntax.specs.declared.scope_flags.TheConstants.ScopeFlags as scope
use Rattle.semantic_syntax.specs.declared.symbol_flags.TheConstants.SymbolFlags as symbol
use Rattle.semantic_syntax.specs.Sets.{meets, union}
use Rattle.semantic_syntax.proofs.Truth.{and_first, and_second}
use Rattle.semantic_tree.specs.Faults.{first_fault}
use Rattle.semantic_tree.specs.Forest.{Forest, nothing, tree}
use Rattle.semantic_tree.specs.Tree.{Tree}
use Rattle.semantic_tree.specs.Views.{is, has, is_with_text, children_of}
use Rattle.semantic_tree.specs.declared.node.Node.{Node}
use Rattle.semantic_model.specs.Names.{bound_names, names_at}
use Rattle.semantic_model.specs.Namespace.{InstanceState, non_instantiated, const_enum_only, instantiated, instance_state, nodes_around}
use Rattle.semantic_model.specs.Place.{Place, OpenScope, innermost, is_strict, parent_holds}
use Rattle.semantic_model.specs.Inside.{is_inside, is_parameter_decorator}
use Rattle.semantic_model.specs.ScopeKind.{strict_if, opened_scope}
use Rattle.semantic_model.specs.Cursor.{on_entering}
use Rattle.semantic_model.specs.Declaration.{plain, hoisted, moved, caught, Declaration}
use Rattle.semantic_model.specs.Binder.{BinderRow, declaration_at, declare_here, is_var, marked_ambient, is_statement, is_block_function, variable_row, variables_under, function_row, class_row, is_pure_declarator, ids, parameter_excluded, parameters_under, import_flags, enums, member_named, namespace_row, type_parameter_route, type_parameter_row, declared_by}
use Rattle.semantic_model.specs.Step.{Step, entering, opening, header_ending, closing, leaving, steps_below, steps, scope_at, child_place, root_place}
use Rattle.semantic_model.proofs.fold.EachDeclared.{EachDeclared}
use Rattle.semantic_model.proofs.form.Clauses.{kind_is}
use Rattle.semantic_model.proofs.form.ParameterChains.{is_open_inside}
use Rattle.semantic_model.proofs.form.PartsHold.{passed_hold}
use Rattle.semantic_model.proofs.form.Shape.{has_form}
use Rattle.semantic_model.proofs.steps.EachStep.{EachStep, each_of_node, each_of_turn}
use Rattle.semantic_model.proofs.steps.Turn.{Turn, turn_at}
use Rattle.semantic_model.proofs.steps.TurnCases.{opening_case, ending_case, last_case}
use Rattle.walk_model.proofs.places.Shapes.{holds_below, tree_holds}
use Rattle.binding_laws.proofs.SmallLaws.{implied}

-- of a node that is no such parameter no name is so
abbrev pub IsNotCaught : Declaration → Type 0
IsNotCaught d = d.how ≡ caught → ⊥

abbrev NoneCaught : List Declaration → Type 0
NoneCaught = EachDeclared IsNotCaught

row_none : (node : Node) (row : BinderRow) (is_pure : Bool) (names : List Node) → (row.how ≡ caught → ⊥) → NoneCaught (map (declaration_at node row is_pure) names)
row_none node row is_pure [] h = tt
row_none node row is_pure (x ∷ xs) h = (h, row_none node row is_pure xs h)

not_plain : plain ≡ caught → ⊥
not_plain e = absurd cc

not_hoisted : hoisted ≡ caught → ⊥
not_hoisted e = absurd cc

not_moved : moved ≡ caught → ⊥
not_moved e = absurd cc

here_none : (p : Place) (flags excluded : ℕ) (names : List Node) → NoneCaught (declare_here p flags excluded names)
here_none p flags excluded [] = tt
here_none p flags excluded (x ∷ xs) = (not_plain, here_none p flags excluded xs)

variables : (path : List Node) (p : Place) → NoneCaught (variables_under path p)
variables [] p = tt
variables (declaration ∷ path) p = row_none p.node (variable_row declaration p.chain) (is_pure_declarator p.node) (bound_names p.node) (by (is_with_text kind.VariableDeclaration (codes "var") declaration) refl)
  where
    by : (b : Bool) → is_with_text kind.VariableDeclaration (codes "var") declaration ≡ b → (variable_row declaration p.chain).how ≡ caught → ⊥
    by true q = rw q not_hoisted
    by false q = rw q not_plain

functions : (p : Place) → NoneCaught (declared_by kind.Function p)
functions p = by (is_statement p.node)
  where
    row : (b : Bool) → is_block_function p ≡ b → (function_row p).how ≡ caught → ⊥
    row true q = rw q not_moved
    row false q = rw q not_plain

    by : (b : Bool) → NoneCaught (cond b (map (declaration_at p.node (function_row p) (has mark.Pure p.node)) (ids p.node)) [])
    by true = row_none p.node (function_row p) (has mark.Pure p.node) (ids p.node) (row (is_block_function p) refl)
    by false = tt

classes : (p : Place) → NoneCaught (declared_by kind.Class p)
classes p = by (is_statement p.node)
  where
    by : (b : Bool) → NoneCaught (cond b (map (declaration_at p.node (class_row p p.chain) false) (ids p.node)) [])
    by true = row_none p.node (class_row p p.chain) false (ids p.node) not_plain
    by false = tt

parameters : (path : List Node) (p : Place) → NoneCaught (parameters_under path p)
parameters [] p = tt
parameters (l ∷ path) p = here_none p symbol.FunctionScopedVariable.bits (parameter_excluded l p.chain) (bound_names p.node)

rest_names : (p : Place) → NoneCaught (declared_by kind.BindingRestElement p)
rest_names p = by (parent_holds (is kind.FormalParameters) p.path)
  where
    by : (b : Bool) → NoneCaught (cond b (declare_here p symbol.FunctionScopedVariable.bits (union symbol.FunctionScopedVariableExcludes.bits symbol.FunctionScopedVariable.bits) (bound_names p.node)) [])
    by true = here_none p symbol.FunctionScopedVariable.bits (union symbol.FunctionScopedVariableExcludes.bits symbol.FunctionScopedVariable.bits) (bound_names p.node)
    by false = tt

enum_names : (p : Place) → NoneCaught (enums p)
enum_names p = by (has mark.Const p.node)
  where
    by : (b : Bool) → NoneCaught (if b then declare_here p (union symbol.ConstEnum.bits (marked_ambient p.node)) symbol.ConstEnumExcludes.bits (ids p.node) else declare_here p (union symbol.RegularEnum.bits (marked_ambient p.node)) symbol.RegularEnumExcludes.bits (ids p.node))
    by true = here_none p (union symbol.ConstEnum.bits (marked_ambient p.node)) symbol.ConstEnumExcludes.bits (ids p.node)
    by false = here_none p (union symbol.RegularEnum.bits (marked_ambient p.node)) symbol.RegularEnumExcludes.bits (ids p.node)

namespace_names : (s : InstanceState) (p : Place) → NoneCaught (namespace_row s p)
namespace_names non_instantiated p = here_none p (union symbol.NamespaceModule.bits (marked_ambient p.node)) symbol.NamespaceModuleExcludes.bits (ids p.node)
namespace_names const_enum_only p = here_none p (union symbol.ValueModule.bits (marked_ambient p.node)) symbol.ValueModuleExcludes.bits (ids p.node)
namespace_names instantiated p = here_none p (union symbol.ValueModule.bits (marked_ambient p.node)) symbol.ValueModuleExcludes.bits (ids p.node)

pub none_caught : (k : AstType) (p : Place) → (k ≡ kind.CatchParameter → ⊥) → NoneCaught (declared_by k p)
none_caught kind.VariableDeclarator p n = variables p.path p
none_caught kind.Function p n = functions p
none_caught kind.Class p n = classes p
none_caught kind.FormalParameter p n = parameters p.path p
none_caught kind.FormalParameterRest p n = parameters p.path p
none_caught kind.BindingRestElement p n = rest_names p
none_caught kind.CatchParameter p n = absurd (n refl)
none_caught kind.ImportSpecifier p n = here_none p (import_flags p) symbol.ImportBindingExcludes.bits (names_at role.Local p.node)
none_caught kind.ImportDefaultSpecifier p n = here_none p (import_flags p) symbol.ImportBindingExcludes.bits (names_at role.Local p.node)
none_caught kind.ImportNamespaceSpecifier p n = here_none p (import_flags p) symbol.ImportBindingExcludes.bits (names_at role.Local p.node)
none_caught kind.TSImportEqualsDeclaration p n = here_none p symbol.Import.bits symbol.ImportBindingExcludes.bits (ids p.node)
none_caught kind.TSTypeAliasDeclaration p n = here_none p (union symbol.TypeAlias.bits (marked_ambient p.node)) symbol.TypeAliasExcludes.bits (ids p.node)
none_caught kind.TSInterfaceDeclaration p n = here_none p (union symbol.Interface.bits (marked_ambient p.node)) symbol.InterfaceExcludes.bits (ids p.node)
none_caught kind.TSEnumDeclaration p n = enum_names p
none_caught kind.TSEnumMember p n = here_none p symbol.EnumMember.bits symbol.EnumMemberExcludes.bits (flat_map (member_named p.node) (children_of role.Id p.node.children))
none_caught kind.TSNamespaceDeclaration p n = namespace_names (instance_state p.node p.path (nodes_around p.node p.path)) p
none_caught kind.TSTypeParameter p n = row_none p.node (type_parameter_row (type_parameter_route p)) false (names_at role.Name p.node) not_plain
none_caught _ p n = tt

-- such a parameter stands under a catch clause
abbrev stands_in_clause : AstType → Role → AstType → List ℕ → Bool
stands_in_clause k r k2 text = not (same_kind k2 kind.CatchParameter) || same_kind k kind.CatchClause

holds_part : AstType → List ℕ → Part → Bool
holds_part k text part = not (is_of part.class kind.CatchParameter text) || same_kind k kind.CatchClause

all_parts : (k : AstType) (text : List ℕ) → list_all (holds_part k text) (parts k) ≡ true
unfolding holds_part
all_parts kind.Program text = refl
all_parts _ text = refl

part_stands : (k : AstType) (part : Part) (k2 : AstType) (text : List ℕ) → holds_part k text part ≡ true → is_of part.class k2 text ≡ true → stands_in_clause k part.role k2 text ≡ true
unfolding holds_part
part_stands k part k2 text h i = elim (cases_Bool (same_kind k2 kind.CatchParameter)) [
  | inl e ↦ rw e (implied (is_of part.class kind.CatchParameter text) (same_kind k kind.CatchClause) h (subst (λ q. is_of part.class q text ≡ true) (kind_is k2 kind.CatchParameter e) i))
  | inr e ↦ rw e refl
]

clauses_hold : (p : Tree) → first_fault p ≡ None → holds_below stands_in_clause p.root.kind p.root.children ≡ true
clauses_hold p h = tree_holds stands_in_clause (λ k. passed_hold stands_in_clause (holds_part k) k (part_stands k) (parts k) (all_parts k)) p h

-- a clause's scope is none where a `var` goes
clause_not_var : (p : Place) (n : ℕ) → p.node.kind ≡ kind.CatchClause → is_var (opened_scope p n) ≡ false
clause_not_var p n e = rw e (by (is_strict p.chain))
  where
    by : (b : Bool) → meets (union scope.CatchClause.bits (strict_if b)) scope.Var.bits ≡ false
    by true = refl
    by false = refl

abbrev OwnClause : Place → Option OpenScope → Type 0
OwnClause p None = Unit {0}
OwnClause p (Some s) = p.node.kind ≡ kind.CatchClause → is_var s ≡ false

own_clause : (p : Place) (r : Role) (own : Option OpenScope) (n : ℕ) → OwnClause p own → OwnClause p (scope_at p r own n)
own_clause p r (Some s) n h = h
own_clause p r None n h = by (is_inside p.node.kind r)
  where
    by : (b : Bool) → OwnClause p (cond b (Some (opened_scope p n)) None)
    by true = λ e. clause_not_var p n e
    by false = tt

abbrev pub IsCatchStep : Step → Type 0
IsCatchStep (entering p) = p.node.kind ≡ kind.CatchParameter → is_var (innermost p.chain) ≡ false
IsCatchStep (opening p s) = Unit {0}
IsCatchStep (header_ending p s) = Unit {0}
IsCatchStep (closing p s) = Unit {0}
IsCatchStep (leaving p) = Unit {0}

child_stands : (p : Place) (own : Option OpenScope) (cursor : ℕ) (r : Role) (node : Node) → (is_inside p.node.kind r ≡ true → own ≡ None → ⊥) → OwnClause p own → p.node.kind ≡ kind.CatchClause → is_var (innermost (child_place p own cursor r node).chain) ≡ false
child_stands p None cursor r node i o e = absurd (i (ap (λ k. is_inside k r) e) refl)
child_stands p (Some s) cursor r node i o e =
    let outer : is_parameter_decorator p.node.kind r ≡ false = ap (λ k. is_parameter_decorator k r) e in
    let inner : is_inside p.node.kind r ≡ true = ap (λ k. is_inside k r) e in
    rw (outer, inner) (o e)

below : (p : Place) (own : Option OpenScope) (n cursor : ℕ) (f : Forest) → OwnClause p own → holds_below stands_in_clause p.node.kind f ≡ true → EachStep IsCatchStep (steps_below p own n cursor f)
below p own n cursor nothing o h = last_case (EachStep IsCatchStep) p own n tt (tt, (tt, tt))
below p own n cursor (tree r k span text marks under id after) o h =
    let node : Node = record { kind = k; span = span; text = text; marks = marks; children = under; node_id = id } in
    let turn : Turn = turn_at p own n cursor r node after in
    let scope_is : OwnClause p turn.scope = own_clause p r own n o in
    let here : stands_in_clause p.node.kind r k text ≡ true = and_first (stands_in_clause p.node.kind r k text) _ h in
    let rest : (holds_below stands_in_clause k under && holds_below stands_in_clause p.node.kind after) ≡ true = and_second (stands_in_clause p.node.kind r k text) _ h in
    each_of_turn IsCatchStep turn (record {
      before = opening_case (EachStep IsCatchStep) p r own n tt (tt, tt);
      whole = each_of_node IsCatchStep turn.child turn.below
          (λ e. child_stands p turn.scope cursor r node (is_open_inside p r own n) scope_is (kind_is p.node.kind kind.CatchClause (implied (same_kind k kind.CatchParameter) (same_kind p.node.kind kind.CatchClause) here (ap (λ m. same_kind m kind.CatchParameter) e))))
          (below turn.child None turn.next turn.inner under tt (and_first (holds_below stands_in_clause k under) _ rest)) tt;
      behind = ending_case (EachStep IsCatchStep) p r turn.scope after tt (λ s. (tt, tt)) (λ s. (tt, tt)) (λ s. (tt, (tt, tt)));
      others = below p turn.scope turn.rest turn.past after scope_is (and_second (holds_below stands_in_clause k under) _ rest);
    })

pub catch_steps : (p : Tree) → first_fault p ≡ None → EachStep IsCatchStep (steps p)
catch_steps p h =
    each_of_node IsCatchStep (root_place p) (steps_below (root_place p) None 0 (on_entering p.root.kind 0) p.root.children)
    (λ e. let q : kind.Program ≡ kind.CatchParameter = sym (has_form p h).root ∙ e in absurd cc)
    (below (root_place p) None 0 (on_entering p.root.kind 0) p.root.children tt (clauses_hold p h)) tt
