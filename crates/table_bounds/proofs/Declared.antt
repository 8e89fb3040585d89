-- Each declaration of a program has small numbers and flags that have names.
use Rattle.std.proofs.Common.{ℕ, List, [], ◌∷◌, ◌++◌, cond, Bool, true, false, ◌||◌, inl, inr, Option, Some, None, refl, subst, map, flat_map, if◌then◌else◌, codes, lit<, IfSome}
use Rattle.std.specs.List.{AllByRecursion}
use lib.Bits.{or_lt}
use Rattle.semantic_kinds.specs.declared.kind.AstType.{AstType}
use Rattle.semantic_kinds.specs.declared.kind.AstType.TheVariants as kind
use Rattle.semantic_kinds.specs.declared.mark.Mark.TheVariants as mark
use Rattle.semantic_kinds.specs.declared.role.Role.{Role}
use Rattle.semantic_kinds.specs.declared.role.Role.TheVariants as role
use Rattle.semantic_syntax.proofs.Every.{every-append}
use Rattle.semantic_syntax.specs.FlagNames.{symbol_flag_names}
use Rattle.semantic_syntax.specs.Sets.{union}
use Rattle.semantic_syntax.specs.declared.symbol_flags.TheConstants.SymbolFlags as symbol
use Rattle.semantic_tree.specs.Views.{is, has, is_with_text, children_of}
use Rattle.semantic_tree.specs.declared.node.Node.{Node}
use Rattle.semantic_model.specs.Binder.{BinderRow, declaration_at, declare_here, ids, is_statement, is_special, ambient_if, marked_ambient, lexical_flags, function_flags, function_excluded, is_block_function, function_row, own_function_row, class_row, variable_row, variables_under, is_pure_declarator, is_var, is_conditional, parameter_excluded, parameters_under, catch_names, import_flags, enums, member_names, named_member, member_named, member_declarations, namespace_row, type_parameter_route, type_parameter_row, declared_by, declared_inside}
use Rattle.semantic_model.specs.Declaration.{Declaration, Route, How, plain, hoisted, moved, caught, here, passed_before, first_with, route_from, outward_to, outward_past}
use Rattle.semantic_model.specs.Entries.{Among}
use Rattle.semantic_model.specs.Event.{Event, declares, takes_over, ends_header, declared_at, events_of, declares_all, is_barred, staying_declaration, placed_by, taken_over, is_catch_body}
use Rattle.semantic_model.specs.Names.{bound_names, names_at}
use Rattle.semantic_model.specs.Namespace.{InstanceState, non_instantiated, const_enum_only, instantiated, instance_state, nodes_around}
use Rattle.semantic_model.specs.Place.{Place, OpenScope, innermost, outside, parent_holds}
use Rattle.semantic_model.specs.Step.{Step, entering, opening, header_ending, closing, leaving}
use Rattle.program_laws.proofs.DeclaredNodes.{among_map, among_flat, bound_of}
use Rattle.program_laws.proofs.Walked.{node_at}
use Rattle.program_laws.proofs.TreeNodes.{nodes_from, child_in}
use Rattle.table_bounds.specs.Tellable.{IsWrittenWhole, HaveNames}
use Rattle.table_bounds.proofs.Nodes.{IsBounded}
use Rattle.table_bounds.proofs.Chains.{IsBoundedScope, IsBoundedChain, IsBoundedPlace, IsBoundedStep}

abbrev pub AreSymbolFlags : ℕ → Type 0
AreSymbolFlags bits = HaveNames symbol_flag_names bits

pub both : (x y : ℕ) → AreSymbolFlags x → AreSymbolFlags y → AreSymbolFlags (union x y)
both x y h k = or_lt 19 x y h k

either : (b : Bool) (x y : ℕ) → AreSymbolFlags x → AreSymbolFlags y → AreSymbolFlags (cond b x y)
either true x y h k = h
either false x y h k = k

-- ---- routes

pub record IsBoundedRoute (r : Route) : Type 0 where
  pub passed : IsBoundedChain r.passed
  pub target : IsBoundedScope r.target

pub innermost_bounded : (chain : List OpenScope) → IsBoundedChain chain → IsBoundedScope (innermost chain)
innermost_bounded [] h = record { number = lit< tt; body = tt; flags = lit< tt }
innermost_bounded (s ∷ ss) h = h.0

here_bounded : (chain : List OpenScope) → IsBoundedChain chain → IsBoundedRoute (here chain)
here_bounded chain h = record { passed = tt; target = innermost_bounded chain h }

passed_bounded : (test : OpenScope → Bool) (chain : List OpenScope) → IsBoundedChain chain → IsBoundedChain (passed_before test chain)
passed_bounded test [] h = tt
passed_bounded test (s ∷ ss) h = by (test s) (passed_bounded test ss h.1)
  where
    by : (b : Bool) → IsBoundedChain (passed_before test ss) → IsBoundedChain (cond b [] (s ∷ passed_before test ss))
    by true later = tt
    by false later = (h.0, later)

first_bounded : (test : OpenScope → Bool) (chain : List OpenScope) → IsBoundedChain chain → IfSome (first_with test chain) IsBoundedScope
first_bounded test [] h = tt
first_bounded test (s ∷ ss) h = by (test s) (first_bounded test ss h.1)
  where
    by : (b : Bool) → IfSome (first_with test ss) IsBoundedScope → IfSome (cond b (Some s) (first_with test ss)) IsBoundedScope
    by true later = h.0
    by false later = later

from_bounded : (chain passed : List OpenScope) (o : Option OpenScope) → IsBoundedChain chain → IsBoundedChain passed → IfSome o IsBoundedScope → IsBoundedRoute (route_from chain passed o)
from_bounded chain passed None h k l = here_bounded chain h
from_bounded chain passed (Some s) h k l = record { passed = k; target = l }

outward_bounded : (test : OpenScope → Bool) (chain : List OpenScope) → IsBoundedChain chain → IsBoundedRoute (outward_to test chain)
outward_bounded test chain h = from_bounded chain (passed_before test chain) (first_with test chain) h (passed_bounded test chain h) (first_bounded test chain h)

past_bounded : (test : OpenScope → Bool) (chain : List OpenScope) → IsBoundedChain chain → IsBoundedRoute (outward_past test chain)
past_bounded test [] h = here_bounded [] tt
past_bounded test (s ∷ ss) h = from_bounded (s ∷ ss) (s ∷ passed_before test ss) (first_with test ss) h (h.0, passed_bounded test ss h.1) (first_bounded test ss h.1)

-- ---- declarations

pub record IsBoundedDeclaration (d : Declaration) : Type 0 where
  pub node : IsWrittenWhole d.naming.node
  pub start : IsWrittenWhole d.naming.span.start
  pub end : IsWrittenWhole d.naming.span.end
  pub flags : AreSymbolFlags d.naming.flags
  pub route : IsBoundedRoute d.route

record IsBoundedRow (row : BinderRow) : Type 0 where
  flags : AreSymbolFlags row.flags
  route : IsBoundedRoute row.route

ambient_named : (b : Bool) → AreSymbolFlags (ambient_if b)
ambient_named b = either b symbol.Ambient.bits 0 (lit< tt) (lit< tt)

with_ambient : (x : ℕ) (node : Node) → AreSymbolFlags x → AreSymbolFlags (union x (marked_ambient node))
with_ambient x node h = both x (marked_ambient node) h (ambient_named (has mark.Declare node))

lexical_named : (declaration : Node) → AreSymbolFlags (lexical_flags declaration)
lexical_named declaration =
    either (is_with_text kind.VariableDeclaration (codes "let") declaration) symbol.BlockScopedVariable.bits (union symbol.BlockScopedVariable.bits symbol.ConstVariable.bits) (lit< tt)
    (both symbol.BlockScopedVariable.bits symbol.ConstVariable.bits (lit< tt) (lit< tt))

function_named : (node : Node) → AreSymbolFlags (function_flags node)
function_named node =
    both (union symbol.Function.bits (marked_ambient node)) (union (cond (is_statement node) 0 symbol.FunctionExpression.bits) (cond (is_special node) symbol.AsyncOrGeneratorFunction.bits 0))
    (with_ambient symbol.Function.bits node (lit< tt))
    (both (cond (is_statement node) 0 symbol.FunctionExpression.bits) (cond (is_special node) symbol.AsyncOrGeneratorFunction.bits 0)
    (either (is_statement node) 0 symbol.FunctionExpression.bits (lit< tt) (lit< tt)) (either (is_special node) symbol.AsyncOrGeneratorFunction.bits 0 (lit< tt) (lit< tt)))

variable_bounded : (declaration : Node) (chain : List OpenScope) → IsBoundedChain chain → IsBoundedRow (variable_row declaration chain)
variable_bounded declaration chain h = by (is_with_text kind.VariableDeclaration (codes "var") declaration)
  where
    by : (b : Bool) → IsBoundedRow (if b
        then record { flags = union symbol.FunctionScopedVariable.bits (marked_ambient declaration); excluded = symbol.FunctionScopedVariableExcludes.bits; how = hoisted; route = outward_to is_var chain }
        else record { flags = union (lexical_flags declaration) (marked_ambient declaration); excluded = symbol.BlockScopedVariableExcludes.bits; how = plain; route = here chain })
    by true = record { flags = with_ambient symbol.FunctionScopedVariable.bits declaration (lit< tt); route = outward_bounded is_var chain h }
    by false = record { flags = with_ambient (lexical_flags declaration) declaration (lexical_named declaration); route = here_bounded chain h }

function_bounded : (p : Place) → IsBoundedChain p.chain → IsBoundedRow (function_row p)
function_bounded p h = by (is_block_function p)
  where
    by : (b : Bool) → IsBoundedRow (if b
        then record { flags = function_flags p.node; excluded = function_excluded p; how = moved; route = outward_past is_var p.chain }
        else record { flags = function_flags p.node; excluded = function_excluded p; how = plain; route = here p.chain })
    by true = record { flags = function_named p.node; route = past_bounded is_var p.chain h }
    by false = record { flags = function_named p.node; route = here_bounded p.chain h }

class_bounded : (p : Place) (chain : List OpenScope) → IsBoundedChain chain → IsBoundedRow (class_row p chain)
class_bounded p chain h = record { flags = with_ambient symbol.Class.bits p.node (lit< tt); route = here_bounded chain h }

parameter_route_bounded : (p : Place) → IsBoundedChain p.chain → IsBoundedRoute (type_parameter_route p)
parameter_route_bounded p h = by (parent_holds (is kind.TSInferType) p.path)
  where
    by : (b : Bool) → IsBoundedRoute (cond b (outward_to is_conditional p.chain) (here p.chain))
    by true = outward_bounded is_conditional p.chain h
    by false = here_bounded p.chain h

import_named : (p : Place) → AreSymbolFlags (import_flags p)
import_named p = either (has mark.TypeOnly p.node || parent_holds (has mark.TypeOnly) p.path) symbol.TypeImport.bits symbol.Import.bits (lit< tt) (lit< tt)

-- a node that is named here is bounded
row_of : (node : Node) (row : BinderRow) (is_pure : Bool) (xs : List Node) (d : Declaration) → IsBounded node → IsBoundedRow row → ((x : Node) → Among x xs → IsBounded x) → Among d (map (declaration_at node row is_pure) xs) → IsBoundedDeclaration d
row_of node row is_pure xs d h k each a =
    let (x, b, e) = among_map (declaration_at node row is_pure) xs d a in
    let name : IsBounded x = each x b in
    subst IsBoundedDeclaration e (record { node = h.id; start = name.start; end = name.end; flags = k.flags; route = k.route })

among_if : {A : Type 0} → (b : Bool) (xs : List A) (x : A) → Among x (cond b xs []) → Among x xs
among_if true xs x a = a
among_if false xs x a = absurd a

among_unless : {A : Type 0} → (b : Bool) (xs : List A) (x : A) → Among x (cond b [] xs) → Among x xs
among_unless true xs x a = absurd a
among_unless false xs x a = a

module _ (p : Place) (place : IsBoundedPlace p) (all : (x : Node) → Among x (nodes_from p.node) → IsBounded x) where
  own : IsBounded p.node
  own = all p.node (inl refl)

  bound_names_bounded : (x : Node) → Among x (bound_names p.node) → IsBounded x
  bound_names_bounded x a = all x (bound_of p.node x a).among

  child_bounded : (r : Role) (child : Node) → Among child (children_of r p.node.children) → (x : Node) → Among x (nodes_from child) → IsBounded x
  child_bounded r child a x b = all x (inr (child_in r p.node.children child a x b))

  names_bounded : (r : Role) (x : Node) → Among x (names_at r p.node) → IsBounded x
  names_bounded r x a =
      let (child, b, c) = among_flat bound_names (children_of r p.node.children) x a in
      child_bounded r child b x (bound_of child x c).among

  abbrev row_here : ℕ → ℕ → BinderRow
  row_here flags excluded = record { flags = flags; excluded = excluded; how = plain; route = here p.chain }

  here_row : (flags excluded : ℕ) → AreSymbolFlags flags → IsBoundedRow (row_here flags excluded)
  here_row flags excluded h = record { flags = h; route = here_bounded p.chain place.chain }

  own_row : (row : BinderRow) (is_pure : Bool) (d : Declaration) → IsBoundedRow row → Among d (map (declaration_at p.node row is_pure) (bound_names p.node)) → IsBoundedDeclaration d
  own_row row is_pure d k a = row_of p.node row is_pure (bound_names p.node) d own k bound_names_bounded a

  role_row : (r : Role) (row : BinderRow) (is_pure : Bool) (d : Declaration) → IsBoundedRow row → Among d (map (declaration_at p.node row is_pure) (names_at r p.node)) → IsBoundedDeclaration d
  role_row r row is_pure d k a = row_of p.node row is_pure (names_at r p.node) d own k (names_bounded r) a

  role_here : (r : Role) (flags excluded : ℕ) (d : Declaration) → AreSymbolFlags flags → Among d (declare_here p flags excluded (names_at r p.node)) → IsBoundedDeclaration d
  role_here r flags excluded d h a = role_row r (row_here flags excluded) false d (here_row flags excluded h) a

  variables_of : (path : List Node) (d : Declaration) → Among d (variables_under path p) → IsBoundedDeclaration d
  variables_of [] d a = absurd a
  variables_of (x ∷ xs) d a = own_row (variable_row x p.chain) (is_pure_declarator p.node) d (variable_bounded x p.chain place.chain) a

  parameters_of : (path : List Node) (d : Declaration) → Among d (parameters_under path p) → IsBoundedDeclaration d
  parameters_of [] d a = absurd a
  parameters_of (x ∷ xs) d a = own_row (row_here symbol.FunctionScopedVariable.bits (parameter_excluded x p.chain)) false d (here_row symbol.FunctionScopedVariable.bits (parameter_excluded x p.chain) (lit< tt)) a

  catch_of : (pattern : Node) (d : Declaration) → Among pattern (children_of role.Pattern p.node.children) → Among d (catch_names p pattern) → IsBoundedDeclaration d
  catch_of pattern d b a = go (is kind.BindingIdentifier pattern) a
    where
      caught_row : BinderRow
      caught_row = record { flags = union symbol.FunctionScopedVariable.bits symbol.CatchVariable.bits; excluded = 0; how = caught; route = here p.chain }

      named : IsBounded pattern
      named = child_bounded role.Pattern pattern b pattern (inl refl)

      lexical : AreSymbolFlags (union symbol.BlockScopedVariable.bits symbol.CatchVariable.bits)
      lexical = both symbol.BlockScopedVariable.bits symbol.CatchVariable.bits (lit< tt) (lit< tt)

      go : (t : Bool) → Among d (if t then declaration_at p.node caught_row false pattern ∷ [] else declare_here p (union symbol.BlockScopedVariable.bits symbol.CatchVariable.bits) symbol.BlockScopedVariableExcludes.bits (bound_names pattern)) → IsBoundedDeclaration d
      go true (inl q) = subst IsBoundedDeclaration q (record { node = own.id; start = named.start; end = named.end; flags = both symbol.FunctionScopedVariable.bits symbol.CatchVariable.bits (lit< tt) (lit< tt); route = here_bounded p.chain place.chain })
      go true (inr q) = absurd q
      go false q =
          row_of p.node (row_here (union symbol.BlockScopedVariable.bits symbol.CatchVariable.bits) symbol.BlockScopedVariableExcludes.bits) false (bound_names pattern) d own
          (here_row (union symbol.BlockScopedVariable.bits symbol.CatchVariable.bits) symbol.BlockScopedVariableExcludes.bits lexical) (λ x c. child_bounded role.Pattern pattern b x (bound_of pattern x c).among) q

  namespace_of : (s : InstanceState) (d : Declaration) → Among d (namespace_row s p) → IsBoundedDeclaration d
  namespace_of non_instantiated d a = role_here role.Id (union symbol.NamespaceModule.bits (marked_ambient p.node)) symbol.NamespaceModuleExcludes.bits d (with_ambient symbol.NamespaceModule.bits p.node (lit< tt)) a
  namespace_of const_enum_only d a = role_here role.Id (union symbol.ValueModule.bits (marked_ambient p.node)) symbol.ValueModuleExcludes.bits d (with_ambient symbol.ValueModule.bits p.node (lit< tt)) a
  namespace_of instantiated d a = role_here role.Id (union symbol.ValueModule.bits (marked_ambient p.node)) symbol.ValueModuleExcludes.bits d (with_ambient symbol.ValueModule.bits p.node (lit< tt)) a

  enum_of : (d : Declaration) → Among d (enums p) → IsBoundedDeclaration d
  enum_of d a = go (has mark.Const p.node) a
    where
      go : (b : Bool) → Among d (if b then declare_here p (union symbol.ConstEnum.bits (marked_ambient p.node)) symbol.ConstEnumExcludes.bits (ids p.node) else declare_here p (union symbol.RegularEnum.bits (marked_ambient p.node)) symbol.RegularEnumExcludes.bits (ids p.node)) → IsBoundedDeclaration d
      go true q = role_here role.Id (union symbol.ConstEnum.bits (marked_ambient p.node)) symbol.ConstEnumExcludes.bits d (with_ambient symbol.ConstEnum.bits p.node (lit< tt)) q
      go false q = role_here role.Id (union symbol.RegularEnum.bits (marked_ambient p.node)) symbol.RegularEnumExcludes.bits d (with_ambient symbol.RegularEnum.bits p.node (lit< tt)) q

  member_of : (d : Declaration) → Among d (member_declarations p) → IsBoundedDeclaration d
  member_of d a =
      row_of p.node (row_here symbol.EnumMember.bits symbol.EnumMemberExcludes.bits) false (flat_map (member_named p.node) (children_of role.Id p.node.children)) d own
      (here_row symbol.EnumMember.bits symbol.EnumMemberExcludes.bits (lit< tt)) each a
    where
      each : (x : Node) → Among x (flat_map (member_named p.node) (children_of role.Id p.node.children)) → IsBounded x
      each x b =
          let (id, c, f) = among_flat (member_named p.node) (children_of role.Id p.node.children) x b in
          let (name, g, h) = among_map (named_member p.node id) (member_names id) x f in
          let at : IsBounded id = child_bounded role.Id id c id (inl refl) in
          subst IsBounded h (record { id = own.id; start = at.start; end = at.end })

  declared_of : (k : AstType) (d : Declaration) → Among d (declared_by k p) → IsBoundedDeclaration d
  declared_of kind.VariableDeclarator d a = variables_of p.path d a
  declared_of kind.Function d a = role_row role.Id (function_row p) (has mark.Pure p.node) d (function_bounded p place.chain) (among_if (is_statement p.node) (map (declaration_at p.node (function_row p) (has mark.Pure p.node)) (ids p.node)) d a)
  declared_of kind.Class d a = role_row role.Id (class_row p p.chain) false d (class_bounded p p.chain place.chain) (among_if (is_statement p.node) (map (declaration_at p.node (class_row p p.chain) false) (ids p.node)) d a)
  declared_of kind.FormalParameter d a = parameters_of p.path d a
  declared_of kind.FormalParameterRest d a = parameters_of p.path d a
  declared_of kind.BindingRestElement d a =
      let row : BinderRow = row_here symbol.FunctionScopedVariable.bits (union symbol.FunctionScopedVariableExcludes.bits symbol.FunctionScopedVariable.bits) in
      own_row row false d (here_row symbol.FunctionScopedVariable.bits (union symbol.FunctionScopedVariableExcludes.bits symbol.FunctionScopedVariable.bits) (lit< tt)) (among_if (parent_holds (is kind.FormalParameters) p.path) (map (declaration_at p.node row false) (bound_names p.node)) d a)
  declared_of kind.CatchParameter d a = let (x, b, c) = among_flat (catch_names p) (children_of role.Pattern p.node.children) d a in catch_of x d b c
  declared_of kind.ImportSpecifier d a = role_here role.Local (import_flags p) symbol.ImportBindingExcludes.bits d (import_named p) a
  declared_of kind.ImportDefaultSpecifier d a = role_here role.Local (import_flags p) symbol.ImportBindingExcludes.bits d (import_named p) a
  declared_of kind.ImportNamespaceSpecifier d a = role_here role.Local (import_flags p) symbol.ImportBindingExcludes.bits d (import_named p) a
  declared_of kind.TSImportEqualsDeclaration d a = role_here role.Id symbol.Import.bits symbol.ImportBindingExcludes.bits d (lit< tt) a
  declared_of kind.TSTypeAliasDeclaration d a = role_here role.Id (union symbol.TypeAlias.bits (marked_ambient p.node)) symbol.TypeAliasExcludes.bits d (with_ambient symbol.TypeAlias.bits p.node (lit< tt)) a
  declared_of kind.TSInterfaceDeclaration d a = role_here role.Id (union symbol.Interface.bits (marked_ambient p.node)) symbol.InterfaceExcludes.bits d (with_ambient symbol.Interface.bits p.node (lit< tt)) a
  declared_of kind.TSEnumDeclaration d a = enum_of d a
  declared_of kind.TSEnumMember d a = member_of d a
  declared_of kind.TSNamespaceDeclaration d a = namespace_of (instance_state p.node p.path (nodes_around p.node p.path)) d a
  declared_of kind.TSTypeParameter d a = role_row role.Name (type_parameter_row (type_parameter_route p)) false d (record { flags = lit< tt; route = parameter_route_bounded p place.chain }) a
  declared_of _ d a = absurd a

  inside_of : (k : AstType) (s : OpenScope) (d : Declaration) → IsBoundedScope s → Among d (declared_inside k p s) → IsBoundedDeclaration d
  inside_of kind.Function s d h a =
      role_row role.Id (own_function_row p s) (has mark.Pure p.node) d (record { flags = function_named p.node; route = here_bounded (s ∷ []) (h, tt) })
      (among_unless (is_statement p.node) (map (declaration_at p.node (own_function_row p s) (has mark.Pure p.node)) (ids p.node)) d a)
  inside_of kind.Class s d h a = role_row role.Id (class_row p (s ∷ [])) false d (class_bounded p (s ∷ []) (h, tt)) (among_unless (is_statement p.node) (map (declaration_at p.node (class_row p (s ∷ [])) false) (ids p.node)) d a)
  inside_of kind.TSMappedType s d h a = role_row role.Key (type_parameter_row (here (s ∷ []))) false d (record { flags = lit< tt; route = here_bounded (s ∷ []) (h, tt) }) a
  inside_of _ s d h a = absurd a

-- ---- events

abbrev pub IsBoundedEvent : Event → Type 0
IsBoundedEvent (declares d) = IsBoundedDeclaration d
IsBoundedEvent (takes_over clause body) = IsWrittenWhole body
IsBoundedEvent (ends_header c) = Unit {0}

pub last_target : (passed : List OpenScope) (target : OpenScope) → IsBoundedChain passed → IsBoundedScope target → IsBoundedScope (innermost (passed ++ target ∷ []))
last_target [] target h k = k
last_target (s ∷ ss) target h k = h.0

staying_bounded : (d : Declaration) → IsBoundedDeclaration d → IsBoundedDeclaration (staying_declaration d)
staying_bounded d h = record {
  node = h.node;
  start = h.start;
  end = h.end;
  flags = h.flags;
  route = record { passed = tt; target = last_target d.route.passed d.route.target h.route.passed h.route.target };
}

placed_bounded : (how : How) (ds : List Declaration) (d : Declaration) → IsBoundedDeclaration d → IsBoundedDeclaration (placed_by how ds d)
placed_bounded plain ds d h = h
placed_bounded hoisted ds d h = h
placed_bounded caught ds d h = h
placed_bounded moved ds d h = go (is_barred ds d (outside d.route.passed))
  where
    go : (b : Bool) → IsBoundedDeclaration (if b then staying_declaration d else d)
    go true = staying_bounded d h
    go false = h

all_bounded : (ds new : List Declaration) → ((d : Declaration) → Among d new → IsBoundedDeclaration d) → AllByRecursion IsBoundedEvent (declares_all ds new)
all_bounded ds [] h = tt
all_bounded ds (d ∷ new) h = (placed_bounded d.how ds d (h d (inl refl)), all_bounded ds new (λ e a. h e (inr a)))

taken_bounded : (p : Place) (s : OpenScope) → IsBoundedScope s → AllByRecursion IsBoundedEvent (taken_over p s)
taken_bounded p s h = by (is_catch_body p)
  where
    by : (b : Bool) → AllByRecursion IsBoundedEvent (cond b (takes_over (innermost p.chain).number s.number ∷ []) [])
    by true = (h.number, tt)
    by false = tt

-- the events of a step at a node of which all nodes are bounded
pub events_bounded : (ds : List Declaration) (s : Step) → IsBoundedStep s → ((x : Node) → Among x (nodes_from (node_at s)) → IsBounded x) → AllByRecursion IsBoundedEvent (events_of ds s)
events_bounded ds (entering p) h all = all_bounded ds (declared_at (entering p)) (λ d a. declared_of p h all p.node.kind d a)
events_bounded ds (opening p s) h all =
    every-append IsBoundedEvent (taken_over p s) (declares_all ds (declared_at (opening p s))) (taken_bounded p s h.1) (all_bounded ds (declared_at (opening p s)) (λ d a. inside_of p h.0 all p.node.kind s d h.1 a))
events_bounded ds (header_ending p s) h all = (tt, tt)
events_bounded ds (closing p s) h all = tt
events_bounded ds (leaving p) h all = tt
