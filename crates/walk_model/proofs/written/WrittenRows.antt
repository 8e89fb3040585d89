-- What a node declares, as far as it counts, is what it writes.
use Rattle.std.proofs.Common.{◌≡◌, ℕ, List, [], ◌∷◌, ◌++◌, Option, Some, None, Bool, true, false, cond, ◌&&◌, ◌||◌, not, refl, sym, ap, ◌∙◌, ◌==◌, map, flat_map, if◌then◌else◌, codes, bytes_eq}
use Rattle.std.proofs.lemmas.List.{append-nil}
use Rattle.semantic_kinds.specs.declared.kind.AstType.{AstType}
use Rattle.semantic_kinds.specs.declared.kind.AstType.TheVariants as kind
use Rattle.semantic_kinds.specs.declared.role.Role.TheVariants as role
use Rattle.semantic_kinds.specs.declared.mark.Mark.TheVariants as mark
use Rattle.semantic_syntax.specs.declared.symbol_flags.TheConstants.SymbolFlags as symbol
use Rattle.semantic_syntax.specs.Sets.{meets, union}
use Rattle.semantic_syntax.specs.Tables.{Name}
use Rattle.semantic_syntax.proofs.Truth.{or_assoc, same_turned}
use Rattle.semantic_tree.specs.Nodes.{first_of}
use Rattle.semantic_tree.specs.declared.node.Node.{Node}
use Rattle.semantic_tree.specs.Views.{is, has, is_with_text, children_of, child_of, holds}
use Rattle.semantic_model.specs.Names.{bound_names, names_at}
use Rattle.semantic_model.specs.Namespace.{InstanceState, non_instantiated, const_enum_only, instantiated, instance_state, nodes_around}
use Rattle.semantic_model.specs.Place.{Place, OpenScope, innermost, parent_holds}
use Rattle.semantic_model.specs.Declaration.{plain, caught, Declaration, Route, here, passed_before, first_with, route_from, outward_past, scope_it_stands_in}
use Rattle.semantic_model.specs.Binder.{BinderRow, declaration_at, declare_here, is_var, is_block_function, lexical_flags, variable_row, variables_under, function_flags, function_row, own_function_row, class_row, is_pure_declarator, ids, ambient_if, marked_ambient, is_special, is_statement, parameter_excluded, parameters_under, catch_names, import_flags, enums, member_named, namespace_row, type_parameter_route, type_parameter_row, declared_by, declared_inside}
use Rattle.semantic_model.specs.Event.{counts_past}
use Rattle.walk_model.specs.WrittenNames.{WrittenName, is_written, is_lexical, names_in, any_standing}
use Rattle.walk_model.proofs.once.NamesInRole.{AtMostOne}

-- whether a symbol of these flags is one past which a block function doesn't move
abbrev count : ℕ → Bool
count flags = meets flags symbol.BlockScopedVariable.bits || meets flags symbol.Class.bits || meets flags symbol.Function.bits

-- the scope where the names of a row stand
abbrev first_on : Route → OpenScope
first_on route = innermost (route.passed ++ route.target ∷ [])

abbrev pub parent_of : List Node → Option Node
parent_of [] = None
parent_of (node ∷ path) = Some node

-- what a node writes on entering it, in the innermost scope
abbrev pub written_outside : AstType → Place → List WrittenName
written_outside kind.VariableDeclarator p = cond (is_lexical (parent_of p.path)) (names_in (innermost p.chain).opener (bound_names p.node)) []
written_outside kind.Function p = cond (is_statement p.node) (names_in (innermost p.chain).opener (ids p.node)) []
written_outside kind.Class p = cond (is_statement p.node) (names_in (innermost p.chain).opener (ids p.node)) []
written_outside kind.CatchParameter p = cond (holds (λ q. not (is kind.BindingIdentifier q)) (child_of role.Pattern p.node)) (names_in (innermost p.chain).opener (names_at role.Pattern p.node)) []
written_outside _ p = []

-- what it writes in the scope that it opens
abbrev pub written_inside : AstType → Node → List WrittenName
written_inside kind.Function node = cond (is_statement node) [] (names_in node.node_id (ids node))
written_inside kind.Class node = cond (is_statement node) [] (names_in node.node_id (ids node))
written_inside _ node = []

lexical_counts : (declaration : Node) → count (union (lexical_flags declaration) (marked_ambient declaration)) ≡ true
lexical_counts declaration = by (is_with_text kind.VariableDeclaration (codes "let") declaration) (has mark.Declare declaration)
  where
    by : (a b : Bool) → count (union (cond a symbol.BlockScopedVariable.bits (union symbol.BlockScopedVariable.bits symbol.ConstVariable.bits)) (ambient_if b)) ≡ true
    by true true = refl
    by true false = refl
    by false true = refl
    by false false = refl

function_counts : (node : Node) → count (function_flags node) ≡ true
function_counts node = by (has mark.Declare node) (is_statement node) (is_special node)
  where
    by : (a b c : Bool) → count (union (union symbol.Function.bits (ambient_if a)) (union (cond b 0 symbol.FunctionExpression.bits) (cond c symbol.AsyncOrGeneratorFunction.bits 0))) ≡ true
    by true true true = refl
    by true true false = refl
    by true false true = refl
    by true false false = refl
    by false true true = refl
    by false true false = refl
    by false false true = refl
    by false false false = refl

class_counts : (node : Node) → count (union symbol.Class.bits (marked_ambient node)) ≡ true
class_counts node = by (has mark.Declare node)
  where
    by : (b : Bool) → count (union symbol.Class.bits (ambient_if b)) ≡ true
    by true = refl
    by false = refl

-- such a flag counts with or without `declaration_at`
abbrev Idles : ℕ → Type 0
Idles flags = (node : Node) → count (union flags (marked_ambient node)) ≡ false

idles : (flags : ℕ) → count (union flags symbol.Ambient.bits) ≡ false → count (union flags 0) ≡ false → Idles flags
idles flags t f node = by (has mark.Declare node)
  where
    by : (b : Bool) → count (union flags (ambient_if b)) ≡ false
    by true = t
    by false = f

import_idles : (p : Place) → count (import_flags p) ≡ false
import_idles p = by (has mark.TypeOnly p.node || parent_holds (has mark.TypeOnly) p.path)
  where
    by : (b : Bool) → count (cond b symbol.TypeImport.bits symbol.Import.bits) ≡ false
    by true = refl
    by false = refl

-- a block function stands in the innermost scope too
past_stands : (chain : List OpenScope) → first_on (outward_past is_var chain) ≡ innermost chain
past_stands [] = refl
past_stands (s ∷ ss) = by (first_with is_var ss)
  where
    by : (o : Option OpenScope) → first_on (route_from (s ∷ ss) (s ∷ passed_before is_var ss) o) ≡ s
    by None = refl
    by (Some t) = refl

function_stands : (p : Place) → (count (function_row p).flags ≡ true) × (first_on (function_row p).route ≡ innermost p.chain)
function_stands p = by (is_block_function p) refl
  where
    by : (b : Bool) → is_block_function p ≡ b → (count (function_row p).flags ≡ true) × (first_on (function_row p).route ≡ innermost p.chain)
    by true e = rw e (function_counts p.node, past_stands p.chain)
    by false e = rw e (function_counts p.node, refl)

module _ (x : ℕ) (name : Name) where
  abbrev pub is_in : List WrittenName → Bool
  is_in ws = is_written ws x name

  abbrev pub any_in : List Declaration → Bool
  any_in ds = any_standing x name ds

  pub any_append : (ds es : List Declaration) → any_in (ds ++ es) ≡ (any_in ds || any_in es)
  any_append [] es = refl
  any_append (d ∷ ds) es =
      let first : Bool = counts_past d && (scope_it_stands_in d).opener == x && bytes_eq d.naming.name name in
      ap (λ b. first || b) (any_append ds es) ∙ (sym (or_assoc first (any_in ds) (any_in es)))

  -- a row whose flags count
  row_written : (node : Node) (row : BinderRow) (is_pure : Bool) (s : OpenScope) → count row.flags ≡ true → first_on row.route ≡ s → (names : List Node) → any_in (map (declaration_at node row is_pure) names) ≡ is_in (names_in s.opener names)
  row_written node row is_pure s c f [] = refl
  row_written node row is_pure s c f (n ∷ ns) =
      let here : ((first_on row.route).opener == x) ≡ (x == s.opener) = ap (λ t. t.opener == x) f ∙ same_turned s.opener x in
      λ i. (c i && here i && bytes_eq n.text name) || row_written node row is_pure s c f ns i

  -- a row whose flags don't count
  row_idle : (node : Node) (row : BinderRow) (is_pure : Bool) → count row.flags ≡ false → (names : List Node) → any_in (map (declaration_at node row is_pure) names) ≡ false
  row_idle node row is_pure c [] = refl
  row_idle node row is_pure c (n ∷ ns) = λ i. (c i && ((first_on row.route).opener == x) && bytes_eq n.text name) || row_idle node row is_pure c ns i

  here_idle : (p : Place) (flags excluded : ℕ) → count flags ≡ false → (names : List Node) → any_in (declare_here p flags excluded names) ≡ false
  here_idle p flags excluded c names = row_idle p.node (record { flags = flags; excluded = excluded; how = plain; route = here p.chain }) false c names

  variables_written : (path : List Node) (p : Place) → any_in (variables_under path p) ≡ is_in (cond (is_lexical (parent_of path)) (names_in (innermost p.chain).opener (bound_names p.node)) [])
  variables_written [] p = refl
  variables_written (declaration ∷ path) p = by (is_with_text kind.VariableDeclaration (codes "var") declaration) refl
    where
      by : (b : Bool) → is_with_text kind.VariableDeclaration (codes "var") declaration ≡ b
          → any_in (map (declaration_at p.node (variable_row declaration p.chain) (is_pure_declarator p.node)) (bound_names p.node)) ≡ is_in (cond (not b) (names_in (innermost p.chain).opener (bound_names p.node)) [])
      by true e = row_idle p.node (variable_row declaration p.chain) (is_pure_declarator p.node) (rw e (idles symbol.FunctionScopedVariable.bits refl refl declaration)) (bound_names p.node)
      by false e = row_written p.node (variable_row declaration p.chain) (is_pure_declarator p.node) (innermost p.chain) (rw e (lexical_counts declaration)) (rw e refl) (bound_names p.node)

  parameters_idle : (path : List Node) (p : Place) → any_in (parameters_under path p) ≡ false
  parameters_idle [] p = refl
  parameters_idle (l ∷ path) p = here_idle p symbol.FunctionScopedVariable.bits (parameter_excluded l p.chain) refl (bound_names p.node)

  catch_written : (p : Place) (patterns : List Node) → AtMostOne patterns
      → any_in (flat_map (catch_names p) patterns) ≡ is_in (cond (holds (λ q. not (is kind.BindingIdentifier q)) (first_of patterns)) (names_in (innermost p.chain).opener (flat_map bound_names patterns)) [])
  catch_written p [] one = refl
  catch_written p (q ∷ r ∷ more) one = absurd one
  catch_written p (q ∷ []) one =
      ap any_in (append-nil (catch_names p q)) ∙ by (is kind.BindingIdentifier q) (bound_names q)
      ∙ sym (ap (λ ns. is_in (cond (not (is kind.BindingIdentifier q)) (names_in (innermost p.chain).opener ns) [])) (append-nil (bound_names q)))
    where
      by : (b : Bool) (names : List Node)
          → any_in (if b then declaration_at p.node (record { flags = union symbol.FunctionScopedVariable.bits symbol.CatchVariable.bits; excluded = 0; how = caught; route = here p.chain }) false q ∷ [] else declare_here p (union symbol.BlockScopedVariable.bits symbol.CatchVariable.bits) symbol.BlockScopedVariableExcludes.bits names)
          ≡ is_in (cond (not b) (names_in (innermost p.chain).opener names) [])
      by true names = refl
      by false names = row_written p.node (record { flags = union symbol.BlockScopedVariable.bits symbol.CatchVariable.bits; excluded = symbol.BlockScopedVariableExcludes.bits; how = plain; route = here p.chain }) false (innermost p.chain) refl refl names

  enums_idle : (p : Place) → any_in (enums p) ≡ false
  enums_idle p = by (has mark.Const p.node)
    where
      by : (b : Bool) → any_in (if b then declare_here p (union symbol.ConstEnum.bits (marked_ambient p.node)) symbol.ConstEnumExcludes.bits (ids p.node) else declare_here p (union symbol.RegularEnum.bits (marked_ambient p.node)) symbol.RegularEnumExcludes.bits (ids p.node)) ≡ false
      by true = here_idle p (union symbol.ConstEnum.bits (marked_ambient p.node)) symbol.ConstEnumExcludes.bits (idles symbol.ConstEnum.bits refl refl p.node) (ids p.node)
      by false = here_idle p (union symbol.RegularEnum.bits (marked_ambient p.node)) symbol.RegularEnumExcludes.bits (idles symbol.RegularEnum.bits refl refl p.node) (ids p.node)

  namespace_idle : (s : InstanceState) (p : Place) → any_in (namespace_row s p) ≡ false
  namespace_idle non_instantiated p = here_idle p (union symbol.NamespaceModule.bits (marked_ambient p.node)) symbol.NamespaceModuleExcludes.bits (idles symbol.NamespaceModule.bits refl refl p.node) (ids p.node)
  namespace_idle const_enum_only p = here_idle p (union symbol.ValueModule.bits (marked_ambient p.node)) symbol.ValueModuleExcludes.bits (idles symbol.ValueModule.bits refl refl p.node) (ids p.node)
  namespace_idle instantiated p = here_idle p (union symbol.ValueModule.bits (marked_ambient p.node)) symbol.ValueModuleExcludes.bits (idles symbol.ValueModule.bits refl refl p.node) (ids p.node)

  rest_idle : (p : Place) → any_in (declared_by kind.BindingRestElement p) ≡ false
  rest_idle p = by (parent_holds (is kind.FormalParameters) p.path)
    where
      by : (b : Bool) → any_in (cond b (declare_here p symbol.FunctionScopedVariable.bits (union symbol.FunctionScopedVariableExcludes.bits symbol.FunctionScopedVariable.bits) (bound_names p.node)) []) ≡ false
      by true = here_idle p symbol.FunctionScopedVariable.bits (union symbol.FunctionScopedVariableExcludes.bits symbol.FunctionScopedVariable.bits) refl (bound_names p.node)
      by false = refl

  -- what stands outside, if it does
  outside_if : (b : Bool) (ds : List Declaration) (ws : List WrittenName) → any_in ds ≡ is_in ws → any_in (cond b ds []) ≡ is_in (cond b ws [])
  outside_if true ds ws h = h
  outside_if false ds ws h = refl

  inside_if : (b : Bool) (ds : List Declaration) (ws : List WrittenName) → any_in ds ≡ is_in ws → any_in (cond b [] ds) ≡ is_in (cond b [] ws)
  inside_if true ds ws h = refl
  inside_if false ds ws h = h

  -- what a node declares on entering it
  pub entering_written : (k : AstType) (p : Place) → (k ≡ kind.CatchParameter → AtMostOne (children_of role.Pattern p.node.children)) → any_in (declared_by k p) ≡ is_in (written_outside k p)
  entering_written kind.VariableDeclarator p one = variables_written p.path p
  entering_written kind.Function p one =
      outside_if (is_statement p.node) (map (declaration_at p.node (function_row p) (has mark.Pure p.node)) (ids p.node)) (names_in (innermost p.chain).opener (ids p.node))
      (row_written p.node (function_row p) (has mark.Pure p.node) (innermost p.chain) (function_stands p).0 (function_stands p).1 (ids p.node))
  entering_written kind.Class p one =
      outside_if (is_statement p.node) (map (declaration_at p.node (class_row p p.chain) false) (ids p.node)) (names_in (innermost p.chain).opener (ids p.node))
      (row_written p.node (class_row p p.chain) false (innermost p.chain) (class_counts p.node) refl (ids p.node))
  entering_written kind.CatchParameter p one = catch_written p (children_of role.Pattern p.node.children) (one refl)
  entering_written kind.FormalParameter p one = parameters_idle p.path p
  entering_written kind.FormalParameterRest p one = parameters_idle p.path p
  entering_written kind.BindingRestElement p one = rest_idle p
  entering_written kind.ImportSpecifier p one = here_idle p (import_flags p) symbol.ImportBindingExcludes.bits (import_idles p) (names_at role.Local p.node)
  entering_written kind.ImportDefaultSpecifier p one = here_idle p (import_flags p) symbol.ImportBindingExcludes.bits (import_idles p) (names_at role.Local p.node)
  entering_written kind.ImportNamespaceSpecifier p one = here_idle p (import_flags p) symbol.ImportBindingExcludes.bits (import_idles p) (names_at role.Local p.node)
  entering_written kind.TSImportEqualsDeclaration p one = here_idle p symbol.Import.bits symbol.ImportBindingExcludes.bits refl (ids p.node)
  entering_written kind.TSTypeAliasDeclaration p one = here_idle p (union symbol.TypeAlias.bits (marked_ambient p.node)) symbol.TypeAliasExcludes.bits (idles symbol.TypeAlias.bits refl refl p.node) (ids p.node)
  entering_written kind.TSInterfaceDeclaration p one = here_idle p (union symbol.Interface.bits (marked_ambient p.node)) symbol.InterfaceExcludes.bits (idles symbol.Interface.bits refl refl p.node) (ids p.node)
  entering_written kind.TSEnumDeclaration p one = enums_idle p
  entering_written kind.TSEnumMember p one = here_idle p symbol.EnumMember.bits symbol.EnumMemberExcludes.bits refl (flat_map (member_named p.node) (children_of role.Id p.node.children))
  entering_written kind.TSNamespaceDeclaration p one = namespace_idle (instance_state p.node p.path (nodes_around p.node p.path)) p
  entering_written kind.TSTypeParameter p one = row_idle p.node (type_parameter_row (type_parameter_route p)) false refl (names_at role.Name p.node)
  entering_written _ p one = refl

  -- what it declares in its own scope
  pub opening_written : (k : AstType) (p : Place) (own : OpenScope) → own.opener ≡ p.node.node_id → any_in (declared_inside k p own) ≡ is_in (written_inside k p.node)
  opening_written kind.Function p own e =
      inside_if (is_statement p.node) (map (declaration_at p.node (own_function_row p own) (has mark.Pure p.node)) (ids p.node)) (names_in p.node.node_id (ids p.node))
      (row_written p.node (own_function_row p own) (has mark.Pure p.node) own (function_counts p.node) refl (ids p.node) ∙ ap (λ n. is_in (names_in n (ids p.node))) e)
  opening_written kind.Class p own e =
      inside_if (is_statement p.node) (map (declaration_at p.node (class_row p (own ∷ [])) false) (ids p.node)) (names_in p.node.node_id (ids p.node))
      (row_written p.node (class_row p (own ∷ [])) false own (class_counts p.node) refl (ids p.node) ∙ ap (λ n. is_in (names_in n (ids p.node))) e)
  opening_written kind.TSMappedType p own e = row_idle p.node (type_parameter_row (here (own ∷ []))) false refl (names_at role.Key p.node)
  opening_written _ p own e = refl
