-- What the walk declares at a place by what it sees of it.
use Rattle.std.proofs.Common.{◌≡◌, ℕ, List, [], ◌∷◌, ◌++◌, Bool, true, false, ◌||◌, not, cond, Option, Result, OnOk, codes, map, flat_map, reverse, refl, sym, ap, subst, ◌∙◌}
use Rattle.std.specs.Prelude.{if◌then◌else◌}
use Rattle.std.proofs.lemmas.List.{map-append, reverse-append}
use Rattle.semantic_kinds.specs.declared.kind.AstType.TheVariants as kind
use Rattle.semantic_kinds.specs.declared.mark.Mark.TheVariants as mark
use Rattle.semantic_kinds.specs.declared.role.Role.TheVariants as role
use Rattle.semantic_syntax.specs.declared.scope_flags.TheConstants.ScopeFlags as scope
use Rattle.semantic_syntax.specs.declared.symbol_flags.TheConstants.SymbolFlags as symbol
use Rattle.semantic_syntax.specs.Sets.{meets, union}
use Rattle.semantic_syntax.specs.Reading.{scope_of}
use Rattle.semantic_tree.specs.ChildIter.{shown}
use Rattle.semantic_tree.specs.declared.node.Node.{Node}
use Rattle.semantic_tree.specs.declared.view.AstKind.{AstKind}
use Rattle.semantic_tree.specs.Views.{is, has, is_with_text, children_of}
use Rattle.semantic_model.specs.Names.{bound_names, names_at}
use Rattle.semantic_tree.specs.BoundNames.{is_simple_parameter_list}
use Rattle.semantic_model.specs.Namespace.{InstanceState, instance_state, nodes_around}
use Rattle.semantic_model.specs.Place.{Place, OpenScope, no_scope, innermost, parent_holds}
use Rattle.semantic_model.specs.Declaration.{Declaration, plain, hoisted, caught, here, outward_to}
use Rattle.semantic_model.specs.Event.{declares, placed, declares_all}
use Rattle.semantic_model.specs.Binder as binder
use Rattle.semantic_model.specs.Binder.{declare_here, ids, is_var, is_conditional, is_clause, is_statement, marked_ambient, lexical_flags, variable_row, variables_under, is_pure_declarator, is_block_function, function_row, own_function_row, parameter_excluded, parameters_under, import_flags, import_declarations, catch_names, member_named, member_names, named_member, type_parameter_route, type_parameter_row, namespace_row, declared_by, declared_on_entering}
use Rattle.walk_model.specs.WalkState.{WalkState}
use Rattle.walk_model.specs.Declares.{declare, declare_anew}
use Rattle.walk_model.specs.Shown.{IsOther, ShowsChain, HasVar}
use Rattle.walk_model.specs.Walks.{act_all}
use Rattle.walk_model.proofs.turns.RowEvents.{acts-append}
use Rattle.walk_model.proofs.turns.ChainWays.{flags_at}
use Rattle.node_rules.specs.declared.rows.Row.{Row}
use Rattle.node_rules.specs.Seen.{IsBinderRow, parent_path, seen_under}
use Rattle.table_building.specs.Named.{named_by, member_naming, caught_naming, pattern_naming}
use Rattle.semantic_walk.specs.Paths.{parent_in}
use Rattle.semantic_walk.specs.Walker.{Walker}
use Rattle.semantic_walk.specs.AtPlace.{IsWithin}
use Rattle.table_building.specs.Each.{declare_each, declare_pattern, declare_patterns, declare_members}
use Rattle.semantic_walk.specs.Binds.{declaring, declaring_past, hoisting, acting}
use Rattle.semantic_walk.proofs.RowActs.{some_scope, row_acts, var_acts, inferred_acts}
use Rattle.semantic_walk.proofs.PlaceDeclares.{here_binds}

-- the first of a path alone
abbrev pub first_alone : List Node → List Node
first_alone [] = []
first_alone (x ∷ xs) = x ∷ []

parent_behind : (zs : List Node) (x y : Node) → parent_in (zs ++ y ∷ x ∷ []) ≡ y ∷ []
parent_behind [] x y = refl
parent_behind (z ∷ []) x y = refl
parent_behind (z ∷ v ∷ []) x y = refl
parent_behind (z ∷ v ∷ u ∷ zs) x y = parent_behind (v ∷ u ∷ zs) x y

parent_reversed : (node : Node) (path : List Node) → parent_in (reverse (node ∷ path)) ≡ first_alone path
parent_reversed node [] = refl
parent_reversed node (y ∷ path) = ap parent_in (reverse-append (node ∷ y ∷ []) path) ∙ parent_behind (reverse path) node y

holds_first : (test : Node → Bool) (path : List Node) → parent_holds test (first_alone path) ≡ parent_holds test path
holds_first test [] = refl
holds_first test (x ∷ xs) = refl

module _ (w : Walker) (p : Place) (chain : List OpenScope) (within : IsWithin w p chain) where
  -- the parent that the walk sees is that of the place
  pub parent_of : parent_in w.path ≡ first_alone p.path
  parent_of = ap parent_in within.path ∙ parent_reversed p.node p.path

  pub path_tells : (test : Node → Bool) → parent_holds test (parent_in w.path) ≡ parent_holds test p.path
  path_tells test = ap (parent_holds test) parent_of ∙ holds_first test p.path

  pub parent_tells : (test : Node → Bool) (parent : Option AstKind) → parent_path parent ≡ parent_in w.path → parent_holds test (parent_path parent) ≡ parent_holds test p.path
  parent_tells test parent e = ap (parent_holds test) e ∙ path_tells test

-- where the tables show the chain, the flags of its innermost scope are told
pub flags_told : (w : Walker) (p : Place) (bits : ℕ) → IsOther bits → IsWithin w p p.chain → ShowsChain w.made.tables p.chain → HasVar p.chain
    → meets (scope_of w.made.tables w.current).flags.bits bits ≡ meets (innermost p.chain).flags bits
flags_told w p bits o within shown some =
    ap (λ n. meets (scope_of w.made.tables n).flags.bits bits) within.current ∙ flags_at w.made.tables bits p.chain o shown (some_scope p.chain some)

-- a row of the definition whose names are declared where a scope is innermost
abbrev pub row_at : ℕ → ℕ → List OpenScope → binder.BinderRow
row_at flags excluded chain = record { flags = flags; excluded = excluded; how = plain; route = here chain }

-- what a row gives to the names of a node is declared in the current scope
pub row_at_acts : (ds : List Declaration) (w : Walker) (p : Place) (chain : List OpenScope) (node : Node) (row : Row) (is_pure : Bool) (flags : Node → ℕ) (excluded : ℕ) (names : Node → List Node)
    → p.node ≡ node → IsBinderRow row (flags node) excluded → IsWithin w p chain
    → declaring w (map (named_by node row is_pure) (names node)) ≡ acting ds w (map (binder.declaration_at p.node (row_at (flags p.node) excluded chain) is_pure) (names p.node))
row_at_acts ds w p chain node row is_pure flags excluded names e same within =
    subst (λ (n : Node). IsBinderRow row (flags n) excluded → declaring w (map (named_by n row is_pure) (names n)) ≡ acting ds w (map (binder.declaration_at p.node (row_at (flags p.node) excluded chain) is_pure) (names p.node))) e
    (λ s. row_acts p.node row (row_at (flags p.node) excluded chain) is_pure s ds w (names p.node) refl within.current) same

-- so the walk goes on from what is known of it
pub on_ok_same : {X E : Type 0} (r : Result X E) (now old new : Walker) → old ≡ new → OnOk r (now ≡ old) → OnOk r (now ≡ new)
on_ok_same r now old new e h = subst (λ (v : Walker). OnOk r (now ≡ v)) e h

row_of_var : (d : Node) (chain : List OpenScope) → is_with_text kind.VariableDeclaration (codes "var") d ≡ true
    → variable_row d chain ≡ record { flags = union symbol.FunctionScopedVariable.bits (marked_ambient d); excluded = symbol.FunctionScopedVariableExcludes.bits; how = hoisted; route = outward_to is_var chain }
row_of_var d chain e = rw e refl

row_of_lexical : (d : Node) (chain : List OpenScope) → is_with_text kind.VariableDeclaration (codes "var") d ≡ false
    → variable_row d chain ≡ record { flags = union (lexical_flags d) (marked_ambient d); excluded = symbol.BlockScopedVariableExcludes.bits; how = plain; route = here chain }
row_of_lexical d chain e = rw e refl

same_head : (x y : Node) → x ∷ [] ≡ y ∷ [] → x ≡ y
same_head x y e = cc

module _ (ds : List Declaration) (w : Walker) (p : Place) (node declaration : Node) (row : Row) (is_pure : Bool)
    (e : p.node ≡ node) (within : IsWithin w p p.chain) (parent : declaration ∷ [] ≡ parent_in w.path) (pure : is_pure ≡ is_pure_declarator node) where
  under_it : (r : binder.BinderRow) → variable_row declaration p.chain ≡ r → map (binder.declaration_at p.node r is_pure) (bound_names p.node) ≡ variables_under p.path p
  under_it r is = go p.path (parent ∙ parent_of w p p.chain within)
    where
      go : (path : List Node) → declaration ∷ [] ≡ first_alone path → map (binder.declaration_at p.node r is_pure) (bound_names p.node) ≡ variables_under path p
      go [] h = absurd (no h)
        where
          no : declaration ∷ [] ≡ [] → ⊥
          no q = cc
      go (d ∷ path) h =
          ap (λ b. map (binder.declaration_at p.node r b) (bound_names p.node)) (pure ∙ ap is_pure_declarator (sym e))
          ∙ ap (λ (q : binder.BinderRow). map (binder.declaration_at p.node q (is_pure_declarator p.node)) (bound_names p.node)) (sym is ∙ ap (λ (x : Node). variable_row x p.chain) (same_head declaration d h))

  -- the variables of a `var`
  pub var_under : ShowsChain w.made.tables p.chain → HasVar p.chain → is_with_text kind.VariableDeclaration (codes "var") declaration ≡ true
      → IsBinderRow row (union symbol.FunctionScopedVariable.bits (marked_ambient declaration)) symbol.FunctionScopedVariableExcludes.bits
      → hoisting w scope.Var.bits (map (named_by node row is_pure) (bound_names node)) ≡ acting ds w (variables_under p.path p)
  var_under shown some is same =
      ap (λ (n : Node). hoisting w scope.Var.bits (map (named_by n row is_pure) (bound_names n))) (sym e)
      ∙ var_acts ds w p within shown some row (union symbol.FunctionScopedVariable.bits (marked_ambient declaration)) symbol.FunctionScopedVariableExcludes.bits is_pure (bound_names p.node) same
      ∙ ap (λ new. acting ds w new) (under_it _ (row_of_var declaration p.chain is))

  -- and those of another declaration
  pub lexical_under : is_with_text kind.VariableDeclaration (codes "var") declaration ≡ false
      → IsBinderRow row (union (lexical_flags declaration) (marked_ambient declaration)) symbol.BlockScopedVariableExcludes.bits
      → declaring w (map (named_by node row is_pure) (bound_names node)) ≡ acting ds w (variables_under p.path p)
  lexical_under is same =
      row_at_acts ds w p p.chain node row is_pure (λ n. union (lexical_flags declaration) (marked_ambient declaration)) symbol.BlockScopedVariableExcludes.bits bound_names e same within
      ∙ ap (λ new. acting ds w new) (under_it _ (row_of_lexical declaration p.chain is))

-- without a parent there are no variables
pub none_under : (ds : List Declaration) (w : Walker) (p : Place) → IsWithin w p p.chain → [] ≡ parent_in w.path → w ≡ acting ds w (variables_under p.path p)
none_under ds w p within parent = go p.path (parent ∙ parent_of w p p.chain within)
  where
    go : (path : List Node) → [] ≡ first_alone path → w ≡ acting ds w (variables_under path p)
    go [] h = refl
    go (d ∷ path) h = absurd (no h)
      where
        no : [] ≡ d ∷ [] → ⊥
        no q = cc

module _ (ds : List Declaration) (p : Place) where
  abbrev home : ℕ
  home = (innermost p.chain).number

  -- what is declared first, and then more
  acts_both : (w : WalkState) (xs ys : List Declaration) → act_all w (declares_all ds (xs ++ ys)) ≡ act_all (act_all w (declares_all ds xs)) (declares_all ds ys)
  acts_both w xs ys = ap (act_all w) (map-append (λ d. declares (placed ds d)) xs ys) ∙ acts-append w (declares_all ds xs) (declares_all ds ys)

  caught_names : (w : WalkState) (names : List Node) (parameter : Node)
      → declare_each w home (map (pattern_naming parameter) names)
      ≡ act_all w (declares_all ds (map (binder.declaration_at parameter (row_at (union symbol.BlockScopedVariable.bits symbol.CatchVariable.bits) symbol.BlockScopedVariableExcludes.bits p.chain) false) names))
  caught_names w [] parameter = refl
  caught_names w (x ∷ xs) parameter = caught_names (declare w home (pattern_naming parameter x)) xs parameter

  pattern_acts : (w : WalkState) (pattern : Node) → declare_pattern w home p.node pattern ≡ act_all w (declares_all ds (catch_names p pattern))
  pattern_acts w pattern = by (is kind.BindingIdentifier pattern)
    where
      row : binder.BinderRow
      row = record { flags = union symbol.FunctionScopedVariable.bits symbol.CatchVariable.bits; excluded = 0; how = caught; route = here p.chain }

      by : (b : Bool) → cond b (declare_anew w home (caught_naming p.node pattern)) (declare_each w home (map (pattern_naming p.node) (bound_names pattern)))
          ≡ act_all w (declares_all ds (if b then binder.declaration_at p.node row false pattern ∷ [] else declare_here p (union symbol.BlockScopedVariable.bits symbol.CatchVariable.bits) symbol.BlockScopedVariableExcludes.bits (bound_names pattern)))
      by true = refl
      by false = caught_names w (bound_names pattern) p.node

  pub patterns_act : (w : WalkState) (patterns : List Node) → declare_patterns w home p.node patterns ≡ act_all w (declares_all ds (flat_map (catch_names p) patterns))
  patterns_act w [] = refl
  patterns_act w (x ∷ xs) =
      ap (λ v. declare_patterns v home p.node xs) (pattern_acts w x) ∙ patterns_act (act_all w (declares_all ds (catch_names p x))) xs
      ∙ sym (acts_both w (catch_names p x) (flat_map (catch_names p) xs))

  abbrev member_row : binder.BinderRow
  member_row = row_at symbol.EnumMember.bits symbol.EnumMemberExcludes.bits p.chain

  id_acts : (w : WalkState) (id : Node) (names : List Node)
      → declare_each w home (map (member_naming p.node id) names) ≡ act_all w (declares_all ds (map (binder.declaration_at p.node member_row false) (map (named_member p.node id) names)))
  id_acts w id [] = refl
  id_acts w id (x ∷ xs) = id_acts (declare w home (member_naming p.node id x)) id xs

  pub ids_act : (w : WalkState) (found : List Node) → declare_members w home p.node found ≡ act_all w (declares_all ds (map (binder.declaration_at p.node member_row false) (flat_map (member_named p.node) found)))
  ids_act w [] = refl
  ids_act w (x ∷ xs) =
      ap (λ v. declare_members v home p.node xs) (id_acts w x (member_names x))
      ∙ ids_act (act_all w (declares_all ds (map (binder.declaration_at p.node member_row false) (member_named p.node x)))) xs
      ∙ sym (ap (λ new. act_all w (declares_all ds new)) (map-append (binder.declaration_at p.node member_row false) (member_named p.node x) (flat_map (member_named p.node) xs))
      ∙ acts_both w (map (binder.declaration_at p.node member_row false) (member_named p.node x)) (map (binder.declaration_at p.node member_row false) (flat_map (member_named p.node) xs)))

-- what a parameter of a list conflicts with, by the flags of its scope
abbrev excluded_in : Node → Bool → ℕ
excluded_in list strict =
    if is_with_text kind.FormalParameters (codes "arrow") list || is_with_text kind.FormalParameters (codes "unique") list || strict || not (is_simple_parameter_list list)
    then union symbol.FunctionScopedVariableExcludes.bits symbol.FunctionScopedVariable.bits
    else symbol.FunctionScopedVariableExcludes.bits

module _ (ds : List Declaration) (w : Walker) (p : Place) (within : IsWithin w p p.chain) where
  -- a parameter of a list
  pub parameter_under : (node list : Node) (row : Row) (flags : ℕ) → p.node ≡ node → ShowsChain w.made.tables p.chain → HasVar p.chain → list ∷ [] ≡ parent_in w.path
      → flags ≡ (scope_of w.made.tables w.current).flags.bits → IsBinderRow row symbol.FunctionScopedVariable.bits (parameter_excluded list (record no_scope { flags = flags } ∷ []))
      → declaring w (map (named_by node row false) (bound_names node)) ≡ acting ds w (parameters_under p.path p)
  parameter_under node list row flags e shown some parent f same = go p.path (parent ∙ parent_of w p p.chain within)
    where
      strict : parameter_excluded list (record no_scope { flags = flags } ∷ []) ≡ parameter_excluded list p.chain
      strict = ap (λ b. excluded_in list b) (ap (λ n. meets n scope.StrictMode.bits) f ∙ flags_told w p scope.StrictMode.bits refl within shown some)

      row_is : IsBinderRow row symbol.FunctionScopedVariable.bits (parameter_excluded list p.chain)
      row_is = record { flags = same.flags; excluded = same.excluded ∙ strict }

      go : (path : List Node) → list ∷ [] ≡ first_alone path → declaring w (map (named_by node row false) (bound_names node)) ≡ acting ds w (parameters_under path p)
      go [] h = absurd (no h)
        where
          no : list ∷ [] ≡ [] → ⊥
          no q = cc
      go (d ∷ path) h =
          row_at_acts ds w p p.chain node row false (λ n. symbol.FunctionScopedVariable.bits) (parameter_excluded list p.chain) bound_names e row_is within
          ∙ ap (λ (x : Node). acting ds w (parameters_under (x ∷ path) p)) (same_head list d h)

  pub no_parameter : [] ≡ parent_in w.path → w ≡ acting ds w (parameters_under p.path p)
  no_parameter parent = go p.path (parent ∙ parent_of w p p.chain within)
    where
      go : (path : List Node) → [] ≡ first_alone path → w ≡ acting ds w (parameters_under path p)
      go [] h = refl
      go (d ∷ path) h = absurd (no h)
        where
          no : [] ≡ d ∷ [] → ⊥
          no q = cc

  -- a rest element declares in a list of parameters alone
  pub rest_in_list : (node : Node) (row : Row) → p.node ≡ node → p.node.kind ≡ kind.BindingRestElement → parent_holds (is kind.FormalParameters) (parent_in w.path) ≡ true → IsBinderRow row symbol.FunctionScopedVariable.bits (union symbol.FunctionScopedVariableExcludes.bits symbol.FunctionScopedVariable.bits)
      → declaring w (map (named_by node row false) (bound_names node)) ≡ acting ds w (declared_on_entering p)
  rest_in_list node row e k h same =
      row_at_acts ds w p p.chain node row false (λ n. symbol.FunctionScopedVariable.bits) (union symbol.FunctionScopedVariableExcludes.bits symbol.FunctionScopedVariable.bits) bound_names e same within
      ∙ ap (λ b. acting ds w (cond b (declare_here p symbol.FunctionScopedVariable.bits (union symbol.FunctionScopedVariableExcludes.bits symbol.FunctionScopedVariable.bits) (bound_names p.node)) []))
      (sym (sym (path_tells w p p.chain within (is kind.FormalParameters)) ∙ h))
      ∙ ap (λ j. acting ds w (declared_by j p)) (sym k)

  pub rest_elsewhere : p.node.kind ≡ kind.BindingRestElement → parent_holds (is kind.FormalParameters) (parent_in w.path) ≡ false
      → w ≡ acting ds w (declared_on_entering p)
  rest_elsewhere k h =
      ap (λ b. acting ds w (cond b (declare_here p symbol.FunctionScopedVariable.bits (union symbol.FunctionScopedVariableExcludes.bits symbol.FunctionScopedVariable.bits) (bound_names p.node)) []))
      (sym (sym (path_tells w p p.chain within (is kind.FormalParameters)) ∙ h))
      ∙ ap (λ j. acting ds w (declared_by j p)) (sym k)

  -- an imported name
  pub import_acts : (kind_seen : AstKind) (row : Row) (parent : Option AstKind) → p.node ≡ kind_seen.node.now → parent_path parent ≡ parent_in w.path
      → IsBinderRow row (import_flags (seen_under kind_seen parent)) symbol.ImportBindingExcludes.bits
      → declaring w (map (named_by kind_seen.node.now row false) (names_at role.Local kind_seen.node.now)) ≡ acting ds w (import_declarations p)
  import_acts kind_seen row parent e q same =
      row_at_acts ds w p p.chain kind_seen.node.now row false (λ n. cond (has mark.TypeOnly n || parent_holds (has mark.TypeOnly) (parent_path parent)) symbol.TypeImport.bits symbol.Import.bits) symbol.ImportBindingExcludes.bits (names_at role.Local) e same within
      ∙ ap (λ b. acting ds w (declare_here p (cond (has mark.TypeOnly p.node || b) symbol.TypeImport.bits symbol.Import.bits) symbol.ImportBindingExcludes.bits (names_at role.Local p.node)))
      (parent_tells w p p.chain within (has mark.TypeOnly) parent q)

  -- a type parameter that stays
  pub parameter_stays : (node : Node) (row : Row) → p.node ≡ node → p.node.kind ≡ kind.TSTypeParameter → parent_holds (is kind.TSInferType) (parent_in w.path) ≡ false → IsBinderRow row symbol.TypeParameter.bits symbol.TypeParameterExcludes.bits
      → declaring w (map (named_by node row false) (names_at role.Name node)) ≡ acting ds w (declared_on_entering p)
  parameter_stays node row e k h same =
      row_at_acts ds w p p.chain node row false (λ n. symbol.TypeParameter.bits) symbol.TypeParameterExcludes.bits (names_at role.Name) e same within
      ∙ ap (λ b. acting ds w (map (binder.declaration_at p.node (type_parameter_row (cond b (outward_to is_conditional p.chain) (here p.chain))) false) (names_at role.Name p.node)))
      (sym (sym (path_tells w p p.chain within (is kind.TSInferType)) ∙ h))
      ∙ ap (λ j. acting ds w (declared_by j p)) (sym k)

  -- one that `infer` declares goes out
  pub parameter_goes : (node : Node) (row : Row) → p.node ≡ node → p.node.kind ≡ kind.TSTypeParameter → ShowsChain w.made.tables p.chain → HasVar p.chain
      → parent_holds (is kind.TSInferType) (parent_in w.path) ≡ true → IsBinderRow row symbol.TypeParameter.bits symbol.TypeParameterExcludes.bits
      → declaring_past w scope.TsConditional.bits (map (named_by node row false) (names_at role.Name node)) ≡ acting ds w (declared_on_entering p)
  parameter_goes node row e k shown some h same =
      ap (λ (n : Node). declaring_past w scope.TsConditional.bits (map (named_by n row false) (names_at role.Name n))) (sym e)
      ∙ inferred_acts ds w p within shown some row symbol.TypeParameter.bits symbol.TypeParameterExcludes.bits (names_at role.Name p.node) same
      ∙ ap (λ b. acting ds w (map (binder.declaration_at p.node (type_parameter_row (cond b (outward_to is_conditional p.chain) (here p.chain))) false) (names_at role.Name p.node)))
      (sym (sym (path_tells w p p.chain within (is kind.TSInferType)) ∙ h))
      ∙ ap (λ j. acting ds w (declared_by j p)) (sym k)

  -- a namespace of a state
  pub namespace_acts : (node : Node) (row : Row) (state : InstanceState) → p.node ≡ node → p.node.kind ≡ kind.TSNamespaceDeclaration
      → namespace_row state p ≡ declare_here p row.flags.bits row.excluded.bits (ids p.node) → state ≡ instance_state p.node p.path (nodes_around p.node p.path)
      → declaring w (map (named_by node row false) (bound_names node)) ≡ acting ds w (declared_on_entering p)
  namespace_acts node row state e k rows is =
      row_at_acts ds w p p.chain node row false (λ n. row.flags.bits) row.excluded.bits bound_names e (record { flags = refl; excluded = refl }) within
      ∙ ap (λ new. acting ds w new) (sym (here_binds p kind.TSNamespaceDeclaration row.flags.bits row.excluded.bits k refl refl))
      ∙ ap (λ new. acting ds w new) (sym rows)
      ∙ ap (λ s. acting ds w (namespace_row s p)) is
      ∙ ap (λ j. acting ds w (declared_by j p)) (sym k)

  -- the names that a catch clause catches
  pub caught_acts : (node : Node) → p.node ≡ node → p.node.kind ≡ kind.CatchParameter
      → ◌≡◌ {A = Walker} (record w { made = declare_patterns w.made w.current node (children_of role.Pattern node.children) }) (acting ds w (declared_on_entering p))
  caught_acts node e k =
      ap (λ (n : Node). record w { made = declare_patterns w.made w.current n (children_of role.Pattern n.children) }) (sym e)
      ∙ ap (λ n. record w { made = declare_patterns w.made n p.node (children_of role.Pattern p.node.children) }) within.current
      ∙ ap (λ (m : WalkState). record w { made = m }) (patterns_act ds p w.made (children_of role.Pattern p.node.children))
      ∙ ap (λ j. acting ds w (declared_by j p)) (sym k)

  -- the members of an enum
  pub members_act : (node : Node) → p.node ≡ node → p.node.kind ≡ kind.TSEnumMember
      → ◌≡◌ {A = Walker} (record w { made = declare_members w.made w.current node (children_of role.Id node.children) }) (acting ds w (declared_on_entering p))
  members_act node e k =
      ap (λ (n : Node). record w { made = declare_members w.made w.current n (children_of role.Id n.children) }) (sym e)
      ∙ ap (λ n. record w { made = declare_members w.made n p.node (children_of role.Id p.node.children) }) within.current
      ∙ ap (λ (m : WalkState). record w { made = m }) (ids_act ds p w.made (children_of role.Id p.node.children))
      ∙ ap (λ j. acting ds w (declared_by j p)) (sym k)
