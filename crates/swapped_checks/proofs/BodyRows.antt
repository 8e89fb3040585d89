-- Rows on bodies, loops and variables, where names are others.
use Rattle.std.proofs.Common.{◌≡◌, List, [], ◌∷◌, ◌++◌, Option, Some, None, Bool, true, false, ◌||◌, ◌&&◌, not, if◌then◌else◌, refl, sym, ap, subst, bytes_eq, codes}
use Rattle.std.specs.Prelude.{flat_map}
use Rattle.std.specs.List.{find}
use Rattle.semantic_syntax.specs.Sets.{meets}
use Rattle.semantic_syntax.specs.declared.references.Redeclaration.{Redeclaration}
use Rattle.semantic_syntax.specs.declared.symbol_flags.TheConstants.SymbolFlags as symbol
use Rattle.semantic_kinds.specs.Kinds.{same_kind}
use Rattle.semantic_kinds.specs.declared.kind.AstType.TheVariants as kind
use Rattle.semantic_kinds.specs.declared.mark.Mark.TheVariants as mark
use Rattle.semantic_kinds.specs.declared.role.Role.{Role}
use Rattle.semantic_kinds.specs.declared.role.Role.TheVariants as role
use Rattle.semantic_tree.specs.BoundNames.{bound_names}
use Rattle.semantic_tree.specs.Views.{is, has_text, has_child, whose, all_in, child_of}
use Rattle.semantic_tree.specs.declared.node.Node.{Node}
use Rattle.semantic_tree.specs.declared.swap.Setting.{Setting}
use Rattle.semantic_diagnostics.specs.declared.diagnostic.Diagnostic.{Diagnostic}
use Rattle.semantic_diagnostics.specs.Names.{redeclaration, class_static_block_await_using}
use Rattle.semantic_diagnostics.specs.Statements.{function_declaration_strict, function_declaration_non_strict, unexpected_initializer_in_for_loop_head, using_declaration_not_allowed_in_script}
use Rattle.semantic_diagnostics.specs.Types.{type_annotation_in_for_left}
use Rattle.check_model.specs.Bodies.{is_declared_function, check_function_declaration, check_function_declaration_in_labeled_statement, has_single_body, is_single_body, is_function_decl_part_of_if_statement}
use Rattle.check_model.specs.Entries.{before_last, one_before_last}
use Rattle.check_model.specs.Functions.{may_precede, is_sloppy_repeat, is_async_or_generator, repeat_rows, redeclared_rows, check_function_redeclaration}
use Rattle.check_model.specs.Rows.{body_rows, labelled_body_rows, left_rows}
use Rattle.check_model.specs.Search.{rows_if, row_if, rows_of_some, only}
use Rattle.check_model.specs.Sight.{Sight, symbol_entries}
use Rattle.check_model.specs.Surroundings.{is_strict, is_script, is_typescript, is_at_top, is_in_static_block, parent_passes}
use Rattle.check_model.specs.TypedLoops as typed
use Rattle.check_model.specs.Variables.{head_rows, loop_name, check_for_statement_left, check_variable_declaration, name_rows, lets_var_redeclare, check_variable_declarator_redeclaration}
use Rattle.swapped_checks.specs.RuleWords.{KeepsRuleWords}
use Rattle.swapped_checks.specs.SwappedRows.{AreToldAgain}
use Rattle.swapped_checks.proofs.Changed.{Change, IsChanged}
use Rattle.swapped_checks.proofs.Pairwise.{Each, Agree, only_each, passes_both, some_same, some_rows, flat_same, flat_rows, told_if}
use Rattle.swapped_checks.proofs.RenamedNodes.{IsBound, kind_agrees, mark_agrees, same_spans, guarded, word_agrees, all_each, child_both, child_agrees, whose_agrees, bound_each, either_row}
use Rattle.swapped_checks.proofs.Around.{seen, own, own_text, parent_agrees, under, found_both, declared_same}

-- the declaration of a function stays one
pub function_agrees : (f : Change) → Agree (IsChanged f) is_declared_function is_declared_function
function_agrees f a b e = guarded f kind.Function (λ u ms. bytes_eq u (codes "declaration") || bytes_eq u (codes "ts-declare")) refl refl a b e (λ u h. refl)

module _ (f : Change) (keeps : KeepsRuleWords f.names) (s : Sight) (st : Setting) (r : Role) (path : List Node) (above : Each (IsChanged f) s.path path) where
  abbrev t : Sight
  t = seen f s st r path

  abbrev R : Node → Node → Type 0
  R = IsChanged f

  abbrev mine : IsChanged f s.node t.node
  mine = own f s st r path above

  -- ---- bodies

  pub body_same : (q : Role) (b : Bool) → body_rows q b t ≡ body_rows q b s
  body_same q b =
      some_same R (λ n. check_function_declaration n b s) (λ n. check_function_declaration n b t)
      (λ x y e. λ i. rows_if (function_agrees f x y e i) (if is_strict s then function_declaration_strict (same_spans f x y e i) ∷ [] else row_if (not b) (function_declaration_non_strict (same_spans f x y e i))))
      (child_of q s.node) (child_of q t.node) (child_both f q s.node t.node mine)

  single_same : is_single_body t ≡ is_single_body s
  single_same =
      passes_both R (λ n. has_single_body n.kind) (λ n. has_single_body n.kind) (kind_agrees f has_single_body)
      (find (λ n. not (is kind.LabeledStatement n)) s.path) (find (λ n. not (is kind.LabeledStatement n)) path) (found_both f s st r path above (λ k. not (same_kind k kind.LabeledStatement)))

  pub labelled_same : labelled_body_rows t ≡ labelled_body_rows s
  labelled_same =
      some_same R (λ n. check_function_declaration_in_labeled_statement n s) (λ n. check_function_declaration_in_labeled_statement n t)
      (λ x y e. λ i. rows_if (function_agrees f x y e i) (if is_strict s then function_declaration_strict (same_spans f x y e i) ∷ [] else row_if (single_same i) (function_declaration_non_strict (same_spans f x y e i))))
      (child_of role.Body s.node) (child_of role.Body t.node) (child_both f role.Body s.node t.node mine)

  -- ---- heads of loops

  var_agrees : Agree R (has_text (codes "var")) (has_text (codes "var"))
  var_agrees = word_agrees f keeps (codes "var") refl

  heads_same : (for_in : Bool) (a b : Node) → R a b → check_for_statement_left b for_in t ≡ check_for_statement_left a for_in s
  heads_same for_in a b e = λ i. rows_if (kind_agrees f (λ k. same_kind k kind.VariableDeclaration) a b e i) (inside i)
    where
      inside : head_rows t b for_in (all_in role.Declarators b) ≡ head_rows s a for_in (all_in role.Declarators a)
      inside =
          some_same R (λ d. row_if ((has_child role.Init d) && ((is_strict s && has_text (codes "var") a) || (not for_in || not (whose role.Id (is kind.BindingIdentifier) d)))) (unexpected_initializer_in_for_loop_head (loop_name for_in) a.span))
          (λ d. row_if ((has_child role.Init d) && ((is_strict s && has_text (codes "var") b) || (not for_in || not (whose role.Id (is kind.BindingIdentifier) d)))) (unexpected_initializer_in_for_loop_head (loop_name for_in) b.span))
          (λ x y h. λ i. row_if (child_agrees f role.Init x y h i && ((is_strict s && var_agrees a b e i) || (not for_in || not (whose_agrees f role.Id (is kind.BindingIdentifier) (is kind.BindingIdentifier) (kind_agrees f (λ k. same_kind k kind.BindingIdentifier)) x y h i)))) (unexpected_initializer_in_for_loop_head (loop_name for_in) (same_spans f a b e i)))
          (only (all_in role.Declarators a)) (only (all_in role.Declarators b)) (only_each R (all_in role.Declarators a) (all_in role.Declarators b) (all_each f role.Declarators a b e))

  typed_same : (for_in : Bool) (x y : Node) → R x y → typed.typed_rows for_in y ≡ typed.typed_rows for_in x
  typed_same for_in x y e = λ i. rows_if (child_agrees f role.Annotation x y e i)
      (some_same R (λ n. type_annotation_in_for_left n.span for_in ∷ []) (λ n. type_annotation_in_for_left n.span for_in ∷ []) (λ c d h. λ j. type_annotation_in_for_left (same_spans f c d h j) for_in ∷ []) (child_of role.Id x) (child_of role.Id y) (child_both f role.Id x y e) i)

  types_same : (for_in : Bool) (a b : Node) → R a b → typed.check_typed_for_statement_left b for_in t ≡ typed.check_typed_for_statement_left a for_in s
  types_same for_in a b e = λ i. rows_if (kind_agrees f (λ k. same_kind k kind.VariableDeclaration) a b e i)
      (flat_same R (typed.typed_rows for_in) (typed.typed_rows for_in) (typed_same for_in) (all_in role.Declarators a) (all_in role.Declarators b) (all_each f role.Declarators a b e) i)

  pub left_same : (for_in : Bool) → left_rows for_in t ≡ left_rows for_in s
  left_same for_in = λ i.
      some_same R (λ n. check_for_statement_left n for_in s) (λ n. check_for_statement_left n for_in t) (heads_same for_in) (child_of role.Left s.node) (child_of role.Left t.node) (child_both f role.Left s.node t.node mine) i
      ++ some_same R (λ n. typed.check_typed_for_statement_left n for_in s) (λ n. typed.check_typed_for_statement_left n for_in t) (types_same for_in) (child_of role.Left s.node) (child_of role.Left t.node) (child_both f role.Left s.node t.node mine) i

  -- ---- variables

  pub variables_same : s.node.kind ≡ kind.VariableDeclaration → check_variable_declaration t ≡ check_variable_declaration s
  variables_same k = ap (λ u.
      row_if ((bytes_eq u (codes "using") || bytes_eq u (codes "await using")) && (is_script s && is_at_top s)) (using_declaration_not_allowed_in_script s.node.span)
      ++ row_if (bytes_eq u (codes "await using") && is_in_static_block s) (class_static_block_await_using s.node.span)) (own_text f s st r path above kind.VariableDeclaration refl refl k)

  -- the last declaration but one, of both
  again_rows : (g h : Redeclaration → List Diagnostic) → ((before : Redeclaration) → AreToldAgain f.names (g before) (h before)) → (o p : Option Redeclaration) → p ≡ o → AreToldAgain f.names (rows_of_some g o) (rows_of_some h p)
  again_rows g h k o p e = subst (λ q. AreToldAgain f.names (rows_of_some g o) (rows_of_some h q)) (sym e) (go o)
    where
      go : (q : Option Redeclaration) → AreToldAgain f.names (rows_of_some g q) (rows_of_some h q)
      go None = tt
      go (Some before) = k before

  names_told : (a b : Node) → IsBound f a b → AreToldAgain f.names (name_rows s a) (name_rows t b)
  names_told a b e =
      again_rows (λ before. row_if (meets before.flags.bits symbol.Function.bits) (redeclaration a.text before.span s.node.span)) (λ before. row_if (meets before.flags.bits symbol.Function.bits) (redeclaration b.text before.span s.node.span))
      (λ before. told_if f.names (meets before.flags.bits symbol.Function.bits) (meets before.flags.bits symbol.Function.bits) (redeclaration a.text before.span s.node.span ∷ []) (redeclaration b.text before.span s.node.span ∷ []) refl (either_row f a b e.0 before.span s.node.span, tt))
      (one_before_last (symbol_entries s a)) (one_before_last (symbol_entries t b)) (ap one_before_last (declared_same f s st r path above a b e.0))

  pub declarators_told : AreToldAgain f.names (check_variable_declarator_redeclaration s) (check_variable_declarator_redeclaration t)
  declarators_told =
      told_if f.names (not (is_typescript s) && (parent_passes s (has_text (codes "var")) && not (lets_var_redeclare s))) (not (is_typescript t) && (parent_passes t (has_text (codes "var")) && not (lets_var_redeclare t)))
      (flat_map (name_rows s) (bound_names s.node)) (flat_map (name_rows t) (bound_names t.node))
      (ap (λ b. not (is_typescript s) && (b && not (lets_var_redeclare s))) (parent_agrees f s st r path above (has_text (codes "var")) var_agrees))
      (flat_rows f.names (IsBound f) (name_rows s) (name_rows t) names_told (bound_names s.node) (bound_names t.node) (bound_each f s.node t.node mine))

  -- ---- functions

  repeats_told : (a b : Node) → R a b → (before : Redeclaration) (earlier : List Redeclaration) → AreToldAgain f.names (repeat_rows s a before earlier) (repeat_rows t b before earlier)
  repeats_told a b e before earlier = subst (λ c. AreToldAgain f.names (repeat_rows s a before earlier) (if c then rows_of_some (λ entry. redeclaration b.text entry.span b.span ∷ []) (find is_async_or_generator earlier) else redeclaration b.text before.span b.span ∷ [])) (sym sloppy) (go (is_sloppy_repeat s before))
    where
      sloppy : is_sloppy_repeat t before ≡ is_sloppy_repeat s before
      sloppy = λ i. not (is_strict s) && (not (mark_agrees f mark.Async refl s.node t.node mine i || mark_agrees f mark.Generator refl s.node t.node mine i) && meets before.flags.bits symbol.Function.bits)

      entry_row : (one : Redeclaration) → AreToldAgain f.names (redeclaration a.text one.span a.span ∷ []) (redeclaration b.text one.span b.span ∷ [])
      entry_row one = subst (λ sp. AreToldAgain f.names (redeclaration a.text one.span a.span ∷ []) (redeclaration b.text one.span sp ∷ [])) (sym (same_spans f a b e)) (either_row f a b e one.span a.span, tt)

      go : (c : Bool) → AreToldAgain f.names (if c then rows_of_some (λ entry. redeclaration a.text entry.span a.span ∷ []) (find is_async_or_generator earlier) else redeclaration a.text before.span a.span ∷ []) (if c then rows_of_some (λ entry. redeclaration b.text entry.span b.span ∷ []) (find is_async_or_generator earlier) else redeclaration b.text before.span b.span ∷ [])
      go true = again_rows (λ entry. redeclaration a.text entry.span a.span ∷ []) (λ entry. redeclaration b.text entry.span b.span ∷ []) entry_row (find is_async_or_generator earlier) (find is_async_or_generator earlier) refl
      go false = entry_row before

  redeclared_told : (a b : Node) → R a b → (entries : List Redeclaration) → AreToldAgain f.names (redeclared_rows s a entries) (redeclared_rows t b entries)
  redeclared_told a b e entries =
      again_rows (λ before. rows_if (not (may_precede s before)) (repeat_rows s a before (before_last entries))) (λ before. rows_if (not (may_precede s before)) (repeat_rows t b before (before_last entries)))
      (λ before. told_if f.names (not (may_precede s before)) (not (may_precede s before)) (repeat_rows s a before (before_last entries)) (repeat_rows t b before (before_last entries)) refl (repeats_told a b e before (before_last entries)))
      (one_before_last entries) (one_before_last entries) refl

  idents_told : (a b : Node) → R a b → AreToldAgain f.names (redeclared_rows s a (symbol_entries s a)) (redeclared_rows t b (symbol_entries t b))
  idents_told a b e = subst (λ es. AreToldAgain f.names (redeclared_rows s a (symbol_entries s a)) (redeclared_rows t b es)) (sym (declared_same f s st r path above a b e)) (redeclared_told a b e (symbol_entries s a))

  in_if_same : is_function_decl_part_of_if_statement t ≡ is_function_decl_part_of_if_statement s
  in_if_same = λ i. function_agrees f s.node t.node mine i && (not (is_strict s) && under f s st r path above kind.IfStatement i)

  pub functions_told : AreToldAgain f.names (check_function_redeclaration s) (check_function_redeclaration t)
  functions_told =
      told_if f.names (not (is_typescript s) && (is_declared_function s.node && not (is_function_decl_part_of_if_statement s))) (not (is_typescript t) && (is_declared_function t.node && not (is_function_decl_part_of_if_statement t)))
      (rows_of_some (λ ident. redeclared_rows s ident (symbol_entries s ident)) (child_of role.Id s.node)) (rows_of_some (λ ident. redeclared_rows t ident (symbol_entries t ident)) (child_of role.Id t.node))
      (λ i. not (is_typescript s) && (function_agrees f s.node t.node mine i && not (in_if_same i)))
      (some_rows R f.names (λ ident. redeclared_rows s ident (symbol_entries s ident)) (λ ident. redeclared_rows t ident (symbol_entries t ident)) idents_told (child_of role.Id s.node) (child_of role.Id t.node) (child_both f role.Id s.node t.node mine))
