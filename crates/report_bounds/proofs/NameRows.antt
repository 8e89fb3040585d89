-- Rows on names, literals, jumps, bodies and variables.
use Rattle.std.proofs.Common.{ℕ, ◌&&◌, ◌||◌, not, bytes_eq, Bool, true, false, if◌then◌else◌, List, [], ◌∷◌, ◌++◌, Option, Some, None, find, flat_map, codes, encode_utf8_all, is_none, refl, arith, IfSome}
use Rattle.semantic_syntax.specs.Sets.{meets}
use Rattle.semantic_syntax.specs.declared.spans.Span.{Span}
use Rattle.semantic_syntax.specs.declared.symbol_flags.TheConstants.SymbolFlags as symbol
use Rattle.semantic_kinds.specs.declared.kind.AstType.TheVariants as kinds
use Rattle.semantic_kinds.specs.declared.mark.Mark.TheVariants as mark
use Rattle.semantic_kinds.specs.declared.role.Role.{Role}
use Rattle.semantic_kinds.specs.declared.role.Role.TheVariants as roles
use Rattle.semantic_tree.specs.Views.{is, has, has_text, has_child, all_in, child_of}
use Rattle.semantic_tree.specs.declared.node.Node.{Node}
use Rattle.semantic_diagnostics.specs.Names.{redeclaration, class_static_block_await, class_static_block_for_await, class_static_block_await_using, reserved_keyword, unexpected_identifier_assign, invalid_let_declaration, unexpected_arguments, private_not_in_class, legacy_octal, leading_zero_decimal, non_octal_decimal_escape_sequence, illegal_use_strict}
use Rattle.semantic_diagnostics.specs.Statements.{using_declaration_not_allowed_in_script, function_declaration_strict, function_declaration_non_strict, with_statement, invalid_label_jump_target, invalid_label_target, invalid_label_non_iteration, invalid_break, invalid_continue, label_redeclaration, unexpected_initializer_in_for_loop_head}
use Rattle.semantic_diagnostics.specs.Types.{type_annotation_in_for_left}
use Rattle.semantic_diagnostics.specs.declared.contexts.ReservedKeywordContext.TheVariants as reserved
use Rattle.semantic_diagnostics.specs.declared.diagnostic.Diagnostic.{Diagnostic}
use Rattle.semantic_tree.specs.BoundNames.{bound_names}
use Rattle.check_model.specs.Bodies.{is_declared_function, check_function_declaration, is_single_body, check_function_declaration_in_labeled_statement, check_with_statement}
use Rattle.check_model.specs.Groups.{under_labels}
use Rattle.check_model.specs.Jumps.{stops_jumps, ends_jump_search, is_loop_node, is_loop_or_switch, is_labelled_by, unlabelled_rows, continue_rows, met_rows, labelled_rows, break_rows, check_break_statement, continue_rows_by, check_continue_statement, same_label_around, own_label_rows, check_labeled_statement}
use Rattle.check_model.specs.Literals.{has_leading_zero, leading_zero_rows, check_number_literal, is_octal_escape, first_bad_escape, escape_rows, is_escaped, check_string_literal, has_complex_parameters, check_directive}
use Rattle.check_model.specs.Names.{is_strict_reserved, reserved_because, not_assigned_because, await_rows, check_identifier, is_eval_or_arguments, is_plain_binding, eval_binding_rows, declaration_around, let_rows, check_binding_identifier, is_bad_write, is_field_value, is_static_block, owner_of_arguments, arguments_rows, check_identifier_reference, check_private_identifier_outside_class}
use Rattle.check_model.specs.Rows.{own_identifier_rows, body_rows, labelled_body_rows, left_rows}
use Rattle.check_model.specs.Search.{rows_if, row_if, rows_of_some, first, only}
use Rattle.check_model.specs.Sight.{Sight, symbol_entries}
use Rattle.check_model.specs.Entries.{one_before_last}
use Rattle.check_model.specs.Surroundings.{scope_passes, is_strict, is_in_function, is_at_top, is_module, is_script, is_typescript, is_definition, is_in_static_block, parent_passes, is_under, bytes_at, first_bytes}
use Rattle.check_model.specs.TypedLoops as typed
use Rattle.check_model.specs.Variables.{check_for_of_statement, is_bad_initializer, loop_name, head_rows, check_for_statement_left, is_using, check_variable_declaration, lets_var_redeclare, name_rows, check_variable_declarator_redeclaration}
use Rattle.table_bounds.specs.Tellable.{IsTellableEntry}
use Rattle.report_bounds.proofs.Rows.{HasNumbers, AreShort, own_short, own, children, child, names, all_found, all_found_before, all_only, Fine, AllFine, one, row, rows, choice, both, some, each, plain_word}
use Rattle.report_bounds.proofs.Sights.{IsFine, first_numbers, entries_of_fine, before_fine}

-- ---- names

await_fine : (name : List ℕ) (span : Span) (s : Sight) → HasNumbers span → AllFine (await_rows name span s)
await_fine name span s h =
    choice (is_module s) (reserved_keyword name span reserved.ModuleAwait ∷ []) (row_if (scope_passes (λ seen. seen.is_static_block) s) (class_static_block_await span))
    (one (reserved_keyword name span reserved.ModuleAwait) (record { code = tt; labels = (record { start = h.0; end = h.1 }, tt) })) (row (scope_passes (λ seen. seen.is_static_block) s) (class_static_block_await span) (record { code = tt; labels = (record { start = h.0; end = h.1 }, tt) }))

identifier_fine : (name : List ℕ) (span : Span) (s : Sight) → HasNumbers span → AllFine (check_identifier name span s)
identifier_fine name span s h =
    rows (not s.is_ambient) (if bytes_eq name (codes "await") then await_rows name span s else row_if (is_strict_reserved name && is_strict s) (reserved_keyword name span (reserved_because s)))
    (choice (bytes_eq name (codes "await")) (await_rows name span s) (row_if (is_strict_reserved name && is_strict s) (reserved_keyword name span (reserved_because s)))
    (await_fine name span s h) (row (is_strict_reserved name && is_strict s) (reserved_keyword name span (reserved_because s)) (record { code = tt; labels = (record { start = h.0; end = h.1 }, tt) })))

module _ (s : Sight) (f : IsFine s) where
  here : HasNumbers s.node.span
  here = own s.node f.node

  pub own_identifier : AllFine (own_identifier_rows s)
  own_identifier = identifier_fine s.node.text s.node.span s here

  eval_fine : AllFine (eval_binding_rows s)
  eval_fine =
      row (is_eval_or_arguments s.node.text && is_strict s && not (s.is_ambient && is_plain_binding s)) (unexpected_identifier_assign s.node.text s.node.span (not_assigned_because s)) (record { code = tt; labels = (record { start = here.0; end = here.1 }, tt) })

  let_fine : AllFine (let_rows s)
  let_fine =
      rows (bytes_eq s.node.text (codes "let") && not (is_strict s)) (rows_of_some (λ declaration. row_if (not (has_text (codes "var") declaration)) (invalid_let_declaration declaration.text s.node.span)) (declaration_around s))
      (some AreShort (λ declaration. row_if (not (has_text (codes "var") declaration)) (invalid_let_declaration declaration.text s.node.span)) (declaration_around s)
      (all_found_before AreShort (is kinds.Function) (is kinds.VariableDeclaration) s.path f.path)
      (λ declaration k. row (not (has_text (codes "var") declaration)) (invalid_let_declaration declaration.text s.node.span) (record { code = tt; labels = (record { start = here.0; end = here.1 }, tt) })))

  pub binding_identifier : AllFine (check_binding_identifier s)
  binding_identifier = rows (not (is_definition s)) (eval_binding_rows s ++ let_rows s) (both (eval_binding_rows s) (let_rows s) eval_fine let_fine)

  arguments_fine : AllFine (arguments_rows s)
  arguments_fine =
      some (λ (link : Node × Node). Unit {0})
      (λ link. row_if (is_field_value link) (unexpected_arguments (codes "class field initializer") s.node.span) ++ row_if (is_static_block link) (unexpected_arguments (codes "static initialization block") s.node.span))
      (owner_of_arguments s) (any (owner_of_arguments s))
      (λ link k. both (row_if (is_field_value link) (unexpected_arguments (codes "class field initializer") s.node.span)) (row_if (is_static_block link) (unexpected_arguments (codes "static initialization block") s.node.span))
      (row (is_field_value link) (unexpected_arguments (codes "class field initializer") s.node.span) (record { code = tt; labels = (record { start = here.0; end = here.1 }, tt) })) (row (is_static_block link) (unexpected_arguments (codes "static initialization block") s.node.span) (record { code = tt; labels = (record { start = here.0; end = here.1 }, tt) })))
    where
      any : (o : Option (Node × Node)) → IfSome o (λ (link : Node × Node). Unit {0})
      any None = tt
      any (Some link) = tt

  pub identifier_reference : AllFine (check_identifier_reference s)
  identifier_reference =
      rows (not (is_definition s)) (if is_bad_write s then unexpected_identifier_assign s.node.text s.node.span (not_assigned_because s) ∷ [] else rows_if (bytes_eq s.node.text (codes "arguments")) (arguments_rows s))
      (choice (is_bad_write s) (unexpected_identifier_assign s.node.text s.node.span (not_assigned_because s) ∷ []) (rows_if (bytes_eq s.node.text (codes "arguments")) (arguments_rows s))
      (one (unexpected_identifier_assign s.node.text s.node.span (not_assigned_because s)) (record { code = tt; labels = (record { start = here.0; end = here.1 }, tt) })) (rows (bytes_eq s.node.text (codes "arguments")) (arguments_rows s) arguments_fine))

  pub private_identifier : AllFine (check_private_identifier_outside_class s)
  private_identifier = row (is_none (first s.classes)) (private_not_in_class s.node.text s.node.span) (record { code = tt; labels = (record { start = here.0; end = here.1 }, tt) })

  -- ---- literals

  pub number_literal : AllFine (check_number_literal s)
  number_literal =
      rows (is_strict s && has_leading_zero (encode_utf8_all s.node.text)) (leading_zero_rows s.node)
      (both (row_if (has mark.Octal s.node) (legacy_octal s.node.span)) (row_if (has mark.Decimal s.node || has mark.Float s.node) (leading_zero_decimal s.node.span))
      (row (has mark.Octal s.node) (legacy_octal s.node.span) (record { code = tt; labels = (record { start = here.0; end = here.1 }, tt) })) (row (has mark.Decimal s.node || has mark.Float s.node) (leading_zero_decimal s.node.span) (record { code = tt; labels = (record { start = here.0; end = here.1 }, tt) })))

  pub string_literal : AllFine (check_string_literal s)
  string_literal =
      rows (is_strict s && (not (is_under kinds.JSXAttribute s) && is_escaped s)) (rows_of_some (escape_rows s.node.span) (first_bad_escape (bytes_at s s.node.span)))
      (some (λ (text : List ℕ). Unit {0}) (escape_rows s.node.span) (first_bad_escape (bytes_at s s.node.span)) (any (first_bad_escape (bytes_at s s.node.span)))
      (λ text k. choice (is_octal_escape text) (legacy_octal s.node.span ∷ []) (non_octal_decimal_escape_sequence s.node.span ∷ []) (one (legacy_octal s.node.span) (record { code = tt; labels = (record { start = here.0; end = here.1 }, tt) })) (one (non_octal_decimal_escape_sequence s.node.span) (record { code = tt; labels = (record { start = here.0; end = here.1 }, tt) }))))
    where
      any : (o : Option (List ℕ)) → IfSome o (λ (text : List ℕ). Unit {0})
      any None = tt
      any (Some text) = tt

  pub directive : AllFine (check_directive s)
  directive = row (has_text (codes "use strict") s.node && (is_in_function s && has_complex_parameters s)) (illegal_use_strict s.node.span) (record { code = tt; labels = (record { start = here.0; end = here.1 }, tt) })

  -- ---- bodies

  declaration_fine : (body : Node) (under_if : Bool) → AreShort body → AllFine (check_function_declaration body under_if s)
  declaration_fine body under_if h =
      let at : HasNumbers body.span = own body h in
      rows (is_declared_function body) (if is_strict s then function_declaration_strict body.span ∷ [] else row_if (not under_if) (function_declaration_non_strict body.span))
      (choice (is_strict s) (function_declaration_strict body.span ∷ []) (row_if (not under_if) (function_declaration_non_strict body.span))
      (one (function_declaration_strict body.span) (record { code = tt; labels = (record { start = at.0; end = at.1 }, tt) })) (row (not under_if) (function_declaration_non_strict body.span) (record { code = tt; labels = (record { start = at.0; end = at.1 }, tt) })))

  labelled_fine : (body : Node) → AreShort body → AllFine (check_function_declaration_in_labeled_statement body s)
  labelled_fine body h =
      let at : HasNumbers body.span = own body h in
      rows (is_declared_function body) (if is_strict s then function_declaration_strict body.span ∷ [] else row_if (is_single_body s) (function_declaration_non_strict body.span))
      (choice (is_strict s) (function_declaration_strict body.span ∷ []) (row_if (is_single_body s) (function_declaration_non_strict body.span))
      (one (function_declaration_strict body.span) (record { code = tt; labels = (record { start = at.0; end = at.1 }, tt) })) (row (is_single_body s) (function_declaration_non_strict body.span) (record { code = tt; labels = (record { start = at.0; end = at.1 }, tt) })))

  pub body : (role : Role) (under_if : Bool) → AllFine (body_rows role under_if s)
  body role under_if = some AreShort (λ body. check_function_declaration body under_if s) (child_of role s.node) (child role s.node f.node) (λ body h. declaration_fine body under_if h)

  pub labelled_body : AllFine (labelled_body_rows s)
  labelled_body = some AreShort (λ body. check_function_declaration_in_labeled_statement body s) (child_of roles.Body s.node) (child roles.Body s.node f.node) labelled_fine

  pub with_word : AllFine (check_with_statement s)
  with_word =
      let at : HasNumbers (first_bytes 4 s.node.span) = first_numbers 4 s.node.span (omega arith) (own_short s.node f.node) in
      row (is_strict s || is_typescript s) (with_statement (first_bytes 4 s.node.span)) (record { code = tt; labels = (record { start = at.0; end = at.1 }, tt) })

  -- ---- jumps

  unlabelled_fine : (is_target : Node → Bool) (refusal : Diagnostic) → Fine refusal → AllFine (unlabelled_rows is_target refusal s.path)
  unlabelled_fine is_target refusal h =
      some AreShort (λ met. row_if (not (is_target met)) refusal) (find (λ node. ends_jump_search node || is_target node) s.path) (all_found AreShort (λ node. ends_jump_search node || is_target node) s.path f.path) (λ met k. row (not (is_target met)) refusal h)

  labelled_jump : (target_rows : Node → List Diagnostic) (label : Node) → AreShort label → ((target : Node) → AreShort target → AllFine (target_rows target)) → AllFine (labelled_rows target_rows label s.path)
  labelled_jump target_rows label h k =
      let at : HasNumbers label.span = own label h in
      some AreShort (met_rows target_rows label) (find (λ node. ends_jump_search node || is_labelled_by label node) s.path) (all_found AreShort (λ node. ends_jump_search node || is_labelled_by label node) s.path f.path)
      (λ met l. choice (stops_jumps met) (invalid_label_jump_target label.span ∷ []) (if is kinds.Program met then invalid_label_target label.span ∷ [] else target_rows met)
      (one (invalid_label_jump_target label.span) (record { code = tt; labels = (record { start = at.0; end = at.1 }, tt) }))
      (choice (is kinds.Program met) (invalid_label_target label.span ∷ []) (target_rows met) (one (invalid_label_target label.span) (record { code = tt; labels = (record { start = at.0; end = at.1 }, tt) })) (k met l)))

  continue_fine : (label : Node) → AreShort label → (target : Node) → AreShort target → AllFine (continue_rows label target)
  continue_fine label h target k =
      let at : HasNumbers label.span = own label h in
      choice (is_loop_node (under_labels target)) [] (rows_of_some (λ own. invalid_label_non_iteration (codes "continue") own.span label.span ∷ []) (child_of roles.Label target)) tt
      (some AreShort (λ own. invalid_label_non_iteration (codes "continue") own.span label.span ∷ []) (child_of roles.Label target) (child roles.Label target k)
      (λ mark l. let there : HasNumbers mark.span = own mark l in one (invalid_label_non_iteration (codes "continue") mark.span label.span) (record { code = tt; labels = (record { start = there.0; end = there.1 }, (record { start = at.0; end = at.1 }, tt)) })))

  pub break_statement : AllFine (check_break_statement s)
  break_statement = by (child_of roles.Label s.node) (child roles.Label s.node f.node)
    where
      by : (o : Option Node) → IfSome o AreShort → AllFine (break_rows o s.node.span s.path)
      by None h = unlabelled_fine is_loop_or_switch (invalid_break s.node.span) (record { code = tt; labels = (record { start = here.0; end = here.1 }, tt) })
      by (Some label) h = labelled_jump (λ target. []) label h (λ target k. tt)

  pub continue_statement : AllFine (check_continue_statement s)
  continue_statement = by (child_of roles.Label s.node) (child roles.Label s.node f.node)
    where
      by : (o : Option Node) → IfSome o AreShort → AllFine (continue_rows_by o s.node.span s.path)
      by None h = unlabelled_fine is_loop_node (invalid_continue s.node.span) (record { code = tt; labels = (record { start = here.0; end = here.1 }, tt) })
      by (Some label) h = labelled_jump (continue_rows label) label h (continue_fine label h)

  pub labeled_statement : AllFine (check_labeled_statement s)
  labeled_statement =
      some AreShort (own_label_rows s.path) (child_of roles.Label s.node) (child roles.Label s.node f.node)
      (λ label h. let at : HasNumbers label.span = own label h in
      some AreShort (λ outer. rows_of_some (λ first. label_redeclaration label.text first.span label.span ∷ []) (child_of roles.Label outer)) (same_label_around label s.path)
      (all_found_before AreShort stops_jumps (is_labelled_by label) s.path f.path)
      (λ outer k. some AreShort (λ first. label_redeclaration label.text first.span label.span ∷ []) (child_of roles.Label outer) (child roles.Label outer k)
      (λ first l. let there : HasNumbers first.span = own first l in one (label_redeclaration label.text first.span label.span) (record { code = tt; labels = (record { start = there.0; end = there.1 }, (record { start = at.0; end = at.1 }, tt)) }))))

  -- ---- variables

  pub for_of_statement : AllFine (check_for_of_statement s)
  for_of_statement = row (has mark.Await s.node && is_in_static_block s) (class_static_block_for_await s.node.span) (record { code = tt; labels = (record { start = here.0; end = here.1 }, tt) })

  head_fine : (left : Node) (for_in : Bool) → AreShort left → AllFine (check_for_statement_left left for_in s)
  head_fine left for_in h =
      let at : HasNumbers left.span = own left h in
      rows (is kinds.VariableDeclaration left) (head_rows s left for_in (all_in roles.Declarators left))
      (some AreShort (λ declarator. row_if (is_bad_initializer s left for_in declarator) (unexpected_initializer_in_for_loop_head (loop_name for_in) left.span)) (only (all_in roles.Declarators left))
      (all_only AreShort (all_in roles.Declarators left) (children roles.Declarators left h))
      (λ declarator k. row (is_bad_initializer s left for_in declarator) (unexpected_initializer_in_for_loop_head (loop_name for_in) left.span) (record { code = tt; labels = (record { start = at.0; end = at.1 }, tt) })))

  annotation_fine : (for_in : Bool) (ident : Node) → AreShort ident → AllFine (type_annotation_in_for_left ident.span for_in ∷ [])
  annotation_fine true ident h = let at : HasNumbers ident.span = own ident h in (record { code = plain_word (codes "TS(2404)") refl refl; labels = (record { start = at.0; end = at.1 }, tt) }, tt)
  annotation_fine false ident h = let at : HasNumbers ident.span = own ident h in (record { code = plain_word (codes "TS(2483)") refl refl; labels = (record { start = at.0; end = at.1 }, tt) }, tt)

  typed_fine : (left : Node) (for_in : Bool) → AreShort left → AllFine (typed.check_typed_for_statement_left left for_in s)
  typed_fine left for_in h =
      rows (is kinds.VariableDeclaration left) (flat_map (typed.typed_rows for_in) (all_in roles.Declarators left))
      (each AreShort (typed.typed_rows for_in) (all_in roles.Declarators left) (children roles.Declarators left h)
      (λ declarator k. rows (has_child roles.Annotation declarator) (rows_of_some (λ ident. type_annotation_in_for_left ident.span for_in ∷ []) (child_of roles.Id declarator))
      (some AreShort (λ ident. type_annotation_in_for_left ident.span for_in ∷ []) (child_of roles.Id declarator) (child roles.Id declarator k) (annotation_fine for_in))))

  pub left : (for_in : Bool) → AllFine (left_rows for_in s)
  left for_in =
      both (rows_of_some (λ left. check_for_statement_left left for_in s) (child_of roles.Left s.node)) (rows_of_some (λ left. typed.check_typed_for_statement_left left for_in s) (child_of roles.Left s.node))
      (some AreShort (λ left. check_for_statement_left left for_in s) (child_of roles.Left s.node) (child roles.Left s.node f.node) (λ left h. head_fine left for_in h))
      (some AreShort (λ left. typed.check_typed_for_statement_left left for_in s) (child_of roles.Left s.node) (child roles.Left s.node f.node) (λ left h. typed_fine left for_in h))

  pub variable_declaration : AllFine (check_variable_declaration s)
  variable_declaration =
      both (row_if (is_using s.node && (is_script s && is_at_top s)) (using_declaration_not_allowed_in_script s.node.span)) (row_if (has_text (codes "await using") s.node && is_in_static_block s) (class_static_block_await_using s.node.span))
      (row (is_using s.node && (is_script s && is_at_top s)) (using_declaration_not_allowed_in_script s.node.span) (record { code = tt; labels = (record { start = here.0; end = here.1 }, tt) })) (row (has_text (codes "await using") s.node && is_in_static_block s) (class_static_block_await_using s.node.span) (record { code = tt; labels = (record { start = here.0; end = here.1 }, tt) }))

  pub declarator_redeclaration : AllFine (check_variable_declarator_redeclaration s)
  declarator_redeclaration =
      rows (not (is_typescript s) && (parent_passes s (has_text (codes "var")) && not (lets_var_redeclare s))) (flat_map (name_rows s) (bound_names s.node))
      (each AreShort (name_rows s) (bound_names s.node) (names s.node f.node)
      (λ name h. some IsTellableEntry (λ before. row_if (meets before.flags.bits symbol.Function.bits) (redeclaration name.text before.span s.node.span)) (one_before_last (symbol_entries s name))
      (before_fine (symbol_entries s name) (entries_of_fine s name f))
      (λ before k. row (meets before.flags.bits symbol.Function.bits) (redeclaration name.text before.span s.node.span) (record { code = tt; labels = (record { start = k.start; end = k.end }, (record { start = here.0; end = here.1 }, tt)) }))))
