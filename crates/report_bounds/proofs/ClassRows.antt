-- Rows on classes, functions, exports, objects and `super`.
use Rattle.std.proofs.Common.{ℕ, ◌+◌, ◌&&◌, ◌||◌, ◌==◌, not, bytes_eq, nat_lt, Bool, true, false, if◌then◌else◌, List, [], ◌∷◌, ◌++◌, Option, Some, None, length, find, flat_map, filter, filter_map, option_and_then, codes, is_some, refl, arith, IfSome}
use Rattle.std.specs.List.{AllByRecursion, list_any}
use Rattle.std.specs.Option.{option_map, unwrap_or}
use Rattle.semantic_syntax.specs.Sets.{meets}
use Rattle.semantic_syntax.specs.Tables.{Name, Symbol}
use Rattle.semantic_syntax.specs.declared.references.Redeclaration.{Redeclaration}
use Rattle.semantic_syntax.specs.declared.symbol_flags.TheConstants.SymbolFlags as symbol
use Rattle.semantic_kinds.specs.declared.kind.AstType.{AstType}
use Rattle.semantic_kinds.specs.declared.kind.AstType.TheVariants as kinds
use Rattle.semantic_kinds.specs.declared.mark.Mark.TheVariants as mark
use Rattle.semantic_kinds.specs.declared.role.Role.TheVariants as roles
use Rattle.semantic_tree.specs.KeyNames.{static_name}
use Rattle.semantic_tree.specs.KindGroups.{is_wrapper}
use Rattle.semantic_tree.specs.Unwrapped.{inner_expression}
use Rattle.semantic_tree.specs.Views.{is, has, has_text, has_child, whose, all_in, child_of}
use Rattle.semantic_tree.specs.declared.node.Node.{Node}
use Rattle.semantic_diagnostics.specs.Functions.{duplicate_constructor, require_class_name, super_without_derived_class, delete_of_unqualified, delete_private_field, await_or_yield_in_parameter}
use Rattle.semantic_diagnostics.specs.Names.{redeclaration, static_and_instance_private_identifier, undefined_export, class_static_block_await, private_field_undeclared}
use Rattle.semantic_diagnostics.specs.Types.{abstract_elem_in_concrete_class, constructor_implementation_missing, function_implementation_missing, parameter_property_only_in_constructor_impl, accessor_without_body}
use Rattle.semantic_diagnostics.specs.declared.diagnostic.Diagnostic.{Diagnostic}
use Rattle.semantic_model.specs.Class.{PrivateUse}
use Rattle.semantic_model.specs.Element.{Element}
use Rattle.semantic_tree.specs.BoundNames.{bound_names}
use Rattle.check_model.specs.Assignments as assignments
use Rattle.check_model.specs.Bodies.{is_declared_function, is_function_decl_part_of_if_statement}
use Rattle.check_model.specs.Classes.{members, defines_private, use_rows, private_use_rows, class_name_rows, is_constructor_with_body, key_span, member_span, second_rows, constructor_rows, check_class, check_class_redeclaration}
use Rattle.check_model.specs.Elements.{share_name, share_setter, some_or, predecessor, same_truth, clash, clash_row, element_rows, class_rows, check_duplicate_class_elements}
use Rattle.check_model.specs.Entries.{before_last, one_before_last}
use Rattle.check_model.specs.Exports.{local_rows, export_rows, check_unresolved_exports, is_import_value, first_and_last_rows, import_rows, bound_rows, check_import_value_redeclarations, check_ts_export_assignment_in_program}
use Rattle.check_model.specs.Expressions.{is_proto, named_proto, is_written_out, proto_key, proto_rows, check_object_expression, chained_rows, deleted_rows, operand_rows, check_unary_expression, is_in_parameter, check_await_expression, check_yield_expression}
use Rattle.check_model.specs.Functions.{may_precede, is_sloppy_repeat, is_async_or_generator, repeat_rows, redeclared_rows, check_function_redeclaration}
use Rattle.check_model.specs.Members as typed
use Rattle.check_model.specs.Methods.{is_bodiless_value, is_parameter_property, parameter_rows, items_of, is_accessor, bodiless_rows, check_method_definition, repeated_rows, check_formal_parameters}
use Rattle.check_model.specs.Search.{rows_if, row_if, rows_of_some, passes, first, last, find_last, each_after, each_between, neighbours}
use Rattle.check_model.specs.Sight.{Sight, SeenClass, entries_in, symbol_entries}
use Rattle.check_model.specs.Super.{Verdict, allowed, allowed_unless_call, allowed_in_derived, refused, is_call, is_call_node, if_call, call_around, refused_row, derived_rows, verdict_rows, search_from, check_super}
use Rattle.check_model.specs.Surroundings.{parent, is_strict, is_module, is_typescript, is_in_static_block, is_under, node_by_id, nodes_outward, text_under, first_bytes}
use Rattle.table_bounds.specs.Tellable.{IsTellableEntry, IsTellableSymbol}
use Rattle.table_bounds.proofs.Lists.{all_filtered}
use Rattle.report_bounds.proofs.Rows.{HasNumbers, AreShort, own_short, own, children, child, inside_wrappers, names, all_found, all_found_last, all_first, all_last, all_neighbours, all_mapped, all_flat, Fine, AllFine, one, row, rows, choice, pick, both, some, each, after, between, plain_word}
use Rattle.report_bounds.proofs.Sights.{IsFine, first_numbers, entry_numbers, entries_fine, entries_of_fine, before_fine, earlier_fine}
use Rattle.report_bounds.proofs.TypeRows.{export_assignment}

members_short : (class : Node) → AreShort class → AllByRecursion AreShort (members class)
members_short class h = all_flat AreShort AreShort (all_in roles.Body) (all_in roles.Body class) (λ body k. children roles.Body body k) (children roles.Body class h)

key_numbers : (member : Node) → AreShort member → HasNumbers (key_span member)
key_numbers member h = by (child_of roles.Key member) (child roles.Key member h)
  where
    by : (o : Option Node) → IfSome o AreShort → HasNumbers (unwrap_or (option_map (λ key. key.span) o) member.span)
    by None k = own member h
    by (Some key) k = own key k

member_numbers : (member : Node) → AreShort member → HasNumbers (member_span member)
member_numbers member h = by (whose roles.Key (λ key. is_some (static_name key)) member)
  where
    by : (b : Bool) → HasNumbers (if b then key_span member else member.span)
    by true = key_numbers member h
    by false = own member h

second_fine : (ms : List Node) → AllByRecursion AreShort ms → AllFine (second_rows ms)
second_fine [] h = tt
second_fine (a ∷ []) h = tt
second_fine (a ∷ b ∷ rest) h = let first_at = member_numbers a h.0 in let second_at = member_numbers b h.1.0 in one (duplicate_constructor (member_span a) (member_span b)) (record { code = tt; labels = (record { start = first_at.0; end = first_at.1 }, (record { start = second_at.0; end = second_at.1 }, tt)) })

abbrev HasElementNumbers : Element → Type 0
HasElementNumbers e = HasNumbers e.span

some_or_fine : (a b : Option Element) → IfSome a HasElementNumbers → IfSome b HasElementNumbers → IfSome (some_or a b) HasElementNumbers
some_or_fine None b h k = k
some_or_fine (Some e) b h k = h

predecessor_fine : (earlier : List Element) (e : Element) → AllByRecursion HasElementNumbers earlier → IfSome (predecessor earlier e) HasElementNumbers
predecessor_fine earlier e h = by e.is_private
  where
    by : (b : Bool) → IfSome (if b then some_or (find_last (λ other. share_name e other && share_setter e other) earlier) (find_last (share_name e) earlier) else find_last (share_name e) earlier) HasElementNumbers
    by true = some_or_fine (find_last (λ other. share_name e other && share_setter e other) earlier) (find_last (share_name e) earlier) (all_found_last HasElementNumbers (λ other. share_name e other && share_setter e other) earlier h) (all_found_last HasElementNumbers (share_name e) earlier h)
    by false = all_found_last HasElementNumbers (share_name e) earlier h

module _ (s : Sight) (f : IsFine s) where
  here : HasNumbers s.node.span
  here = own s.node f.node

  -- ---- classes

  uses_fine : AllFine (private_use_rows s)
  uses_fine =
      each (λ (u : PrivateUse). HasNumbers u.span) (use_rows s.classes) s.uses f.uses
      (λ u h. row (not (list_any (defines_private u.name) s.classes)) (private_field_undeclared u.name u.span) (record { code = tt; labels = (record { start = h.0; end = h.1 }, tt) }))

  name_fine : AllFine (class_name_rows s)
  name_fine =
      let at : HasNumbers (first_bytes 5 s.node.span) = first_numbers 5 s.node.span (omega arith) (own_short s.node f.node) in
      row (has_text (codes "declaration") s.node && not (has_child roles.Id s.node || is_under kinds.ExportDefaultDeclaration s)) (require_class_name (first_bytes 5 s.node.span)) (record { code = tt; labels = (record { start = at.0; end = at.1 }, tt) })

  constructors_fine : AllFine (constructor_rows s)
  constructors_fine = second_fine (filter is_constructor_with_body (members s.node)) (all_filtered AreShort is_constructor_with_body (members s.node) (members_short s.node f.node))

  pub class_rows_fine : AllFine (check_class s)
  class_rows_fine = both (private_use_rows s) (class_name_rows s ++ constructor_rows s) uses_fine (both (class_name_rows s) (constructor_rows s) name_fine constructors_fine)

  pub class_redeclaration : AllFine (check_class_redeclaration s)
  class_redeclaration =
      rows (not (is_typescript s)) (rows_of_some (λ ident. rows_of_some (λ before. row_if (meets before.flags.bits symbol.Function.bits) (redeclaration ident.text before.span ident.span)) (one_before_last (symbol_entries s ident))) (child_of roles.Id s.node))
      (some AreShort (λ ident. rows_of_some (λ before. row_if (meets before.flags.bits symbol.Function.bits) (redeclaration ident.text before.span ident.span)) (one_before_last (symbol_entries s ident))) (child_of roles.Id s.node) (child roles.Id s.node f.node)
      (λ ident h. let at : HasNumbers ident.span = own ident h in
      some IsTellableEntry (λ before. row_if (meets before.flags.bits symbol.Function.bits) (redeclaration ident.text before.span ident.span)) (one_before_last (symbol_entries s ident)) (before_fine (symbol_entries s ident) (entries_of_fine s ident f))
      (λ before k. let there : HasNumbers before.span = entry_numbers before k in row (meets before.flags.bits symbol.Function.bits) (redeclaration ident.text before.span ident.span) (record { code = tt; labels = (record { start = there.0; end = there.1 }, (record { start = at.0; end = at.1 }, tt)) }))))

  clash_fine : (before e : Element) → HasElementNumbers before → HasElementNumbers e → Fine (clash_row s before e)
  clash_fine before e h k =
      pick (e.is_private && (is_typescript s && not (same_truth before.is_static e.is_static))) (static_and_instance_private_identifier e.name before.span e.span) (redeclaration (text_under s before.span) before.span e.span)
      (record { code = plain_word (codes "TS(2804)") refl refl; labels = (record { start = h.0; end = h.1 }, (record { start = k.0; end = k.1 }, tt)) }) (record { code = tt; labels = (record { start = h.0; end = h.1 }, (record { start = k.0; end = k.1 }, tt)) })

  elements_fine : (earlier : List Element) (e : Element) → AllByRecursion HasElementNumbers earlier → HasElementNumbers e → AllFine (element_rows s earlier e)
  elements_fine earlier e h k =
      some HasElementNumbers (λ before. row_if (clash (is_typescript s) before e) (clash_row s before e)) (predecessor earlier e) (predecessor_fine earlier e h)
      (λ before l. row (clash (is_typescript s) before e) (clash_row s before e) (clash_fine before e l k))

  duplicate_elements : AllFine (check_duplicate_class_elements s)
  duplicate_elements = each (AllByRecursion HasElementNumbers) (class_rows s) s.elements f.elements (λ es h. after HasElementNumbers (element_rows s) [] es tt h elements_fine)

  -- ---- members in TypeScript

  abstract_fine : (member : Node) → AreShort member → AllFine (typed.abstract_rows member)
  abstract_fine member h =
      rows (has mark.Abstract member) (rows_of_some (λ key. abstract_elem_in_concrete_class (typed.is_property member) key.span ∷ []) (child_of roles.Key member))
      (some AreShort (λ key. abstract_elem_in_concrete_class (typed.is_property member) key.span ∷ []) (child_of roles.Key member) (child roles.Key member h) (λ key k. by (typed.is_property member) key k))
    where
      by : (b : Bool) (key : Node) → AreShort key → AllFine (abstract_elem_in_concrete_class b key.span ∷ [])
      by true key k = let at : HasNumbers key.span = own key k in ((record { code = plain_word (codes "TS(1253)") refl refl; labels = (record { start = at.0; end = at.1 }, tt) }), tt)
      by false key k = let at : HasNumbers key.span = own key k in ((record { code = plain_word (codes "TS(1244)") refl refl; labels = (record { start = at.0; end = at.1 }, tt) }), tt)

  implementation_fine : (before : Option Node) (member : Node) (next : Option Node) → AreShort member → AllFine (typed.implementation_rows before member next)
  implementation_fine before member next h =
      rows (typed.is_bodiless member && (not (passes (typed.is_overload member) next) && (is_some (typed.member_name member) || passes (λ overload. typed.is_overload overload member) before)))
      (rows_of_some (λ key. typed.missing_implementation member key ∷ []) (child_of roles.Key member))
      (some AreShort (λ key. typed.missing_implementation member key ∷ []) (child_of roles.Key member) (child roles.Key member h)
      (λ key k. let at : HasNumbers key.span = own key k in
      one (typed.missing_implementation member key) (pick (has_text (codes "constructor") member) (constructor_implementation_missing key.span) (function_implementation_missing key.span) (record { code = plain_word (codes "TS(2390)") refl refl; labels = (record { start = at.0; end = at.1 }, tt) }) (record { code = plain_word (codes "TS(2391)") refl refl; labels = (record { start = at.0; end = at.1 }, tt) }))))

  pub typed_class : AllFine (typed.check_class_members s)
  typed_class =
      both (rows_if (not (has mark.Abstract s.node)) (flat_map typed.abstract_rows (members s.node))) (rows_if (not s.is_ambient) (each_between typed.implementation_rows None (members s.node)))
      (rows (not (has mark.Abstract s.node)) (flat_map typed.abstract_rows (members s.node)) (each AreShort typed.abstract_rows (members s.node) (members_short s.node f.node) abstract_fine))
      (rows (not s.is_ambient) (each_between typed.implementation_rows None (members s.node)) (between AreShort typed.implementation_rows None (members s.node) (members_short s.node f.node) implementation_fine))

  -- ---- methods and signatures

  items_short : (value : Node) → AreShort value → AllByRecursion AreShort (items_of value)
  items_short value h = all_flat AreShort AreShort (all_in roles.Items) (all_in roles.Params value) (λ params k. children roles.Items params k) (children roles.Params value h)

  bodiless_fine : (value : Node) → AreShort value → AllFine (bodiless_rows s value)
  bodiless_fine value h =
      both (rows_if (has_text (codes "constructor") s.node) (flat_map parameter_rows (items_of value)))
      (rows_if (is_accessor s.node && not (has mark.Abstract s.node || s.is_ambient)) (rows_of_some (λ key. accessor_without_body key.span ∷ []) (child_of roles.Key s.node)))
      (rows (has_text (codes "constructor") s.node) (flat_map parameter_rows (items_of value))
      (each AreShort parameter_rows (items_of value) (items_short value h) (λ item k. let at : HasNumbers item.span = own item k in row (is_parameter_property item) (parameter_property_only_in_constructor_impl item.span) (record { code = plain_word (codes "TS(2369)") refl refl; labels = (record { start = at.0; end = at.1 }, tt) }))))
      (rows (is_accessor s.node && not (has mark.Abstract s.node || s.is_ambient)) (rows_of_some (λ key. accessor_without_body key.span ∷ []) (child_of roles.Key s.node))
      (some AreShort (λ key. accessor_without_body key.span ∷ []) (child_of roles.Key s.node) (child roles.Key s.node f.node) (λ key k. let at : HasNumbers key.span = own key k in one (accessor_without_body key.span) (record { code = tt; labels = (record { start = at.0; end = at.1 }, tt) }))))

  pub method_definition : AllFine (check_method_definition s)
  method_definition =
      some AreShort (λ value. rows_if (is_bodiless_value value) (bodiless_rows s value)) (child_of roles.Value s.node) (child roles.Value s.node f.node)
      (λ value h. rows (is_bodiless_value value) (bodiless_rows s value) (bodiless_fine value h))

  repeated_fine : (earlier : List Node) (name : Node) → AllByRecursion AreShort earlier → AreShort name → AllFine (repeated_rows earlier name)
  repeated_fine earlier name h k =
      let at : HasNumbers name.span = own name k in
      some AreShort (λ same. redeclaration name.text same.span name.span ∷ []) (find_last (λ other. bytes_eq other.text name.text) earlier) (all_found_last AreShort (λ other. bytes_eq other.text name.text) earlier h)
      (λ same l. let there : HasNumbers same.span = own same l in one (redeclaration name.text same.span name.span) (record { code = tt; labels = (record { start = there.0; end = there.1 }, (record { start = at.0; end = at.1 }, tt)) }))

  pub formal_parameters : AllFine (check_formal_parameters s)
  formal_parameters =
      rows (has_text (codes "signature") s.node && nat_lt 1 (length (all_in roles.Items s.node))) (each_after repeated_rows [] (bound_names s.node))
      (after AreShort repeated_rows [] (bound_names s.node) tt (names s.node f.node) repeated_fine)

  -- ---- functions

  repeat_fine : (ident : Node) (before : Redeclaration) (earlier : List Redeclaration) → AreShort ident → IsTellableEntry before → AllByRecursion IsTellableEntry earlier → AllFine (repeat_rows s ident before earlier)
  repeat_fine ident before earlier h k l =
      let at : HasNumbers ident.span = own ident h in
      let there : HasNumbers before.span = entry_numbers before k in
      choice (is_sloppy_repeat s before) (rows_of_some (λ entry. redeclaration ident.text entry.span ident.span ∷ []) (find is_async_or_generator earlier)) (redeclaration ident.text before.span ident.span ∷ [])
      (some IsTellableEntry (λ entry. redeclaration ident.text entry.span ident.span ∷ []) (find is_async_or_generator earlier) (all_found IsTellableEntry is_async_or_generator earlier l)
      (λ entry m. let there : HasNumbers entry.span = entry_numbers entry m in one (redeclaration ident.text entry.span ident.span) (record { code = tt; labels = (record { start = there.0; end = there.1 }, (record { start = at.0; end = at.1 }, tt)) })))
      (one (redeclaration ident.text before.span ident.span) (record { code = tt; labels = (record { start = there.0; end = there.1 }, (record { start = at.0; end = at.1 }, tt)) }))

  redeclared_fine : (ident : Node) (entries : List Redeclaration) → AreShort ident → AllByRecursion IsTellableEntry entries → AllFine (redeclared_rows s ident entries)
  redeclared_fine ident entries h k =
      some IsTellableEntry (λ before. rows_if (not (may_precede s before)) (repeat_rows s ident before (before_last entries))) (one_before_last entries) (before_fine entries k)
      (λ before l. rows (not (may_precede s before)) (repeat_rows s ident before (before_last entries)) (repeat_fine ident before (before_last entries) h l (earlier_fine entries k)))

  pub function_redeclaration : AllFine (check_function_redeclaration s)
  function_redeclaration =
      rows (not (is_typescript s) && (is_declared_function s.node && not (is_function_decl_part_of_if_statement s))) (rows_of_some (λ ident. redeclared_rows s ident (symbol_entries s ident)) (child_of roles.Id s.node))
      (some AreShort (λ ident. redeclared_rows s ident (symbol_entries s ident)) (child_of roles.Id s.node) (child roles.Id s.node f.node) (λ ident h. redeclared_fine ident (symbol_entries s ident) h (entries_of_fine s ident f)))

  -- ---- exports and imports

  local_fine : (local : Node) → AreShort local → AllFine (local_rows s local)
  local_fine local h =
      let at : HasNumbers local.span = own local h in
      row (is kinds.IdentifierReference local && list_any (λ node. node == local.node_id) s.unresolved) (undefined_export local.text local.span) (record { code = tt; labels = (record { start = at.0; end = at.1 }, tt) })

  export_fine : (statement : Node) → AreShort statement → AllFine (export_rows s statement)
  export_fine statement h =
      rows (is kinds.ExportNamedDeclaration statement) (flat_map (λ specifier. rows_of_some (local_rows s) (child_of roles.Local specifier)) (all_in roles.Specifiers statement))
      (each AreShort (λ specifier. rows_of_some (local_rows s) (child_of roles.Local specifier)) (all_in roles.Specifiers statement) (children roles.Specifiers statement h)
      (λ specifier k. some AreShort (local_rows s) (child_of roles.Local specifier) (child roles.Local specifier k) local_fine))

  unresolved_exports : AllFine (check_unresolved_exports s)
  unresolved_exports =
      rows (not (is_typescript s) && is_module s) (flat_map (export_rows s) (all_in roles.Body s.node)) (each AreShort (export_rows s) (all_in roles.Body s.node) (children roles.Body s.node f.node) export_fine)

  ends_fine : (name : Name) (entries : List Redeclaration) → AllByRecursion IsTellableEntry entries → AllFine (first_and_last_rows name entries)
  ends_fine name entries h =
      rows (nat_lt 1 (length entries)) (rows_of_some (λ a. rows_of_some (λ b. redeclaration name a.span b.span ∷ []) (last entries)) (first entries))
      (some IsTellableEntry (λ a. rows_of_some (λ b. redeclaration name a.span b.span ∷ []) (last entries)) (first entries) (all_first IsTellableEntry entries h)
      (λ a k. let there : HasNumbers a.span = entry_numbers a k in
      some IsTellableEntry (λ b. redeclaration name a.span b.span ∷ []) (last entries) (all_last IsTellableEntry entries h) (λ b l. let at : HasNumbers b.span = entry_numbers b l in one (redeclaration name a.span b.span) (record { code = tt; labels = (record { start = there.0; end = there.1 }, (record { start = at.0; end = at.1 }, tt)) }))))

  import_fine : (y : Symbol) → IsTellableSymbol y → AllFine (import_rows y)
  import_fine y h = rows (is_import_value y.flags.bits) (first_and_last_rows y.name (entries_in (Some y))) (ends_fine y.name (entries_in (Some y)) (entries_fine (Some y) h))

  same_each : (ds : List Diagnostic) (ns : List ℕ) → AllFine ds → AllFine (flat_map (λ n. ds) ns)
  same_each ds [] h = tt
  same_each ds (n ∷ ns) h = both ds (flat_map (λ n. ds) ns) h (same_each ds ns h)

  bound_fine : (symbols : List ℕ) (number : ℕ) (ys : List Symbol) → AllByRecursion IsTellableSymbol ys → AllFine (bound_rows symbols number ys)
  bound_fine symbols number [] h = tt
  bound_fine symbols number (y ∷ ys) h =
      both (flat_map (λ same. import_rows y) (filter (λ other. other == number) symbols)) (bound_rows symbols (number + 1) ys)
      (same_each (import_rows y) (filter (λ other. other == number) symbols) (import_fine y h.0)) (bound_fine symbols (number + 1) ys h.1)

  import_redeclarations : AllFine (check_import_value_redeclarations s)
  import_redeclarations = rows (not (is_typescript s) && is_module s) (bound_rows s.bound 0 s.symbols) (bound_fine s.bound 0 s.symbols f.symbols)

  export_assignments : AllFine (check_ts_export_assignment_in_program s)
  export_assignments = rows (is_typescript s) (assignments.export_assignment_rows (all_in roles.Body s.node)) (export_assignment (all_in roles.Body s.node) (children roles.Body s.node f.node))

  pub program : AllFine (check_duplicate_class_elements s ++ check_unresolved_exports s ++ check_import_value_redeclarations s ++ check_ts_export_assignment_in_program s)
  program =
      both (check_duplicate_class_elements s ++ check_unresolved_exports s ++ check_import_value_redeclarations s) (check_ts_export_assignment_in_program s)
      (both (check_duplicate_class_elements s ++ check_unresolved_exports s) (check_import_value_redeclarations s) (both (check_duplicate_class_elements s) (check_unresolved_exports s) duplicate_elements unresolved_exports) import_redeclarations)
      export_assignments

  -- ---- expressions

  proto_short : (property : Node) → AreShort property → IfSome (proto_key property) AreShort
  proto_short property h = by (is_written_out property) (child_of roles.Key property) (child roles.Key property h)
    where
      named : (b : Bool) (key : Node) → AreShort key → IfSome (if b then Some key else None) AreShort
      named true key k = k
      named false key k = tt

      by : (b : Bool) (o : Option Node) → IfSome o AreShort → IfSome (if b then option_and_then named_proto o else None) AreShort
      by true None k = tt
      by true (Some key) k = named (is_proto key) key k
      by false o k = tt

  pub object_expression : AllFine (check_object_expression s)
  object_expression =
      each (λ (pair : Node × Node). AreShort pair.0 × AreShort pair.1) proto_rows (neighbours (filter_map proto_key (all_in roles.Properties s.node)))
      (all_neighbours AreShort (filter_map proto_key (all_in roles.Properties s.node)) (all_mapped AreShort AreShort proto_key (all_in roles.Properties s.node) proto_short (children roles.Properties s.node f.node)))
      (λ pair h. let there : HasNumbers pair.0.span = own pair.0 h.0 in let at : HasNumbers pair.1.span = own pair.1 h.1 in one (redeclaration (codes "__proto__") pair.0.span pair.1.span) (record { code = tt; labels = (record { start = there.0; end = there.1 }, (record { start = at.0; end = at.1 }, tt)) }))

  chained_fine : (member : Node) → AreShort member → AllFine (chained_rows member)
  chained_fine member h =
      rows (is kinds.PrivateFieldExpression member) (rows_of_some (λ field. delete_private_field field.span ∷ []) (child_of roles.Field member))
      (some AreShort (λ field. delete_private_field field.span ∷ []) (child_of roles.Field member) (child roles.Field member h) (λ field k. let at : HasNumbers field.span = own field k in one (delete_private_field field.span) (record { code = tt; labels = (record { start = at.0; end = at.1 }, tt) })))

  deleted_fine : (k : AstType) (operand : Node) → AreShort operand → AllFine (deleted_rows s k operand)
  deleted_fine kinds.IdentifierReference operand h = let at : HasNumbers operand.span = own operand h in row (is_strict s) (delete_of_unqualified operand.span) (record { code = tt; labels = (record { start = at.0; end = at.1 }, tt) })
  deleted_fine kinds.PrivateFieldExpression operand h = let at : HasNumbers operand.span = own operand h in one (delete_private_field operand.span) (record { code = tt; labels = (record { start = at.0; end = at.1 }, tt) })
  deleted_fine kinds.ChainExpression operand h = some AreShort chained_rows (child_of roles.Expression operand) (child roles.Expression operand h) chained_fine
  deleted_fine _ operand h = tt

  pub unary_expression : AllFine (check_unary_expression s)
  unary_expression =
      rows (has_text (codes "delete") s.node) (rows_of_some (λ argument. operand_rows s (inner_expression argument)) (child_of roles.Argument s.node))
      (some AreShort (λ argument. operand_rows s (inner_expression argument)) (child_of roles.Argument s.node) (child roles.Argument s.node f.node)
      (λ argument h. deleted_fine (inner_expression argument).kind (inner_expression argument) (inside_wrappers is_wrapper roles.Expression argument h)))

  pub await_expression : AllFine (check_await_expression s)
  await_expression =
      let at : HasNumbers (first_bytes 5 s.node.span) = first_numbers 5 s.node.span (omega arith) (own_short s.node f.node) in
      both (row_if (is_in_parameter s) (await_or_yield_in_parameter (codes "await") s.node.span)) (row_if (is_in_static_block s) (class_static_block_await (first_bytes 5 s.node.span)))
      (row (is_in_parameter s) (await_or_yield_in_parameter (codes "await") s.node.span) (record { code = tt; labels = (record { start = here.0; end = here.1 }, tt) })) (row (is_in_static_block s) (class_static_block_await (first_bytes 5 s.node.span)) (record { code = tt; labels = (record { start = at.0; end = at.1 }, tt) }))

  pub yield_expression : AllFine (check_yield_expression s)
  yield_expression = row (is_in_parameter s) (await_or_yield_in_parameter (codes "yield") s.node.span) (record { code = tt; labels = (record { start = here.0; end = here.1 }, tt) })

  -- ---- super

  refused_fine : (o : Option Node) → IfSome o AreShort → Fine (refused_row s o)
  refused_fine None h = (record { code = tt; labels = (record { start = here.0; end = here.1 }, tt) })
  refused_fine (Some call) h = let at : HasNumbers call.span = own call h in (record { code = plain_word (codes "TS(2337)") refl refl; labels = (record { start = at.0; end = at.1 }, tt) })

  call_short : IfSome (call_around s) AreShort
  call_short = by (parent s) (all_first AreShort s.path f.path)
    where
      called : (b : Bool) (node : Node) → AreShort node → IfSome (if b then Some node else None) AreShort
      called true node h = h
      called false node h = tt

      by : (o : Option Node) → IfSome o AreShort → IfSome (option_and_then if_call o) AreShort
      by None h = tt
      by (Some node) h = called (is_call_node node) node h

  node_short : (id : ℕ) → IfSome (node_by_id s id) AreShort
  node_short id = all_found AreShort (λ node. node.node_id == id) (nodes_outward s) (f.node, f.path)

  derived_fine : (kept : List SeenClass) → AllFine (derived_rows s kept)
  derived_fine kept =
      some AreShort (λ class. row_if (not (has_child roles.Heritage class)) (super_without_derived_class s.node.span class.span)) (option_and_then (λ class. node_by_id s class.node) (first kept)) (by (first kept))
      (λ class h. let at : HasNumbers class.span = own class h in row (not (has_child roles.Heritage class)) (super_without_derived_class s.node.span class.span) (record { code = tt; labels = (record { start = here.0; end = here.1 }, (record { start = at.0; end = at.1 }, tt)) }))
    where
      by : (o : Option SeenClass) → IfSome (option_and_then (λ class. node_by_id s class.node) o) AreShort
      by None = tt
      by (Some class) = node_short class.node

  verdict_fine : (v : Verdict) (kept : List SeenClass) → AllFine (verdict_rows s (v, kept))
  verdict_fine allowed kept = tt
  verdict_fine allowed_unless_call kept = row (is_call s) (refused_row s (call_around s)) (refused_fine (call_around s) call_short)
  verdict_fine allowed_in_derived kept = derived_fine kept
  verdict_fine refused kept = one (refused_row s (call_around s)) (refused_fine (call_around s) call_short)

  pub super_rows : AllFine (check_super s)
  super_rows = verdict_fine (search_from s s.classes s.node.node_id s.scopes).0 (search_from s s.classes s.node.node_id s.scopes).1
