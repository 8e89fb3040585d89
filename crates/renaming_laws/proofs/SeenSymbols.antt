-- Of symbols the rules see neither the scopes nor, but for imports of a module, which of them the root binds.
use Rattle.std.proofs.Common.{◌≡◌, ℕ, ◌+◌, ◌==◌, List, [], ◌∷◌, ◌++◌, Bool, true, false, not, ◌&&◌, Option, Some, None, refl, sym, ap, ◌∙◌, map, option_map, codes}
use Rattle.std.specs.Prelude.{slice_get, nat_eq, filter, flat_map}
use Rattle.std.specs.Map.{lookup}
use Rattle.std.specs.Option.{option_and_then}
use Rattle.std.proofs.lemmas.Option.{slice_get-map}
use Rattle.semantic_syntax.specs.Sets.{meets}
use Rattle.semantic_syntax.specs.Tables.{Symbol}
use Rattle.semantic_syntax.specs.declared.symbol_flags.TheConstants.SymbolFlags as symbol
use Rattle.semantic_kinds.specs.declared.kind.AstType.{AstType}
use Rattle.semantic_kinds.specs.declared.kind.AstType.TheVariants as kind
use Rattle.semantic_kinds.specs.declared.role.Role.TheVariants as role
use Rattle.semantic_tree.specs.BoundNames.{bound_names}
use Rattle.semantic_tree.specs.Views.{has_text, child_of}
use Rattle.semantic_tree.specs.declared.node.Node.{Node}
use Rattle.semantic_diagnostics.specs.declared.diagnostic.Diagnostic.{Diagnostic}
use Rattle.semantic_diagnostics.specs.Names.{redeclaration}
use Rattle.check_model.specs.Bodies.{is_declared_function, is_function_decl_part_of_if_statement}
use Rattle.check_model.specs.Classes.{check_class, check_class_redeclaration}
use Rattle.check_model.specs.Elements.{check_duplicate_class_elements}
use Rattle.check_model.specs.Entries.{one_before_last}
use Rattle.check_model.specs.Exports.{is_import_value, import_rows, bound_rows, check_unresolved_exports, check_import_value_redeclarations, check_ts_export_assignment_in_program}
use Rattle.check_model.specs.Functions.{redeclared_rows, check_function_redeclaration}
use Rattle.check_model.specs.Members.{check_class_members}
use Rattle.check_model.specs.Rows.{rows_by, rows_of}
use Rattle.check_model.specs.Search.{row_if, rows_if, rows_of_some}
use Rattle.check_model.specs.Sight.{Sight, entries_in, symbol_entries}
use Rattle.check_model.specs.Surroundings.{is_module, is_typescript, parent_passes}
use Rattle.check_model.specs.Variables.{lets_var_redeclare, check_variable_declarator_redeclaration}

-- a symbol without its scope
abbrev pub unscoped : Symbol → Symbol
unscoped y = record y { scope = 0 }

-- of symbols, numbered from one on, those that are imports and values are equally often among both lists
abbrev pub BoundAlike : (ns ms : List ℕ) → ℕ → List Symbol → Type 0
BoundAlike ns ms n [] = Unit {0}
BoundAlike ns ms n (y ∷ ys) = (is_import_value y.flags.bits ≡ true → filter (λ o. o == n) ns ≡ filter (λ o. o == n) ms) × BoundAlike ns ms (n + 1) ys

-- ---- imports that are bound

unscoped_rows : (ns : List ℕ) (n : ℕ) (ys : List Symbol) → bound_rows ns n (map unscoped ys) ≡ bound_rows ns n ys
unscoped_rows ns n [] = refl
unscoped_rows ns n (y ∷ ys) = ap (λ rows. flat_map (λ same. import_rows y) (filter (λ other. other == n) ns) ++ rows) (unscoped_rows ns (n + 1) ys)

-- no row for each of them
no_rows : (xs : List ℕ) (rows : ℕ → List Diagnostic) → ((n : ℕ) → rows n ≡ []) → flat_map rows xs ≡ []
no_rows [] rows h = refl
no_rows (x ∷ xs) rows h = λ i. h x i ++ no_rows xs rows h i

bound_alike : (ns ms : List ℕ) (n : ℕ) (ys : List Symbol) → BoundAlike ns ms n ys → bound_rows ms n ys ≡ bound_rows ns n ys
bound_alike ns ms n [] h = refl
bound_alike ns ms n (y ∷ ys) h = λ i. here (is_import_value y.flags.bits) refl i ++ bound_alike ns ms (n + 1) ys h.1 i
  where
    here : (b : Bool) → is_import_value y.flags.bits ≡ b → flat_map (λ same. import_rows y) (filter (λ other. other == n) ms) ≡ flat_map (λ same. import_rows y) (filter (λ other. other == n) ns)
    here true e = ap (flat_map (λ same. import_rows y)) (sym (h.0 e))
    here false e =
        let no_row : import_rows y ≡ [] = rw e refl in
        no_rows (filter (λ other. other == n) ms) (λ same. import_rows y) (λ same. no_row) ∙ sym (no_rows (filter (λ other. other == n) ns) (λ same. import_rows y) (λ same. no_row))

-- ---- sights

module _ (s : Sight) (ys zs : List Symbol) (ns ms : List ℕ) (same : map unscoped ys ≡ map unscoped zs) (alike : (not (is_typescript s) && is_module s) ≡ true → BoundAlike ns ms 0 ys) where
  abbrev a : Sight
  a = record s { symbols = ys; bound = ns }

  abbrev b : Sight
  b = record s { symbols = zs; bound = ms }

  unscoped_entries : (o : Option Symbol) → entries_in (option_map unscoped o) ≡ entries_in o
  unscoped_entries None = refl
  unscoped_entries (Some y) = refl

  entries_by : (o : Option ℕ) → entries_in (option_and_then (slice_get zs) o) ≡ entries_in (option_and_then (slice_get ys) o)
  entries_by None = refl
  entries_by (Some n) =
      sym (ap entries_in (slice_get-map unscoped zs n) ∙ unscoped_entries (slice_get zs n))
      ∙ ap (λ xs. entries_in (slice_get xs n)) (sym same)
      ∙ ap entries_in (slice_get-map unscoped ys n) ∙ unscoped_entries (slice_get ys n)

  entries_same : (ident : Node) → symbol_entries b ident ≡ symbol_entries a ident
  entries_same ident = entries_by (lookup (nat_eq ident.node_id) s.declared)

  declarators_same : check_variable_declarator_redeclaration b ≡ check_variable_declarator_redeclaration a
  declarators_same =
      λ i. rows_if (not (is_typescript s) && (parent_passes s (has_text (codes "var")) && not (lets_var_redeclare s)))
      (flat_map (λ name. rows_of_some (λ before. row_if (meets before.flags.bits symbol.Function.bits) (redeclaration name.text before.span s.node.span)) (one_before_last (entries_same name i))) (bound_names s.node))

  functions_same : check_function_redeclaration b ≡ check_function_redeclaration a
  functions_same =
      λ i. rows_if (not (is_typescript s) && (is_declared_function s.node && not (is_function_decl_part_of_if_statement s)))
      (rows_of_some (λ ident. redeclared_rows s ident (entries_same ident i)) (child_of role.Id s.node))

  classes_same : check_class_redeclaration b ≡ check_class_redeclaration a
  classes_same =
      λ i. rows_if (not (is_typescript s))
      (rows_of_some (λ ident. rows_of_some (λ before. row_if (meets before.flags.bits symbol.Function.bits) (redeclaration ident.text before.span ident.span)) (one_before_last (entries_same ident i))) (child_of role.Id s.node))

  imports_same : check_import_value_redeclarations b ≡ check_import_value_redeclarations a
  imports_same = go (not (is_typescript s) && is_module s) refl
    where
      go : (t : Bool) → (not (is_typescript s) && is_module s) ≡ t → rows_if t (bound_rows ms 0 zs) ≡ rows_if t (bound_rows ns 0 ys)
      go true e = sym (unscoped_rows ms 0 zs) ∙ ap (bound_rows ms 0) (sym same) ∙ unscoped_rows ms 0 ys ∙ bound_alike ns ms 0 ys (alike e)
      go false e = refl

  by_kind : (k : AstType) → rows_by k b ≡ rows_by k a
  by_kind kind.Program = ap (λ rows. check_duplicate_class_elements s ++ check_unresolved_exports s ++ rows ++ check_ts_export_assignment_in_program s) imports_same
  by_kind kind.VariableDeclarator = declarators_same
  by_kind kind.Function = functions_same
  by_kind kind.Class = ap (λ rows. check_class s ++ rows ++ check_class_members s) classes_same
  by_kind _ = refl

  pub rows_same : rows_of b ≡ rows_of a
  rows_same = by_kind s.node.kind
