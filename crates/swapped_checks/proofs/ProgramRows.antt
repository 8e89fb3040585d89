-- Rows on a whole program, where names are others.
use Rattle.std.proofs.Common.{◌≡◌, ℕ, ◌+◌, List, [], ◌∷◌, Option, Some, None, ◌&&◌, ◌==◌, not, inl, inr, ◌⊎◌, refl, sym, subst, ap, map, length}
use Rattle.std.specs.Prelude.{flat_map, filter, nat_lt}
use Rattle.std.specs.List.{list_any}
use Rattle.semantic_kinds.specs.Kinds.{same_kind}
use Rattle.semantic_kinds.specs.declared.kind.AstType.TheVariants as kind
use Rattle.semantic_kinds.specs.declared.role.Role.{Role}
use Rattle.semantic_kinds.specs.declared.role.Role.TheVariants as role
use Rattle.semantic_syntax.specs.Tables.{Name, Symbol}
use Rattle.semantic_syntax.specs.declared.references.Redeclaration.{Redeclaration}
use Rattle.semantic_tree.specs.Views.{is, all_in, child_of}
use Rattle.semantic_tree.specs.declared.node.Node.{Node}
use Rattle.semantic_tree.specs.declared.swap.Setting.{Setting}
use Rattle.semantic_diagnostics.specs.declared.diagnostic.Diagnostic.{Diagnostic}
use Rattle.semantic_diagnostics.specs.Names.{redeclaration, undefined_export}
use Rattle.semantic_model.specs.Swap.{renamed_symbol}
use Rattle.check_model.specs.Exports.{local_rows, export_rows, check_unresolved_exports, is_import_value, first_and_last_rows, import_rows, bound_rows, check_import_value_redeclarations, check_ts_export_assignment_in_program}
use Rattle.check_model.specs.Search.{rows_if, rows_of_some, first, last}
use Rattle.check_model.specs.Sight.{Sight, entries_in}
use Rattle.check_model.specs.Surroundings.{is_module, is_typescript}
use Rattle.swapped_checks.specs.SwappedRows.{AreToldAgain, told_the_same, redeclared_by_name, exported_by_name}
use Rattle.swapped_checks.proofs.Changed.{Change, IsChanged}
use Rattle.swapped_checks.proofs.Pairwise.{Each, some_rows, flat_rows, told_append, told_if}
use Rattle.swapped_checks.proofs.RenamedNodes.{kind_agrees, same_ids, same_spans, either_text, all_each, child_both}
use Rattle.swapped_checks.proofs.Around.{seen, own}
use Rattle.swapped_checks.proofs.TypeRows.{assignments_same}

module _ (f : Change) where
  -- an export of a name that isn't declared
  export_row : (a b : Node) → IsChanged f a b → AreToldAgain f.names (undefined_export a.text a.span ∷ []) (undefined_export b.text b.span ∷ [])
  export_row a b e = subst (λ sp. AreToldAgain f.names (undefined_export a.text a.span ∷ []) (undefined_export b.text sp ∷ [])) (sym (same_spans f a b e)) (by (either_text f a b e))
    where
      by : (b.text ≡ a.text) ⊎ (b.text ≡ f.names a.text) → AreToldAgain f.names (undefined_export a.text a.span ∷ []) (undefined_export b.text a.span ∷ [])
      by (inl q) = subst (λ u. AreToldAgain f.names (undefined_export a.text a.span ∷ []) (undefined_export u a.span ∷ [])) (sym q) (told_the_same (undefined_export a.text a.span), tt)
      by (inr q) = subst (λ u. AreToldAgain f.names (undefined_export a.text a.span ∷ []) (undefined_export u a.span ∷ [])) (sym q) (exported_by_name a.text a.span, tt)

  -- ---- imports

  last_told : (name : Name) (one : Redeclaration) (o : Option Redeclaration) → AreToldAgain f.names (rows_of_some (λ two. redeclaration name one.span two.span ∷ []) o) (rows_of_some (λ two. redeclaration (f.names name) one.span two.span ∷ []) o)
  last_told name one None = tt
  last_told name one (Some two) = (redeclared_by_name name one.span two.span, tt)

  first_told : (name : Name) (entries : List Redeclaration) (o : Option Redeclaration) → AreToldAgain f.names (rows_of_some (λ one. rows_of_some (λ two. redeclaration name one.span two.span ∷ []) (last entries)) o) (rows_of_some (λ one. rows_of_some (λ two. redeclaration (f.names name) one.span two.span ∷ []) (last entries)) o)
  first_told name entries None = tt
  first_told name entries (Some one) = last_told name one (last entries)

  import_told : (y : Symbol) → AreToldAgain f.names (import_rows y) (import_rows (renamed_symbol f.names y))
  import_told y =
      told_if f.names (is_import_value y.flags.bits) (is_import_value y.flags.bits) (first_and_last_rows y.name (entries_in (Some y))) (first_and_last_rows (f.names y.name) (entries_in (Some y))) refl
      (told_if f.names (nat_lt 1 (length (entries_in (Some y)))) (nat_lt 1 (length (entries_in (Some y))))
      (rows_of_some (λ one. rows_of_some (λ two. redeclaration y.name one.span two.span ∷ []) (last (entries_in (Some y)))) (first (entries_in (Some y))))
      (rows_of_some (λ one. rows_of_some (λ two. redeclaration (f.names y.name) one.span two.span ∷ []) (last (entries_in (Some y)))) (first (entries_in (Some y)))) refl
      (first_told y.name (entries_in (Some y)) (first (entries_in (Some y)))))

  each_time : (xs ys : List Diagnostic) → AreToldAgain f.names xs ys → (ns : List ℕ) → AreToldAgain f.names (flat_map (λ n. xs) ns) (flat_map (λ n. ys) ns)
  each_time xs ys h [] = tt
  each_time xs ys h (n ∷ ns) = told_append f.names xs ys (flat_map (λ n. xs) ns) (flat_map (λ n. ys) ns) h (each_time xs ys h ns)

  bound_told : (bound : List ℕ) (n : ℕ) (symbols : List Symbol) → AreToldAgain f.names (bound_rows bound n symbols) (bound_rows bound n (map (renamed_symbol f.names) symbols))
  bound_told bound n [] = tt
  bound_told bound n (y ∷ rest) =
      told_append f.names (flat_map (λ same. import_rows y) (filter (λ other. other == n) bound)) (flat_map (λ same. import_rows (renamed_symbol f.names y)) (filter (λ other. other == n) bound)) (bound_rows bound (n + 1) rest) (bound_rows bound (n + 1) (map (renamed_symbol f.names) rest))
      (each_time (import_rows y) (import_rows (renamed_symbol f.names y)) (import_told y) (filter (λ other. other == n) bound)) (bound_told bound (n + 1) rest)

module _ (f : Change) (s : Sight) (st : Setting) (r : Role) (path : List Node) (above : Each (IsChanged f) s.path path) where
  abbrev t : Sight
  t = seen f s st r path

  abbrev mine : IsChanged f s.node t.node
  mine = own f s st r path above

  locals_told : (a b : Node) → IsChanged f a b → AreToldAgain f.names (local_rows s a) (local_rows t b)
  locals_told a b e =
      told_if f.names (is kind.IdentifierReference a && list_any (λ n. n == a.node_id) s.unresolved) (is kind.IdentifierReference b && list_any (λ n. n == b.node_id) s.unresolved) (undefined_export a.text a.span ∷ []) (undefined_export b.text b.span ∷ [])
      (λ i. kind_agrees f (λ k. same_kind k kind.IdentifierReference) a b e i && list_any (λ n. n == same_ids f a b e i) s.unresolved) (export_row f a b e)

  specifiers_told : (a b : Node) → IsChanged f a b → AreToldAgain f.names (rows_of_some (local_rows s) (child_of role.Local a)) (rows_of_some (local_rows t) (child_of role.Local b))
  specifiers_told a b e = some_rows (IsChanged f) f.names (local_rows s) (local_rows t) locals_told (child_of role.Local a) (child_of role.Local b) (child_both f role.Local a b e)

  exports_told : (a b : Node) → IsChanged f a b → AreToldAgain f.names (export_rows s a) (export_rows t b)
  exports_told a b e =
      told_if f.names (is kind.ExportNamedDeclaration a) (is kind.ExportNamedDeclaration b)
      (flat_map (λ n. rows_of_some (local_rows s) (child_of role.Local n)) (all_in role.Specifiers a)) (flat_map (λ n. rows_of_some (local_rows t) (child_of role.Local n)) (all_in role.Specifiers b))
      (kind_agrees f (λ k. same_kind k kind.ExportNamedDeclaration) a b e)
      (flat_rows f.names (IsChanged f) (λ n. rows_of_some (local_rows s) (child_of role.Local n)) (λ n. rows_of_some (local_rows t) (child_of role.Local n)) specifiers_told (all_in role.Specifiers a) (all_in role.Specifiers b) (all_each f role.Specifiers a b e))

  pub unresolved_told : AreToldAgain f.names (check_unresolved_exports s) (check_unresolved_exports t)
  unresolved_told =
      told_if f.names (not (is_typescript s) && is_module s) (not (is_typescript s) && is_module s) (flat_map (export_rows s) (all_in role.Body s.node)) (flat_map (export_rows t) (all_in role.Body t.node)) refl
      (flat_rows f.names (IsChanged f) (export_rows s) (export_rows t) exports_told (all_in role.Body s.node) (all_in role.Body t.node) (all_each f role.Body s.node t.node mine))

  pub imports_told : AreToldAgain f.names (check_import_value_redeclarations s) (check_import_value_redeclarations t)
  imports_told = told_if f.names (not (is_typescript s) && is_module s) (not (is_typescript s) && is_module s) (bound_rows s.bound 0 s.symbols) (bound_rows s.bound 0 t.symbols) refl (bound_told f s.bound 0 s.symbols)

  pub assigned_same : check_ts_export_assignment_in_program t ≡ check_ts_export_assignment_in_program s
  assigned_same = ap (rows_if (is_typescript s)) (assignments_same f (all_in role.Body s.node) (all_in role.Body t.node) (all_each f role.Body s.node t.node mine))
