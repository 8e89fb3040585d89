-- Rows on types, namespaces and export assignments.
use Rattle.std.proofs.Common.{◌≡◌, ℕ, ◌+◌, ◌≤◌, ◌||◌, not, nat_le, Bool, true, false, if◌then◌else◌, List, [], ◌∷◌, ◌++◌, Option, Some, None, flat_map, drop, codes, refl, arith, IfSome}
use Rattle.std.specs.List.{AllByRecursion, list_any}
use Rattle.std.proofs.lemmas.Bool.{leb-true}
use Rattle.semantic_syntax.specs.declared.spans.Span.{Span}
use Rattle.semantic_kinds.specs.declared.kind.AstType.{AstType}
use Rattle.semantic_kinds.specs.declared.kind.AstType.TheVariants as kinds
use Rattle.semantic_kinds.specs.declared.mark.Mark.TheVariants as mark
use Rattle.semantic_kinds.specs.declared.role.Role.TheVariants as roles
use Rattle.semantic_tree.specs.KindGroups.{is_module_declaration}
use Rattle.semantic_tree.specs.Views.{is, has, has_child, all_in, child_of}
use Rattle.semantic_tree.specs.declared.node.Node.{Node}
use Rattle.semantic_diagnostics.specs.Functions.{type_predicate_only_in_return_type}
use Rattle.semantic_diagnostics.specs.Types.{jsdoc_type_in_annotation, not_allowed_namespace_declaration, not_allowed_ambient_module_declaration, nested_ambient_module_declaration, global_scope_augmentation_should_have_declare_modifier, enum_member_must_have_initializer, infer_declaration_only_permitted_in_extends_clause, ts_export_assignment_cannot_be_used_with_other_exports}
use Rattle.check_model.specs.Assignments.{exports_otherwise, assignment_row, export_assignment_rows, block_rows}
use Rattle.check_model.specs.Groups.{is_namespace, under_namespaces}
use Rattle.check_model.specs.Namespaces.{places, is_top, place_rows, check_ts_namespace_declaration, starts_from, global_span_at, global_span, check_ts_global_declaration, is_module_place, is_in_module_kind, misplaced_module, check_ts_external_module_declaration}
use Rattle.check_model.specs.Search.{row_if, rows_of_some, first}
use Rattle.check_model.specs.Sight.{Sight}
use Rattle.check_model.specs.Surroundings.{is_script}
use Rattle.check_model.specs.Types.{is_at_start, unmarked_text, jsdoc_rows, check_ts_type_annotation, is_predicate_path, check_ts_type_predicate, extends_over, check_ts_infer_type, counts_on, last_initializer, member_rows, enum_rows, check_ts_enum_declaration}
use Rattle.table_bounds.proofs.Lists.{all_filtered}
use Rattle.report_bounds.proofs.Rows.{HasNumbers, AreShort, numbers, own_short, own, children, child, inside_wrappers, all_first, Fine, AllFine, row, rows, pick, both, some, each, after, plain_word}
use Rattle.report_bounds.proofs.Sights.{IsFine}
use Rattle.table_bounds.proofs.Nodes.{IsShort}

-- ---- export assignments

assignment_fine : (statement : Node) → AreShort statement → AllFine (assignment_row statement)
assignment_fine statement h = let at : HasNumbers statement.span = own statement h in row (is kinds.TSExportAssignment statement) (ts_export_assignment_cannot_be_used_with_other_exports statement.span) (record { code = plain_word (codes "TS(2309)") refl refl; labels = (record { start = at.0; end = at.1 }, tt) })

pub export_assignment : (statements : List Node) → AllByRecursion AreShort statements → AllFine (export_assignment_rows statements)
export_assignment statements h = rows (list_any exports_otherwise statements) (flat_map assignment_row statements) (each AreShort assignment_row statements h assignment_fine)

block_fine : (block : Node) → AreShort block → AllFine (block_rows block)
block_fine block h = export_assignment (all_in roles.Body block) (children roles.Body block h)

-- ---- the word `global`

global_numbers : (span : Span) (o : Option ℕ) → IsShort span → HasNumbers (global_span_at span o)
global_numbers span None h = numbers span h
global_numbers span (Some place) h = by (nat_le (place + 6) span.end) refl
  where
    by : (b : Bool) → nat_le (place + 6) span.end ≡ b → HasNumbers (if b then record { start = place; end = place + 6 } else span)
    by true e = let inside : place + 6 ≤ span.end = leb-true (place + 6) span.end e in (omega (arith, inside, h.end), omega (arith, inside, h.end))
    by false e = numbers span h

module _ (s : Sight) (f : IsFine s) where
  here : HasNumbers s.node.span
  here = own s.node f.node

  -- ---- types

  jsdoc_fine : (k : AstType) (node : Node) → AreShort node → AllFine (jsdoc_rows s k node)
  jsdoc_fine kinds.JSDocNullableType node h = by (is_at_start node)
    where
      by : (b : Bool) → AllFine (jsdoc_type_in_annotation 63 b node.span (unmarked_text s node ++ codes " | null | undefined") ∷ [])
      by true = let at : HasNumbers node.span = own node h in ((record { code = plain_word (codes "TS(17020)") refl refl; labels = (record { start = at.0; end = at.1 }, tt) }), tt)
      by false = let at : HasNumbers node.span = own node h in ((record { code = plain_word (codes "TS(17019)") refl refl; labels = (record { start = at.0; end = at.1 }, tt) }), tt)
  jsdoc_fine kinds.JSDocNonNullableType node h = by (is_at_start node)
    where
      by : (b : Bool) → AllFine (jsdoc_type_in_annotation 33 b node.span (unmarked_text s node) ∷ [])
      by true = let at : HasNumbers node.span = own node h in ((record { code = plain_word (codes "TS(17020)") refl refl; labels = (record { start = at.0; end = at.1 }, tt) }), tt)
      by false = let at : HasNumbers node.span = own node h in ((record { code = plain_word (codes "TS(17019)") refl refl; labels = (record { start = at.0; end = at.1 }, tt) }), tt)
  jsdoc_fine _ node h = tt

  pub type_annotation : AllFine (check_ts_type_annotation s)
  type_annotation = some AreShort (λ node. jsdoc_rows s node.kind node) (child_of roles.Element s.node) (child roles.Element s.node f.node) (λ node h. jsdoc_fine node.kind node h)

  pub type_predicate : AllFine (check_ts_type_predicate s)
  type_predicate = row (not (is_predicate_path s.path)) (type_predicate_only_in_return_type s.node.span) (record { code = plain_word (codes "TS(1228)") refl refl; labels = (record { start = here.0; end = here.1 }, tt) })

  pub infer_type : AllFine (check_ts_infer_type s)
  infer_type = row (not (list_any (extends_over s.node.span) s.path)) (infer_declaration_only_permitted_in_extends_clause s.node.span) (record { code = plain_word (codes "TS(1338)") refl refl; labels = (record { start = here.0; end = here.1 }, tt) })

  member_fine : (earlier : List Node) (member : Node) → AllByRecursion AreShort earlier → AreShort member → AllFine (member_rows earlier member)
  member_fine earlier member h k =
      let at : HasNumbers member.span = own member k in
      rows (not (has_child roles.Initializer member)) (rows_of_some (λ before. row_if (not (counts_on before)) (enum_member_must_have_initializer member.span)) (last_initializer earlier))
      (some (λ (before : Node). Unit {0}) (λ before. row_if (not (counts_on before)) (enum_member_must_have_initializer member.span)) (last_initializer earlier) (any (last_initializer earlier))
      (λ before l. row (not (counts_on before)) (enum_member_must_have_initializer member.span) (record { code = tt; labels = (record { start = at.0; end = at.1 }, tt) })))
    where
      any : (o : Option Node) → IfSome o (λ (before : Node). Unit {0})
      any None = tt
      any (Some before) = tt

  pub enum_declaration : AllFine (check_ts_enum_declaration s)
  enum_declaration =
      some AreShort enum_rows (child_of roles.Body s.node) (child roles.Body s.node f.node)
      (λ body h. after AreShort member_rows [] (all_in roles.Members body) tt (children roles.Members body h) member_fine)

  -- ---- namespaces

  place_fine : AllFine (place_rows s)
  place_fine =
      some AreShort (λ place. row_if (not (is_top place)) (not_allowed_namespace_declaration s.node.span)) (first (places s))
      (all_first AreShort (places s) (all_filtered AreShort (λ node. not (is_module_declaration node.kind)) s.path f.path))
      (λ place h. row (not (is_top place)) (not_allowed_namespace_declaration s.node.span) (record { code = plain_word (codes "TS(1235)") refl refl; labels = (record { start = here.0; end = here.1 }, tt) }))

  pub namespace_declaration : AllFine (check_ts_namespace_declaration s)
  namespace_declaration = both (place_rows s) (block_rows (under_namespaces s.node)) place_fine (block_fine (under_namespaces s.node) (inside_wrappers is_namespace roles.Body s.node f.node))

  pub global_declaration : AllFine (check_ts_global_declaration s)
  global_declaration =
      let at : HasNumbers (global_span s) = global_numbers s.node.span (first (starts_from 6 (codes "global") s.node.span.start (drop s.node.span.start s.source))) (own_short s.node f.node) in
      both (place_rows s) (row_if (not (has mark.Declare s.node || s.is_ambient)) (global_scope_augmentation_should_have_declare_modifier (global_span s))) place_fine
      (row (not (has mark.Declare s.node || s.is_ambient)) (global_scope_augmentation_should_have_declare_modifier (global_span s)) (record { code = plain_word (codes "TS(2670)") refl refl; labels = (record { start = at.0; end = at.1 }, tt) }))

  misplaced_fine : Fine (misplaced_module s)
  misplaced_fine = pick (is_in_module_kind (places s)) (nested_ambient_module_declaration s.node.span) (not_allowed_ambient_module_declaration s.node.span) (record { code = plain_word (codes "TS(2435)") refl refl; labels = (record { start = here.0; end = here.1 }, tt) }) (record { code = plain_word (codes "TS(1234)") refl refl; labels = (record { start = here.0; end = here.1 }, tt) })

  pub external_module_declaration : AllFine (check_ts_external_module_declaration s)
  external_module_declaration =
      both (row_if (not (is_module_place (is_script s) (places s))) (misplaced_module s)) (rows_of_some block_rows (child_of roles.Body s.node))
      (row (not (is_module_place (is_script s) (places s))) (misplaced_module s) misplaced_fine) (some AreShort block_rows (child_of roles.Body s.node) (child roles.Body s.node f.node) block_fine)
