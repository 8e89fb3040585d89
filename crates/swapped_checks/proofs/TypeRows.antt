-- Rows on types and namespaces, where names are others.
use Rattle.std.proofs.Common.{◌≡◌, List, [], ◌∷◌, ◌++◌, Option, Some, None, Bool, true, false, ◌&&◌, ◌||◌, not, if◌then◌else◌, refl, ap, ◌∙◌, bytes_eq, codes}
use Rattle.std.specs.Prelude.{reverse}
use Rattle.std.specs.Option.{option_and_then}
use Rattle.semantic_kinds.specs.Kinds.{same_kind}
use Rattle.semantic_kinds.specs.declared.kind.AstType.{AstType}
use Rattle.semantic_kinds.specs.declared.kind.AstType.TheVariants as kind
use Rattle.semantic_kinds.specs.declared.mark.Mark.TheVariants as mark
use Rattle.semantic_kinds.specs.declared.role.Role.{Role}
use Rattle.semantic_kinds.specs.declared.role.Role.TheVariants as role
use Rattle.semantic_tree.specs.KindGroups.{is_parentheses, is_module_declaration}
use Rattle.semantic_tree.specs.Unwrapped.{without_parentheses}
use Rattle.semantic_tree.specs.Views.{is, has_text, has_child, all_in, child_of}
use Rattle.semantic_tree.specs.declared.node.Node.{Node}
use Rattle.semantic_tree.specs.declared.swap.Setting.{Setting}
use Rattle.semantic_diagnostics.specs.Functions.{type_predicate_only_in_return_type}
use Rattle.semantic_diagnostics.specs.Types.{jsdoc_type_in_annotation, infer_declaration_only_permitted_in_extends_clause, enum_member_must_have_initializer, not_allowed_namespace_declaration, not_allowed_ambient_module_declaration, nested_ambient_module_declaration, global_scope_augmentation_should_have_declare_modifier, ts_export_assignment_cannot_be_used_with_other_exports}
use Rattle.semantic_model.proofs.form.Clauses.{kind_is}
use Rattle.check_model.specs.Assignments.{exports_otherwise_by, exports_otherwise, assignment_row, export_assignment_rows, block_rows}
use Rattle.check_model.specs.Groups.{is_module_kind, is_namespace, under_namespaces}
use Rattle.check_model.specs.Namespaces.{places, is_top, place_rows, check_ts_namespace_declaration, global_span, check_ts_global_declaration, is_module_place, is_in_module_kind, misplaced_module, check_ts_external_module_declaration}
use Rattle.check_model.specs.Search.{rows_if, row_if, first, find_last}
use Rattle.check_model.specs.Sight.{Sight}
use Rattle.check_model.specs.Surroundings.{is_script, text_under}
use Rattle.check_model.specs.Types.{unmarked, is_at_start, jsdoc_rows, check_ts_type_annotation, is_plain_value, may_return_predicate, is_predicate_path, check_ts_type_predicate, span_holds, extends_over, check_ts_infer_type, is_countable, counts_on, last_initializer, member_rows, enum_rows, check_ts_enum_declaration}
use Rattle.swapped_checks.proofs.Changed.{Change, changed_node, IsChanged, changed_at}
use Rattle.swapped_checks.proofs.Pairwise.{Each, Both, Agree, any_each, find_each, filter_each, first_each, reverse_each, some_same, flat_same, after_same}
use Rattle.swapped_checks.proofs.RenamedNodes.{kind_agrees, mark_agrees, same_kinds, same_spans, plain_text, all_each, child_both, child_agrees, whose_agrees, unwrapped_each}
use Rattle.swapped_checks.proofs.Around.{seen, own}

module _ (f : Change) where
  abbrev R : Node → Node → Type 0
  R = IsChanged f

  -- ---- returned types

  text_if : (b c : Bool) (x y z : Bool) → c ≡ b → (b ≡ true → y ≡ x) → (if c then y else z) ≡ (if b then x else z)
  text_if true true x y z e h = h refl
  text_if false false x y z e h = refl
  text_if true false x y z e h = absurd cc
  text_if false true x y z e h = absurd cc

  plain_value : (a b : Node) → R a b → is_plain_value (Some b) ≡ is_plain_value (Some a)
  plain_value _ _ (changed_at st r node) = go
    where
      a : Node
      a = node

      b : Node
      b = changed_node f st r node

      e : R a b
      e = changed_at st r node

      go : is_plain_value (Some b) ≡ is_plain_value (Some a)
      go =
          text_if (is kind.MethodDefinition a) (is kind.MethodDefinition a) (has_text (codes "method") a) (has_text (codes "method") b) (if is kind.ObjectProperty a then has_text (codes "init") b else true) refl (λ h. ap (λ u. bytes_eq u (codes "method")) (plain_text f kind.MethodDefinition refl refl a b e (kind_is a.kind kind.MethodDefinition h)))
          ∙ ap (λ w. if is kind.MethodDefinition a then has_text (codes "method") a else w) (text_if (is kind.ObjectProperty a) (is kind.ObjectProperty a) (has_text (codes "init") a) (has_text (codes "init") b) true refl (λ h. ap (λ u. bytes_eq u (codes "init")) (plain_text f kind.ObjectProperty refl refl a b e (kind_is a.kind kind.ObjectProperty h))))

  plain_both : (o p : Option Node) → Both R o p → is_plain_value p ≡ is_plain_value o
  plain_both None None e = refl
  plain_both None (Some y) e = absurd e
  plain_both (Some x) None e = absurd e
  plain_both (Some x) (Some y) e = plain_value x y e

  may_same : (k : AstType) (a b : Node) → a.kind ≡ k → R a b → (xs ys : List Node) → Each R xs ys → may_return_predicate k b ys ≡ may_return_predicate k a xs
  may_same kind.TSMethodSignature a b k e xs ys d = ap (λ u. bytes_eq u (codes "method")) (plain_text f kind.TSMethodSignature refl refl a b e k)
  may_same kind.Function a b k e xs ys d = plain_both (first xs) (first ys) (first_each R xs ys d)
  may_same _ a b k e xs ys d = refl

  predicate_path : (xs ys : List Node) → Each R xs ys → is_predicate_path ys ≡ is_predicate_path xs
  predicate_path [] [] e = refl
  predicate_path [] (y ∷ ys) e = absurd e
  predicate_path (x ∷ xs) [] e = absurd e
  predicate_path (x ∷ []) (y ∷ []) e = refl
  predicate_path (x ∷ []) (y ∷ y2 ∷ ys) e = absurd e.1
  predicate_path (x ∷ x2 ∷ xs) (y ∷ []) e = absurd e.1
  predicate_path (x ∷ x2 ∷ xs) (y ∷ y2 ∷ ys) e = λ i. kind_agrees f (λ k. same_kind k kind.TSTypeAnnotation) x y e.0 i && (ap (λ k. may_return_predicate k y2 ys) (same_kinds f x2 y2 e.1.0) ∙ may_same x2.kind x2 y2 refl e.1.0 xs ys e.1.1) i

  -- ---- enums

  counts_agree : Agree R counts_on counts_on
  counts_agree a b e = kind_agrees f is_countable (without_parentheses a) (without_parentheses b) (unwrapped_each f is_parentheses role.Expression a b e)

  child_of_both : (q : Role) (o p : Option Node) → Both R o p → Both R (option_and_then (child_of q) o) (option_and_then (child_of q) p)
  child_of_both q None None e = tt
  child_of_both q None (Some y) e = absurd e
  child_of_both q (Some x) None e = absurd e
  child_of_both q (Some x) (Some y) e = child_both f q x y e

  last_both : (xs ys : List Node) → Each R xs ys → Both R (last_initializer xs) (last_initializer ys)
  last_both xs ys e =
      child_of_both role.Initializer (find_last (has_child role.Initializer) xs) (find_last (has_child role.Initializer) ys)
      (find_each R (has_child role.Initializer) (has_child role.Initializer) (child_agrees f role.Initializer) (reverse xs) (reverse ys) (reverse_each R xs ys e))

  members_same : (us vs : List Node) (x y : Node) → Each R us vs → R x y → member_rows vs y ≡ member_rows us x
  members_same us vs x y d e = λ i. rows_if (not (child_agrees f role.Initializer x y e i))
      (some_same R (λ before. row_if (not (counts_on before)) (enum_member_must_have_initializer x.span)) (λ before. row_if (not (counts_on before)) (enum_member_must_have_initializer y.span))
      (λ a b h. λ j. row_if (not (counts_agree a b h j)) (enum_member_must_have_initializer (same_spans f x y e j))) (last_initializer us) (last_initializer vs) (last_both us vs d) i)

  enum_same : (a b : Node) → R a b → enum_rows b ≡ enum_rows a
  enum_same a b e = after_same R member_rows member_rows members_same [] [] (all_in role.Members a) (all_in role.Members b) tt (all_each f role.Members a b e)

  -- ---- lists of statements

  exports_at : (k : AstType) (a b : Node) → R a b → exports_otherwise_by k b ≡ exports_otherwise_by k a
  exports_at kind.ExportNamedDeclaration a b e = child_agrees f role.Specifiers a b e
  exports_at kind.ExportFromDeclaration a b e = child_agrees f role.Specifiers a b e
  exports_at _ a b e = refl

  exports_agree : Agree R exports_otherwise exports_otherwise
  exports_agree a b e = ap (λ k. exports_otherwise_by k b) (same_kinds f a b e) ∙ exports_at a.kind a b e

  assignment_same : (a b : Node) → R a b → assignment_row b ≡ assignment_row a
  assignment_same a b e = λ i. row_if (kind_agrees f (λ k. same_kind k kind.TSExportAssignment) a b e i) (ts_export_assignment_cannot_be_used_with_other_exports (same_spans f a b e i))

  pub assignments_same : (xs ys : List Node) → Each R xs ys → export_assignment_rows ys ≡ export_assignment_rows xs
  assignments_same xs ys e = λ i. rows_if (any_each R exports_otherwise exports_otherwise exports_agree xs ys e i) (flat_same R assignment_row assignment_row assignment_same xs ys e i)

  block_same : (a b : Node) → R a b → block_rows b ≡ block_rows a
  block_same a b e = assignments_same (all_in role.Body a) (all_in role.Body b) (all_each f role.Body a b e)

  -- ---- places

  module_place : (c : Bool) (xs ys : List Node) → Each R xs ys → is_module_place c ys ≡ is_module_place c xs
  module_place c [] [] e = refl
  module_place c [] (y ∷ ys) e = absurd e
  module_place c (x ∷ xs) [] e = absurd e
  module_place c (x ∷ []) (y ∷ []) e = kind_agrees f (λ k. same_kind k kind.Program) x y e.0
  module_place c (x ∷ []) (y ∷ y2 ∷ ys) e = absurd e.1
  module_place c (x ∷ x2 ∷ xs) (y ∷ []) e = absurd e.1
  module_place c (x ∷ x2 ∷ []) (y ∷ y2 ∷ []) e = kind_agrees f (λ k. same_kind k kind.Program) x y e.0
  module_place c (x ∷ x2 ∷ []) (y ∷ y2 ∷ y3 ∷ ys) e = absurd e.1.1
  module_place c (x ∷ x2 ∷ x3 ∷ xs) (y ∷ y2 ∷ []) e = absurd e.1.1
  module_place c (x ∷ x2 ∷ x3 ∷ xs) (y ∷ y2 ∷ y3 ∷ ys) e = λ i.
      kind_agrees f (λ k. same_kind k kind.Program) x y e.0 i || (c && (kind_agrees f (λ k. same_kind k kind.TSModuleBlock) x y e.0 i && (kind_agrees f (λ k. same_kind k kind.TSExternalModuleDeclaration) x2 y2 e.1.0 i && kind_agrees f (λ k. same_kind k kind.Program) x3 y3 e.1.1.0 i)))

  module_kinds : (xs ys : List Node) → Each R xs ys → is_in_module_kind ys ≡ is_in_module_kind xs
  module_kinds [] [] e = refl
  module_kinds [] (y ∷ ys) e = absurd e
  module_kinds (x ∷ xs) [] e = absurd e
  module_kinds (x ∷ []) (y ∷ []) e = kind_agrees f is_module_kind x y e.0
  module_kinds (x ∷ []) (y ∷ y2 ∷ ys) e = absurd e.1
  module_kinds (x ∷ x2 ∷ xs) (y ∷ []) e = absurd e.1
  module_kinds (x ∷ x2 ∷ xs) (y ∷ y2 ∷ ys) e = λ i. kind_agrees f is_module_kind x y e.0 i || (kind_agrees f (λ k. same_kind k kind.TSModuleBlock) x y e.0 i && kind_agrees f is_module_kind x2 y2 e.1.0 i)

module _ (f : Change) (s : Sight) (st : Setting) (r : Role) (path : List Node) (above : Each (IsChanged f) s.path path) where
  abbrev t : Sight
  t = seen f s st r path

  abbrev mine : IsChanged f s.node t.node
  mine = own f s st r path above

  types_by : (a b : Node) → IsChanged f a b → jsdoc_rows t b.kind b ≡ jsdoc_rows s a.kind a
  types_by _ _ (changed_at q p node) = by node.kind
    where
      start : is_at_start (changed_node f q p node) ≡ is_at_start node
      start = ap not (f.kept node mark.Postfix refl)

      by : (k : AstType) → jsdoc_rows t k (changed_node f q p node) ≡ jsdoc_rows s k node
      by kind.JSDocNullableType = ap (λ c. jsdoc_type_in_annotation 63 c node.span (text_under s (unmarked c node.span) ++ codes " | null | undefined") ∷ []) start
      by kind.JSDocNonNullableType = ap (λ c. jsdoc_type_in_annotation 33 c node.span (text_under s (unmarked c node.span)) ∷ []) start
      by _ = refl

  pub annotations_same : check_ts_type_annotation t ≡ check_ts_type_annotation s
  annotations_same = some_same (IsChanged f) (λ n. jsdoc_rows s n.kind n) (λ n. jsdoc_rows t n.kind n) types_by (child_of role.Element s.node) (child_of role.Element t.node) (child_both f role.Element s.node t.node mine)

  pub predicates_same : check_ts_type_predicate t ≡ check_ts_type_predicate s
  predicates_same = ap (λ b. row_if (not b) (type_predicate_only_in_return_type s.node.span)) (predicate_path f s.path path above)

  extends_agree : Agree (IsChanged f) (extends_over s.node.span) (extends_over s.node.span)
  extends_agree a b e = λ i. kind_agrees f (λ k. same_kind k kind.TSConditionalType) a b e i && whose_agrees f role.Extends (λ n. span_holds n.span s.node.span) (λ n. span_holds n.span s.node.span) (λ x y h. ap (λ sp. span_holds sp s.node.span) (same_spans f x y h)) a b e i

  pub infers_same : check_ts_infer_type t ≡ check_ts_infer_type s
  infers_same = ap (λ b. row_if (not b) (infer_declaration_only_permitted_in_extends_clause s.node.span)) (any_each (IsChanged f) (extends_over s.node.span) (extends_over s.node.span) extends_agree s.path path above)

  pub enums_same : check_ts_enum_declaration t ≡ check_ts_enum_declaration s
  enums_same = some_same (IsChanged f) enum_rows enum_rows (enum_same f) (child_of role.Body s.node) (child_of role.Body t.node) (child_both f role.Body s.node t.node mine)

  -- ---- namespaces

  places_each : Each (IsChanged f) (places s) (places t)
  places_each = filter_each (IsChanged f) (λ n. not (is_module_declaration n.kind)) (λ n. not (is_module_declaration n.kind)) (kind_agrees f (λ k. not (is_module_declaration k))) s.path path above

  place_same : place_rows t ≡ place_rows s
  place_same =
      some_same (IsChanged f) (λ n. row_if (not (is_top n)) (not_allowed_namespace_declaration s.node.span)) (λ n. row_if (not (is_top n)) (not_allowed_namespace_declaration s.node.span))
      (λ x y e. ap (λ b. row_if (not b) (not_allowed_namespace_declaration s.node.span)) (kind_agrees f (λ k. same_kind k kind.Program || (same_kind k kind.TSModuleBlock || is_module_kind k)) x y e))
      (first (places s)) (first (places t)) (first_each (IsChanged f) (places s) (places t) places_each)

  pub namespaces_same : check_ts_namespace_declaration t ≡ check_ts_namespace_declaration s
  namespaces_same = λ i. place_same i ++ block_same f (under_namespaces s.node) (under_namespaces t.node) (unwrapped_each f is_namespace role.Body s.node t.node mine) i

  pub globals_same : check_ts_global_declaration t ≡ check_ts_global_declaration s
  globals_same = λ i. place_same i ++ row_if (not (mark_agrees f mark.Declare refl s.node t.node mine i || s.is_ambient)) (global_scope_augmentation_should_have_declare_modifier (global_span s))

  misplaced_same : misplaced_module t ≡ misplaced_module s
  misplaced_same = ap (λ b. if b then nested_ambient_module_declaration s.node.span else not_allowed_ambient_module_declaration s.node.span) (module_kinds f (places s) (places t) places_each)

  pub modules_same : check_ts_external_module_declaration t ≡ check_ts_external_module_declaration s
  modules_same = λ i. row_if (not (module_place f (is_script s) (places s) (places t) places_each i)) (misplaced_same i) ++ some_same (IsChanged f) block_rows block_rows (block_same f) (child_of role.Body s.node) (child_of role.Body t.node) (child_both f role.Body s.node t.node mine) i
