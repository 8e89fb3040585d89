-- Rows on literals, objects and operators, where names are others.
use Rattle.std.proofs.Common.{◌≡◌, List, [], ◌∷◌, ◌++◌, Option, Some, None, Bool, true, false, ◌||◌, ◌&&◌, ◌==◌, not, if◌then◌else◌, inl, inr, ◌⊎◌, length, refl, sym, subst, ap, ◌∙◌, bytes_eq, codes}
use Rattle.std.specs.Prelude.{filter_map}
use Rattle.std.specs.List.{find, cons_option}
use Rattle.std.specs.Option.{option_and_then}
use Rattle.std.specs.Str.{encode_utf8_all}
use Rattle.std.proofs.lemmas.Bool.{cases_Bool, and_from}
use Rattle.semantic_kinds.specs.Kinds.{same_kind}
use Rattle.semantic_kinds.specs.MarkSets.{has_mark}
use Rattle.semantic_kinds.specs.declared.kind.AstType.{AstType}
use Rattle.semantic_kinds.specs.declared.kind.AstType.TheVariants as kind
use Rattle.semantic_kinds.specs.declared.mark.Mark.TheVariants as mark
use Rattle.semantic_kinds.specs.declared.role.Role.{Role}
use Rattle.semantic_kinds.specs.declared.role.Role.TheVariants as role
use Rattle.semantic_syntax.specs.Tables.{Name}
use Rattle.semantic_tree.specs.KeyNames.{whole_template, static_name_by}
use Rattle.semantic_tree.specs.KindGroups.{is_wrapper}
use Rattle.semantic_tree.specs.Unwrapped.{inner_expression}
use Rattle.semantic_tree.specs.BoundNames.{is_simple_parameter_list}
use Rattle.semantic_tree.specs.Views.{is, holds, whose, all_in, child_of}
use Rattle.semantic_tree.specs.declared.node.Node.{Node}
use Rattle.semantic_tree.specs.declared.swap.Setting.{Setting}
use Rattle.semantic_diagnostics.specs.Names.{redeclaration, class_static_block_await, legacy_octal, leading_zero_decimal, illegal_use_strict}
use Rattle.semantic_diagnostics.specs.Functions.{delete_of_unqualified, delete_private_field, await_or_yield_in_parameter}
use Rattle.check_model.specs.Expressions.{is_written_out, is_proto, named_proto, proto_key, proto_rows, check_object_expression, chained_rows, deleted_rows, operand_rows, check_unary_expression, enters_parameter, is_in_parameter, check_await_expression, check_yield_expression}
use Rattle.check_model.specs.Groups.{is_function}
use Rattle.check_model.specs.Literals.{has_leading_zero, check_number_literal, escape_rows, first_bad_escape, check_string_literal, opener, has_complex_parameters, check_directive}
use Rattle.check_model.specs.Search.{rows_if, row_if, rows_of_some, passes, first, neighbours}
use Rattle.check_model.specs.Sight.{Sight, SeenScope}
use Rattle.check_model.specs.Surroundings.{links, is_strict, is_in_function, is_in_static_block, first_bytes, bytes_at}
use Rattle.swapped_checks.specs.RuleWords.{KeepsRuleWords}
use Rattle.swapped_checks.proofs.Changed.{Change, IsChanged}
use Rattle.swapped_checks.proofs.Pairwise.{Each, Both, OfPairs, Agree, find_each, links_each, passes_both, some_same, flat_same}
use Rattle.swapped_checks.proofs.RenamedNodes.{kind_agrees, same_kinds, same_spans, mark_agrees, short_agrees, guarded, word_agrees, all_each, child_both, whose_agrees, unwrapped_each, simple_agrees}
use Rattle.swapped_checks.proofs.Around.{seen, own, own_text, links_both, nodes_both, under}

module _ (f : Change) (keeps : KeepsRuleWords f.names) where
  abbrev R : Node → Node → Type 0
  R = IsChanged f

  abbrev proto : Name → Bool
  proto name = bytes_eq name (codes "__proto__")

  pieces_same : (xs ys us vs : List Node) → Each R xs ys → Each R us vs → passes proto (whole_template ys vs) ≡ passes proto (whole_template xs us)
  pieces_same [] [] [] [] d e = refl
  pieces_same (x ∷ xs) (y ∷ ys) [] [] d e = word_agrees f keeps (codes "__proto__") refl x y d.0
  pieces_same [] (y ∷ ys) us vs d e = absurd d
  pieces_same (x ∷ xs) [] us vs d e = absurd d
  pieces_same xs ys [] (v ∷ vs) d e = absurd e
  pieces_same xs ys (u ∷ us) [] d e = absurd e
  pieces_same xs ys (u ∷ us) (v ∷ vs) d e = refl

  proto_by : (k : AstType) (a b : Node) → R a b → passes proto (static_name_by k b) ≡ passes proto (static_name_by k a)
  proto_by kind.IdentifierName a b e = word_agrees f keeps (codes "__proto__") refl a b e
  proto_by kind.StringLiteral a b e = word_agrees f keeps (codes "__proto__") refl a b e
  proto_by kind.NumericLiteral a b e = word_agrees f keeps (codes "__proto__") refl a b e
  proto_by kind.BigIntLiteral a b e = word_agrees f keeps (codes "__proto__") refl a b e
  proto_by kind.RegExpLiteral a b e = word_agrees f keeps (codes "__proto__") refl a b e
  proto_by kind.TemplateLiteral a b e = pieces_same (all_in role.Quasis a) (all_in role.Quasis b) (all_in role.Expressions a) (all_in role.Expressions b) (all_each f role.Quasis a b e) (all_each f role.Expressions a b e)
  proto_by _ a b e = refl

  proto_agrees : Agree R is_proto is_proto
  proto_agrees a b e = ap (λ k. passes proto (static_name_by k b)) (same_kinds f a b e) ∙ proto_by a.kind a b e

  named_both : (o p : Option Node) → Both R o p → Both R (option_and_then named_proto o) (option_and_then named_proto p)
  named_both None None e = tt
  named_both None (Some y) e = absurd e
  named_both (Some x) None e = absurd e
  named_both (Some x) (Some y) e = subst (λ c. Both R (named_proto x) (if c then Some y else None)) (sym (proto_agrees x y e)) (go (is_proto x))
    where
      go : (c : Bool) → Both R (if c then Some x else None) (if c then Some y else None)
      go true = e
      go false = tt

  -- a key that is named otherwise
  none_named : (o : Option Node) → holds is_proto o ≡ false → option_and_then named_proto o ≡ None
  none_named None h = refl
  none_named (Some x) h = rw h refl

  no_key : (c : Bool) (o : Option Node) → o ≡ None → (if c then o else None) ≡ None
  no_key true o h = h
  no_key false o h = refl

  no_proto : (a : Node) → whose role.Key is_proto a ≡ false → proto_key a ≡ None
  no_proto a h = no_key (is_written_out a) (option_and_then named_proto (child_of role.Key a)) (none_named (child_of role.Key a) h)

  -- where it is named so, both are in short or neither is
  written_agrees : (a b : Node) → R a b → whose role.Key is_proto a ≡ true → is_written_out b ≡ is_written_out a
  written_agrees a b e h =
      guarded f kind.ObjectProperty (λ u ms. bytes_eq u (codes "init") && not (has_mark ms mark.Method || (has_mark ms mark.Shorthand || has_mark ms mark.Computed))) refl refl a b e
      (λ u k. λ i. bytes_eq u (codes "init") && not (mark_agrees f mark.Method refl a b e i || (short_agrees f a b e (and_from (is kind.ObjectProperty a) (whose role.Key is_proto a) k h) i || mark_agrees f mark.Computed refl a b e i)))

  key_both : (a b : Node) → R a b → Both R (proto_key a) (proto_key b)
  key_both a b e = by (cases_Bool (whose role.Key is_proto a))
    where
      go : (c : Bool) → Both R (option_and_then named_proto (child_of role.Key a)) (option_and_then named_proto (child_of role.Key b)) → Both R (if c then option_and_then named_proto (child_of role.Key a) else None) (if c then option_and_then named_proto (child_of role.Key b) else None)
      go true h = h
      go false h = tt

      by : (whose role.Key is_proto a ≡ true) ⊎ (whose role.Key is_proto a ≡ false) → Both R (proto_key a) (proto_key b)
      by (inl h) = subst (λ c. Both R (proto_key a) (if c then option_and_then named_proto (child_of role.Key b) else None)) (sym (written_agrees a b e h)) (go (is_written_out a) (named_both (child_of role.Key a) (child_of role.Key b) (child_both f role.Key a b e)))
      by (inr h) =
          subst (λ o. Both R o (proto_key b)) (sym (no_proto a h))
          (subst (λ o. Both R None o) (sym (no_proto b (whose_agrees f role.Key is_proto is_proto proto_agrees a b e ∙ h))) tt)

  cons_each : (o p : Option Node) (xs ys : List Node) → Both R o p → Each R xs ys → Each R (cons_option o xs) (cons_option p ys)
  cons_each None None xs ys d e = e
  cons_each None (Some y) xs ys d e = absurd d
  cons_each (Some x) None xs ys d e = absurd d
  cons_each (Some x) (Some y) xs ys d e = (d, e)

  keys_each : (xs ys : List Node) → Each R xs ys → Each R (filter_map proto_key xs) (filter_map proto_key ys)
  keys_each [] [] e = tt
  keys_each [] (y ∷ ys) e = absurd e
  keys_each (x ∷ xs) [] e = absurd e
  keys_each (x ∷ xs) (y ∷ ys) e = cons_each (proto_key x) (proto_key y) (filter_map proto_key xs) (filter_map proto_key ys) (key_both x y e.0) (keys_each xs ys e.1)

module _ (f : Change) (s : Sight) (st : Setting) (r : Role) (path : List Node) (above : Each (IsChanged f) s.path path) where
  abbrev t : Sight
  t = seen f s st r path

  abbrev mine : IsChanged f s.node t.node
  mine = own f s st r path above

  pub objects_same : KeepsRuleWords f.names → check_object_expression t ≡ check_object_expression s
  objects_same keeps =
      flat_same (OfPairs (IsChanged f)) proto_rows proto_rows (λ p q e. λ i. redeclaration (codes "__proto__") (same_spans f p.0 q.0 e.0 i) (same_spans f p.1 q.1 e.1 i) ∷ [])
      (neighbours (filter_map proto_key (all_in role.Properties s.node))) (neighbours (filter_map proto_key (all_in role.Properties t.node)))
      (links_each (IsChanged f) (filter_map proto_key (all_in role.Properties s.node)) (filter_map proto_key (all_in role.Properties t.node)) (keys_each f keeps (all_in role.Properties s.node) (all_in role.Properties t.node) (all_each f role.Properties s.node t.node mine)))

  -- ---- literals

  pub numbers_same : s.node.kind ≡ kind.NumericLiteral → check_number_literal t ≡ check_number_literal s
  numbers_same k = λ i. rows_if (is_strict s && has_leading_zero (encode_utf8_all (own_text f s st r path above kind.NumericLiteral refl refl k i)))
      (row_if (mark_agrees f mark.Octal refl s.node t.node mine i) (legacy_octal s.node.span) ++ row_if (mark_agrees f mark.Decimal refl s.node t.node mine i || mark_agrees f mark.Float refl s.node t.node mine i) (leading_zero_decimal s.node.span))

  pub strings_same : t.node.text ≡ s.node.text → check_string_literal t ≡ check_string_literal s
  strings_same k = λ i. rows_if (is_strict s && (not (under f s st r path above kind.JSXAttribute i) && not (length (bytes_at s s.node.span) == length (encode_utf8_all (k i))))) (rows_of_some (escape_rows s.node.span) (first_bad_escape (bytes_at s s.node.span)))

  opener_both : (o : Option SeenScope) → Both (IsChanged f) (opener s o) (opener t o)
  opener_both None = tt
  opener_both (Some one) = nodes_both f s st r path above one.opener

  complex_same : has_complex_parameters t ≡ has_complex_parameters s
  complex_same =
      passes_both (IsChanged f) (whose role.Params (λ n. not (is_simple_parameter_list n))) (whose role.Params (λ n. not (is_simple_parameter_list n)))
      (whose_agrees f role.Params (λ n. not (is_simple_parameter_list n)) (λ n. not (is_simple_parameter_list n)) (λ x y e. ap not (simple_agrees f x y e)))
      (opener s (first s.scopes)) (opener t (first s.scopes)) (opener_both (first s.scopes))

  pub directives_same : s.node.kind ≡ kind.Directive → check_directive t ≡ check_directive s
  directives_same k = λ i. row_if (bytes_eq (own_text f s st r path above kind.Directive refl refl k i) (codes "use strict") && (is_in_function s && complex_same i)) (illegal_use_strict s.node.span)

  -- ---- operators

  chained_same : (x y : Node) → IsChanged f x y → chained_rows y ≡ chained_rows x
  chained_same x y e = λ i. rows_if (kind_agrees f (λ k. same_kind k kind.PrivateFieldExpression) x y e i)
      (some_same (IsChanged f) (λ n. delete_private_field n.span ∷ []) (λ n. delete_private_field n.span ∷ []) (λ a b h. λ j. delete_private_field (same_spans f a b h j) ∷ []) (child_of role.Field x) (child_of role.Field y) (child_both f role.Field x y e) i)

  deleted_by : (k : AstType) (a b : Node) → IsChanged f a b → deleted_rows t k b ≡ deleted_rows s k a
  deleted_by kind.IdentifierReference a b e = ap (λ sp. row_if (is_strict s) (delete_of_unqualified sp)) (same_spans f a b e)
  deleted_by kind.PrivateFieldExpression a b e = ap (λ sp. delete_private_field sp ∷ []) (same_spans f a b e)
  deleted_by kind.ChainExpression a b e = some_same (IsChanged f) chained_rows chained_rows chained_same (child_of role.Expression a) (child_of role.Expression b) (child_both f role.Expression a b e)
  deleted_by _ a b e = refl

  operands_same : (a b : Node) → IsChanged f a b → operand_rows t (inner_expression b) ≡ operand_rows s (inner_expression a)
  operands_same a b e =
      let inner : IsChanged f (inner_expression a) (inner_expression b) = unwrapped_each f is_wrapper role.Expression a b e in
      ap (λ k. deleted_rows t k (inner_expression b)) (same_kinds f (inner_expression a) (inner_expression b) inner) ∙ deleted_by (inner_expression a).kind (inner_expression a) (inner_expression b) inner

  pub unary_same : s.node.kind ≡ kind.UnaryExpression → check_unary_expression t ≡ check_unary_expression s
  unary_same k = λ i. rows_if (bytes_eq (own_text f s st r path above kind.UnaryExpression refl refl k i) (codes "delete"))
      (some_same (IsChanged f) (λ n. operand_rows s (inner_expression n)) (λ n. operand_rows t (inner_expression n)) operands_same (child_of role.Argument s.node) (child_of role.Argument t.node) (child_both f role.Argument s.node t.node mine) i)

  enters_agree : Agree (OfPairs (IsChanged f)) enters_parameter enters_parameter
  enters_agree p q e = λ i. kind_agrees f (λ k. same_kind k kind.FormalParameter) p.1 q.1 e.1 i || (kind_agrees f (λ k. same_kind k kind.BindingRestElement) p.0 q.0 e.0 i && kind_agrees f (λ k. same_kind k kind.FormalParameterRest) p.1 q.1 e.1 i)

  parameter_same : is_in_parameter t ≡ is_in_parameter s
  parameter_same =
      passes_both (OfPairs (IsChanged f)) enters_parameter enters_parameter enters_agree
      (find (λ p. enters_parameter p || is_function p.1.kind) (links s)) (find (λ p. enters_parameter p || is_function p.1.kind) (links t))
      (find_each (OfPairs (IsChanged f)) (λ p. enters_parameter p || is_function p.1.kind) (λ p. enters_parameter p || is_function p.1.kind) (λ p q e. λ i. enters_agree p q e i || kind_agrees f is_function p.1 q.1 e.1 i) (links s) (links t) (links_both f s st r path above))

  pub awaits_same : check_await_expression t ≡ check_await_expression s
  awaits_same = ap (λ b. row_if b (await_or_yield_in_parameter (codes "await") s.node.span) ++ row_if (is_in_static_block s) (class_static_block_await (first_bytes 5 s.node.span))) parameter_same

  pub yields_same : check_yield_expression t ≡ check_yield_expression s
  yields_same = ap (λ b. row_if b (await_or_yield_in_parameter (codes "yield") s.node.span)) parameter_same
