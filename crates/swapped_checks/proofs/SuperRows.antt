-- Rows on `super`, where names are others.
use Rattle.std.proofs.Common.{◌≡◌, ℕ, List, [], ◌∷◌, Option, Some, None, Bool, true, false, ◌||◌, ◌&&◌, ◌==◌, not, if◌then◌else◌, refl, sym, subst, ap, ◌∙◌, bytes_eq, codes}
use Rattle.std.specs.Prelude.{option_map, is_some}
use Rattle.std.specs.List.{find}
use Rattle.std.specs.Option.{option_and_then, unwrap_or}
use Rattle.semantic_kinds.specs.Kinds.{same_kind}
use Rattle.semantic_kinds.specs.MarkSets.{has_mark}
use Rattle.semantic_kinds.specs.declared.kind.AstType.TheVariants as kind
use Rattle.semantic_kinds.specs.declared.mark.Mark.TheVariants as mark
use Rattle.semantic_kinds.specs.declared.role.Role.{Role}
use Rattle.semantic_kinds.specs.declared.role.Role.TheVariants as role
use Rattle.semantic_tree.specs.Views.{is, has_text, has_child, is_child_in}
use Rattle.semantic_tree.specs.declared.node.Node.{Node}
use Rattle.semantic_tree.specs.declared.swap.Setting.{Setting}
use Rattle.semantic_diagnostics.specs.Functions.{unexpected_super_call, super_without_derived_class}
use Rattle.check_model.specs.Search.{first, row_if, rows_of_some, neighbours, onward}
use Rattle.check_model.specs.Sight.{Sight, SeenScope, SeenClass}
use Rattle.check_model.specs.Super.{Verdict, allowed, allowed_unless_call, allowed_in_derived, refused, if_call, is_call_node, call_around, is_call, is_scope_of, is_element, links_between, leaves_value, is_object_method, is_method, function_verdict, scope_function_verdict, decides, kept_after, search_from, refused_row, verdict_rows, check_super}
use Rattle.check_model.specs.Surroundings.{nodes_outward, links, node_by_id}
use Rattle.swapped_checks.proofs.Changed.{Change, IsChanged}
use Rattle.swapped_checks.proofs.Pairwise.{Each, Both, OfPairs, Agree, find_each, first_each, onward_each, while_each, links_each, passes_both, some_same}
use Rattle.swapped_checks.proofs.RenamedNodes.{kind_agrees, mark_agrees, same_ids, same_spans, guarded, child_agrees, inner_agrees}
use Rattle.swapped_checks.proofs.Around.{seen, own, links_both, nodes_both}

module _ (f : Change) (s : Sight) (st : Setting) (r : Role) (path : List Node) (above : Each (IsChanged f) s.path path) where
  abbrev t : Sight
  t = seen f s st r path

  abbrev R : Node → Node → Type 0
  R = IsChanged f

  abbrev P : Node × Node → Node × Node → Type 0
  P = OfPairs R

  -- ---- the call

  if_both : (o p : Option Node) → Both R o p → Both R (option_and_then if_call o) (option_and_then if_call p)
  if_both None None e = tt
  if_both None (Some y) e = absurd e
  if_both (Some x) None e = absurd e
  if_both (Some x) (Some y) e = subst (λ c. Both R (if_call x) (if c then Some y else None)) (sym (kind_agrees f (λ k. same_kind k kind.CallExpression || same_kind k kind.NewExpression) x y e)) (go (is_call_node x))
    where
      go : (c : Bool) → Both R (if c then Some x else None) (if c then Some y else None)
      go true = e
      go false = tt

  call_both : Both R (call_around s) (call_around t)
  call_both = if_both (first s.path) (first path) (first_each R s.path path above)

  some_both : (o p : Option Node) → Both R o p → is_some p ≡ is_some o
  some_both None None e = refl
  some_both None (Some y) e = absurd e
  some_both (Some x) None e = absurd e
  some_both (Some x) (Some y) e = refl

  call_same : is_call t ≡ is_call s
  call_same = some_both (call_around s) (call_around t) call_both

  -- ---- verdicts

  leaves_same : (from class : ℕ) → leaves_value t from class ≡ leaves_value s from class
  leaves_same from class =
      passes_both P (λ p. is_child_in role.Value p.1 p.0 || is_child_in role.Annotation p.1 p.0) (λ p. is_child_in role.Value p.1 p.0 || is_child_in role.Annotation p.1 p.0)
      (λ p q e. λ i. inner_agrees f role.Value p q e i || inner_agrees f role.Annotation p q e i)
      (find (λ p. is_element p.1.kind) (links_between s from class)) (find (λ p. is_element p.1.kind) (links_between t from class))
      (find_each P (λ p. is_element p.1.kind) (λ p. is_element p.1.kind) (λ p q e. kind_agrees f is_element p.1 q.1 e.1) (links_between s from class) (links_between t from class)
      (while_each P (λ p. not (p.1.node_id == class)) (λ p. not (p.1.node_id == class)) (λ p q e. λ i. not (same_ids f p.1 q.1 e.1 i == class))
      (neighbours (onward (λ n. n.node_id == from) (nodes_outward s))) (neighbours (onward (λ n. n.node_id == from) (nodes_outward t)))
      (links_each R (onward (λ n. n.node_id == from) (nodes_outward s)) (onward (λ n. n.node_id == from) (nodes_outward t))
      (onward_each R (λ n. n.node_id == from) (λ n. n.node_id == from) (λ x y e. λ i. same_ids f x y e i == from) (nodes_outward s) (nodes_outward t) (own f s st r path above, above)))))

  object_agrees : Agree R is_object_method is_object_method
  object_agrees a b e =
      guarded f kind.ObjectProperty (λ u ms. has_mark ms mark.Method || (bytes_eq u (codes "get") || bytes_eq u (codes "set"))) refl refl a b e
      (λ u h. ap (λ c. c || (bytes_eq u (codes "get") || bytes_eq u (codes "set"))) (mark_agrees f mark.Method refl a b e))

  -- a constructor, where it is a method
  constructed : Agree R (λ n. is kind.MethodDefinition n && has_text (codes "constructor") n) (λ n. is kind.MethodDefinition n && has_text (codes "constructor") n)
  constructed a b e = guarded f kind.MethodDefinition (λ u ms. bytes_eq u (codes "constructor")) refl refl a b e (λ u h. refl)

  method_verdict : Bool → Bool → Bool → Verdict
  method_verdict m k c = if m then (if not k then allowed else (if c then allowed_in_derived else refused)) else refused

  method_same : (a b : Node) → R a b → method_verdict (is_method b) (is_call t) (has_text (codes "constructor") b) ≡ method_verdict (is_method a) (is_call s) (has_text (codes "constructor") a)
  unfolding method_verdict
  method_same a b e = go (is_method a) (is_method b) (kind_agrees f (λ k. same_kind k kind.MethodDefinition) a b e) (constructed a b e)
    where
      go : (m n : Bool) → n ≡ m → (n && has_text (codes "constructor") b) ≡ (m && has_text (codes "constructor") a) → method_verdict n (is_call t) (has_text (codes "constructor") b) ≡ method_verdict m (is_call s) (has_text (codes "constructor") a)
      go true true h i = λ j. method_verdict true (call_same j) (i j)
      go false false h i = refl
      go true false h i = absurd cc
      go false true h i = absurd cc

  verdict_same : (p q : Node × Node) → P p q → function_verdict t q ≡ function_verdict s p
  unfolding method_verdict
  verdict_same p q e = λ i. if inner_agrees f role.Value p q e i then (if object_agrees p.1 q.1 e.1 i then allowed_unless_call else method_same p.1 q.1 e.1 i) else refused

  verdict_both : (o p : Option (Node × Node)) → Both P o p → unwrap_or (option_map (function_verdict t) p) refused ≡ unwrap_or (option_map (function_verdict s) o) refused
  verdict_both None None e = refl
  verdict_both None (Some y) e = absurd e
  verdict_both (Some x) None e = absurd e
  verdict_both (Some x) (Some y) e = verdict_same x y e

  scope_same : (one : SeenScope) → scope_function_verdict t one ≡ scope_function_verdict s one
  scope_same one =
      verdict_both (find (λ p. p.0.node_id == one.opener) (links s)) (find (λ p. p.0.node_id == one.opener) (links t))
      (find_each P (λ p. p.0.node_id == one.opener) (λ p. p.0.node_id == one.opener) (λ p q e. λ i. same_ids f p.0 q.0 e.0 i == one.opener) (links s) (links t) (links_both f s st r path above))

  decides_same : (kept : List SeenClass) (from : ℕ) (one : SeenScope) → decides t kept from one ≡ decides s kept from one
  decides_same kept from one = λ i.
      if is_scope_of kept one then (if leaves_same from one.opener i then Some allowed_unless_call else None)
      else (if one.is_static_block then Some allowed_unless_call
      else (if not one.is_function || one.is_arrow then None
      else Some (scope_same one i)))

  search_same : (kept : List SeenClass) (from : ℕ) (scopes : List SeenScope) → search_from t kept from scopes ≡ search_from s kept from scopes
  search_same kept from [] = refl
  search_same kept from (one ∷ rest) = λ i. unwrap_or (option_map (λ verdict. (verdict, kept)) (decides_same kept from one i)) (search_same (kept_after kept one) one.opener rest i)

  -- ---- rows

  refused_same : (o p : Option Node) → Both R o p → refused_row t p ≡ refused_row s o
  refused_same None None e = refl
  refused_same None (Some y) e = absurd e
  refused_same (Some x) None e = absurd e
  refused_same (Some x) (Some y) e = ap unexpected_super_call (same_spans f x y e)

  derived_by : (o : Option SeenClass) → rows_of_some (λ class. row_if (not (has_child role.Heritage class)) (super_without_derived_class s.node.span class.span)) (option_and_then (λ class. node_by_id t class.node) o) ≡ rows_of_some (λ class. row_if (not (has_child role.Heritage class)) (super_without_derived_class s.node.span class.span)) (option_and_then (λ class. node_by_id s class.node) o)
  derived_by None = refl
  derived_by (Some class) =
      some_same R (λ c. row_if (not (has_child role.Heritage c)) (super_without_derived_class s.node.span c.span)) (λ c. row_if (not (has_child role.Heritage c)) (super_without_derived_class s.node.span c.span))
      (λ x y e. λ i. row_if (not (child_agrees f role.Heritage x y e i)) (super_without_derived_class s.node.span (same_spans f x y e i)))
      (node_by_id s class.node) (node_by_id t class.node) (nodes_both f s st r path above class.node)

  rows_same : (v : Verdict) (kept : List SeenClass) → verdict_rows t (v, kept) ≡ verdict_rows s (v, kept)
  rows_same allowed kept = refl
  rows_same allowed_unless_call kept = λ i. row_if (call_same i) (refused_same (call_around s) (call_around t) call_both i)
  rows_same allowed_in_derived kept = derived_by (first kept)
  rows_same refused kept = λ i. refused_same (call_around s) (call_around t) call_both i ∷ []

  pub super_same : check_super t ≡ check_super s
  super_same =
      let found : Verdict × List SeenClass = search_from s s.classes s.node.node_id s.scopes in
      ap (verdict_rows t) (search_same s.classes s.node.node_id s.scopes) ∙ rows_same found.0 found.1
