-- Rows on methods and signatures, where names are others.
use Rattle.std.proofs.Common.{◌≡◌, List, [], ◌∷◌, ◌++◌, true, ◌&&◌, ◌||◌, not, refl, sym, subst, ◌∙◌, inl, inr, map, bytes_eq, codes, length}
use Rattle.std.specs.Prelude.{reverse, nat_lt}
use Rattle.semantic_syntax.proofs.Truth.{and_first}
use Rattle.semantic_kinds.specs.Kinds.{same_kind}
use Rattle.semantic_kinds.specs.declared.kind.AstType.TheVariants as kind
use Rattle.semantic_kinds.specs.declared.mark.Mark.TheVariants as mark
use Rattle.semantic_kinds.specs.declared.role.Role.{Role}
use Rattle.semantic_kinds.specs.declared.role.Role.TheVariants as role
use Rattle.semantic_syntax.specs.Tables.{Name}
use Rattle.semantic_tree.specs.BoundNames.{bound_names}
use Rattle.semantic_tree.specs.Views.{has_text, all_in, child_of}
use Rattle.semantic_tree.specs.declared.node.Node.{Node}
use Rattle.semantic_tree.specs.declared.swap.Setting.{Setting}
use Rattle.semantic_diagnostics.specs.Names.{redeclaration}
use Rattle.semantic_diagnostics.specs.Types.{parameter_property_only_in_constructor_impl, accessor_without_body}
use Rattle.check_model.specs.Methods.{is_bodiless_value, is_parameter_property, parameter_rows, items_of, bodiless_rows, check_method_definition, repeated_rows, check_formal_parameters}
use Rattle.check_model.specs.Search.{rows_if, row_if, each_after, find_last}
use Rattle.check_model.specs.Sight.{Sight}
use Rattle.swapped_checks.specs.RuleWords.{KeepsRuleWords}
use Rattle.semantic_model.specs.Entries.{Among}
use Rattle.swapped_checks.specs.SwappedSight.{is_signature_list, KeepsParameters}
use Rattle.swapped_checks.specs.SwappedRows.{AreToldAgain, redeclared_by_name}
use Rattle.swapped_checks.proofs.Changed.{Change, IsChanged}
use Rattle.swapped_checks.proofs.Pairwise.{Each, Agree, find_each, reverse_each, length_each, some_same, some_rows, flat_same, flat_each, told_where, after_rows}
use Rattle.swapped_checks.proofs.RenamedNodes.{IsBound, mark_agrees, same_spans, word_agrees, all_each, child_both, bound_each, bound_text}
use Rattle.swapped_checks.proofs.Around.{seen, own, own_text}

module _ (f : Change) (keeps : KeepsRuleWords f.names) (s : Sight) (st : Setting) (r : Role) (path : List Node) (above : Each (IsChanged f) s.path path) where
  abbrev t : Sight
  t = seen f s st r path

  abbrev R : Node → Node → Type 0
  R = IsChanged f

  abbrev mine : IsChanged f s.node t.node
  mine = own f s st r path above

  -- ---- methods

  property_agrees : Agree R is_parameter_property is_parameter_property
  property_agrees a b e = λ i. mark_agrees f mark.Public refl a b e i || (mark_agrees f mark.Private refl a b e i || (mark_agrees f mark.Protected refl a b e i || (mark_agrees f mark.Readonly refl a b e i || mark_agrees f mark.Override refl a b e i)))

  parameter_same : (a b : Node) → R a b → parameter_rows b ≡ parameter_rows a
  parameter_same a b e = λ i. row_if (property_agrees a b e i) (parameter_property_only_in_constructor_impl (same_spans f a b e i))

  items_each : (a b : Node) → R a b → Each R (items_of a) (items_of b)
  items_each a b e = flat_each R (all_in role.Items) (all_in role.Items) (all_each f role.Items) (all_in role.Params a) (all_in role.Params b) (all_each f role.Params a b e)

  bodiless_same : s.node.kind ≡ kind.MethodDefinition → (a b : Node) → R a b → bodiless_rows t b ≡ bodiless_rows s a
  bodiless_same k a b e = λ i.
      rows_if (bytes_eq (own_text f s st r path above kind.MethodDefinition refl refl k i) (codes "constructor")) (flat_same R parameter_rows parameter_rows parameter_same (items_of a) (items_of b) (items_each a b e) i)
      ++ rows_if ((bytes_eq (own_text f s st r path above kind.MethodDefinition refl refl k i) (codes "get") || bytes_eq (own_text f s st r path above kind.MethodDefinition refl refl k i) (codes "set")) && not (mark_agrees f mark.Abstract refl s.node t.node mine i || s.is_ambient))
      (some_same R (λ key. accessor_without_body key.span ∷ []) (λ key. accessor_without_body key.span ∷ []) (λ x y h. λ j. accessor_without_body (same_spans f x y h j) ∷ []) (child_of role.Key s.node) (child_of role.Key t.node) (child_both f role.Key s.node t.node mine) i)

  pub methods_same : s.node.kind ≡ kind.MethodDefinition → check_method_definition t ≡ check_method_definition s
  methods_same k =
      some_same R (λ value. rows_if (is_bodiless_value value) (bodiless_rows s value)) (λ value. rows_if (is_bodiless_value value) (bodiless_rows t value))
      (λ a b e. λ i. rows_if (word_agrees f keeps (codes "ts-empty-body") refl a b e i) (bodiless_same k a b e i))
      (child_of role.Value s.node) (child_of role.Value t.node) (child_both f role.Value s.node t.node mine)

  -- ---- signatures

  -- the row of a name that stands before, at the places of both
  twice : (a b : Node) → IsBound f a b → (one other : Node) → IsBound f one other → AreToldAgain f.names (redeclaration a.text one.span a.span ∷ []) (redeclaration b.text other.span b.span ∷ [])
  twice a b e one other h =
      subst (λ u. AreToldAgain f.names (redeclaration a.text one.span a.span ∷ []) (redeclaration u other.span b.span ∷ [])) (sym (bound_text f a b e))
      (subst (λ u. AreToldAgain f.names (redeclaration a.text one.span a.span ∷ []) (redeclaration (f.names a.text) u b.span ∷ [])) (sym (same_spans f one other h.0))
      (subst (λ u. AreToldAgain f.names (redeclaration a.text one.span a.span ∷ []) (redeclaration (f.names a.text) one.span u ∷ [])) (sym (same_spans f a b e.0)) (redeclared_by_name a.text one.span a.span, tt)))

  -- a name of the signature
  abbrev P : Node → Node → Type 0
  P a b = IsBound f a b × Among a.text (map (λ x. x.text) (bound_names s.node))

  named_each : (xs ys : List Node) → Each (IsBound f) xs ys → (names : List Name) → ((u : Name) → Among u (map (λ x. x.text) xs) → Among u names) → Each (λ a b. IsBound f a b × Among a.text names) xs ys
  named_each [] [] e names h = tt
  named_each [] (y ∷ ys) e names h = absurd e
  named_each (x ∷ xs) [] e names h = absurd e
  named_each (x ∷ xs) (y ∷ ys) e names h = ((e.0, h x.text (inl refl)), named_each xs ys e.1 names (λ u a. h u (inr a)))

  module _ (apart : KeepsParameters f.names s.node) where
    repeated_told : (us vs : List Node) (a b : Node) → Each P us vs → P a b → AreToldAgain f.names (repeated_rows us a) (repeated_rows vs b)
    repeated_told us vs a b d e =
        some_rows P f.names (λ same. redeclaration a.text same.span a.span ∷ []) (λ same. redeclaration b.text same.span b.span ∷ []) (λ x y h. twice a b e.0 x y h.0)
        (find_last (λ other. bytes_eq other.text a.text) us) (find_last (λ other. bytes_eq other.text b.text) vs)
        (find_each P (λ other. bytes_eq other.text a.text) (λ other. bytes_eq other.text b.text)
        (λ x y h. (λ i. bytes_eq (bound_text f x y h.0 i) (bound_text f a b e.0 i)) ∙ apart x.text a.text h.1 e.1) (reverse us) (reverse vs) (reverse_each P us vs d))

    repeats_told : AreToldAgain f.names (each_after repeated_rows [] (bound_names s.node)) (each_after repeated_rows [] (bound_names t.node))
    repeats_told = after_rows f.names P repeated_rows repeated_rows repeated_told [] [] (bound_names s.node) (bound_names t.node) tt (named_each (bound_names s.node) (bound_names t.node) (bound_each f s.node t.node mine) (map (λ x. x.text) (bound_names s.node)) (λ u h. h))

  pub parameters_told : (is_signature_list s.node ≡ true → KeepsParameters f.names s.node) → s.node.kind ≡ kind.FormalParameters → AreToldAgain f.names (check_formal_parameters s) (check_formal_parameters t)
  parameters_told apart k =
      told_where f.names (has_text (codes "signature") s.node && nat_lt 1 (length (all_in role.Items s.node))) (has_text (codes "signature") t.node && nat_lt 1 (length (all_in role.Items t.node)))
      (each_after repeated_rows [] (bound_names s.node)) (each_after repeated_rows [] (bound_names t.node))
      (λ i. bytes_eq (own_text f s st r path above kind.FormalParameters refl refl k i) (codes "signature") && nat_lt 1 (length_each R (all_in role.Items s.node) (all_in role.Items t.node) (all_each f role.Items s.node t.node mine) i))
      (λ h. repeats_told (apart ((λ i. same_kind (k i) kind.FormalParameters && has_text (codes "signature") s.node) ∙ and_first (has_text (codes "signature") s.node) (nat_lt 1 (length (all_in role.Items s.node))) h)))
