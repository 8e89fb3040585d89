-- Rows on jumps and labels, where names are others.
use Rattle.std.proofs.Common.{◌≡◌, List, [], ◌∷◌, Option, Some, None, Bool, true, false, ◌||◌, ◌&&◌, not, if◌then◌else◌, inl, inr, ◌⊎◌, refl, sym, subst, ap, ◌∙◌, bytes_eq, codes}
use Rattle.std.specs.List.{find, list_all}
use Rattle.std.proofs.lemmas.Bool.{cases_Bool}
use Rattle.semantic_syntax.proofs.Truth.{and_first, and_second}
use Rattle.semantic_syntax.specs.Tables.{Name}
use Rattle.semantic_syntax.specs.declared.spans.Span.{Span}
use Rattle.semantic_kinds.specs.Kinds.{same_kind}
use Rattle.semantic_kinds.specs.declared.kind.AstType.{AstType}
use Rattle.semantic_kinds.specs.declared.kind.AstType.TheVariants as kind
use Rattle.semantic_kinds.specs.declared.role.Role.{Role}
use Rattle.semantic_kinds.specs.declared.role.Role.TheVariants as role
use Rattle.semantic_tree.specs.KindGroups.{is_loop}
use Rattle.semantic_tree.specs.Nodes.{first_of}
use Rattle.semantic_tree.specs.Views.{is, has_text, holds, whose, all_in, child_of}
use Rattle.semantic_tree.specs.declared.node.Node.{Node}
use Rattle.semantic_tree.specs.declared.swap.Setting.{Setting}
use Rattle.semantic_diagnostics.specs.declared.diagnostic.Diagnostic.{Diagnostic}
use Rattle.semantic_diagnostics.specs.Statements.{invalid_break, invalid_continue, invalid_label_jump_target, invalid_label_target, invalid_label_non_iteration, label_redeclaration}
use Rattle.semantic_model.proofs.form.Clauses.{kind_is}
use Rattle.check_model.specs.Groups.{is_jump_boundary, is_label, under_labels}
use Rattle.check_model.specs.Jumps.{stops_jumps, ends_jump_search, is_labelled_by, unlabelled_rows, continue_rows, met_rows, labelled_rows, break_rows, continue_rows_by, check_break_statement, check_continue_statement, same_label_around, own_label_rows, check_labeled_statement}
use Rattle.check_model.specs.Search.{row_if, rows_of_some}
use Rattle.check_model.specs.Sight.{Sight}
use Rattle.swapped_checks.specs.SwappedSight.{has_plain_labels}
use Rattle.swapped_checks.proofs.Changed.{Change, IsChanged}
use Rattle.swapped_checks.proofs.Pairwise.{Each, Both, Agree, find_each, find_before_each, some_same}
use Rattle.swapped_checks.proofs.RenamedNodes.{kind_agrees, same_spans, plain_text, all_each, child_both, unwrapped_each}
use Rattle.swapped_checks.proofs.Around.{seen, own}

module _ (f : Change) where
  abbrev R : Node → Node → Type 0
  R = IsChanged f

  -- a node whose labels are labels
  abbrev pub L : Node → Node → Type 0
  L a b = R a b × (has_plain_labels a ≡ true)

  pub each_labelled : (xs ys : List Node) → Each R xs ys → list_all has_plain_labels xs ≡ true → Each L xs ys
  each_labelled [] [] e h = tt
  each_labelled [] (y ∷ ys) e h = absurd e
  each_labelled (x ∷ xs) [] e h = absurd e
  each_labelled (x ∷ xs) (y ∷ ys) e h = ((e.0, and_first (has_plain_labels x) (list_all has_plain_labels xs) h), each_labelled xs ys e.1 (and_second (has_plain_labels x) (list_all has_plain_labels xs) h))

  -- the label of a node
  first_text : (w : Name) (xs ys : List Node) → Each R xs ys → list_all (is kind.LabelIdentifier) xs ≡ true → holds (has_text w) (first_of ys) ≡ holds (has_text w) (first_of xs)
  first_text w [] [] e h = refl
  first_text w [] (y ∷ ys) e h = absurd e
  first_text w (x ∷ xs) [] e h = absurd e
  first_text w (x ∷ xs) (y ∷ ys) e h = ap (λ u. bytes_eq u w) (plain_text f kind.LabelIdentifier refl refl x y e.0 (kind_is x.kind kind.LabelIdentifier (and_first (is kind.LabelIdentifier x) (list_all (is kind.LabelIdentifier) xs) h)))

  -- the labels of what isn't a named member of a tuple
  labels_of : (k : AstType) → same_kind k kind.TSNamedTupleMember ≡ false → (a : Node) → a.kind ≡ k → has_plain_labels a ≡ true → list_all (is kind.LabelIdentifier) (all_in role.Label a) ≡ true
  labels_of k i a e h = subst (λ b. (b || list_all (is kind.LabelIdentifier) (all_in role.Label a)) ≡ true) (ap (λ j. same_kind j kind.TSNamedTupleMember) e ∙ i) h

  labels_agree : (w : Name) → Agree L (λ n. is kind.LabeledStatement n && whose role.Label (has_text w) n) (λ n. is kind.LabeledStatement n && whose role.Label (has_text w) n)
  labels_agree w a b e = go (cases_Bool (is kind.LabeledStatement a))
    where
      kinds : is kind.LabeledStatement b ≡ is kind.LabeledStatement a
      kinds = kind_agrees f (λ k. same_kind k kind.LabeledStatement) a b e.0

      go : (is kind.LabeledStatement a ≡ true) ⊎ (is kind.LabeledStatement a ≡ false) → (is kind.LabeledStatement b && whose role.Label (has_text w) b) ≡ (is kind.LabeledStatement a && whose role.Label (has_text w) a)
      go (inl h) = λ i. kinds i && first_text w (all_in role.Label a) (all_in role.Label b) (all_each f role.Label a b e.0) (labels_of kind.LabeledStatement refl a (kind_is a.kind kind.LabeledStatement h) e.1) i
      go (inr h) = ap (λ c. c && whose role.Label (has_text w) b) (kinds ∙ h) ∙ sym (ap (λ c. c && whose role.Label (has_text w) a) h)

  kinds_agree : (test : AstType → Bool) → Agree L (λ n. test n.kind) (λ n. test n.kind)
  kinds_agree test a b e = kind_agrees f test a b e.0

  -- a label with the same text and place
  abbrev pub SameLabel : Node → Node → Type 0
  SameLabel a b = (b.text ≡ a.text) × (b.span ≡ a.span)

  first_label : (xs ys : List Node) → Each R xs ys → list_all (is kind.LabelIdentifier) xs ≡ true → Both SameLabel (first_of xs) (first_of ys)
  first_label [] [] e h = tt
  first_label [] (y ∷ ys) e h = absurd e
  first_label (x ∷ xs) [] e h = absurd e
  first_label (x ∷ xs) (y ∷ ys) e h = (plain_text f kind.LabelIdentifier refl refl x y e.0 (kind_is x.kind kind.LabelIdentifier (and_first (is kind.LabelIdentifier x) (list_all (is kind.LabelIdentifier) xs) h)), same_spans f x y e.0)

  pub own_label : (k : AstType) → same_kind k kind.TSNamedTupleMember ≡ false → (a b : Node) → a.kind ≡ k → L a b → Both SameLabel (child_of role.Label a) (child_of role.Label b)
  own_label k i a b e l = first_label (all_in role.Label a) (all_in role.Label b) (all_each f role.Label a b l.0) (labels_of k i a e l.1)

  module _ (xs ys : List Node) (above : Each L xs ys) where
    unlabelled_same : (test : AstType → Bool) (refusal : Diagnostic) → unlabelled_rows (λ n. test n.kind) refusal ys ≡ unlabelled_rows (λ n. test n.kind) refusal xs
    unlabelled_same test refusal =
        some_same L (λ met. row_if (not (test met.kind)) refusal) (λ met. row_if (not (test met.kind)) refusal) (λ x y e. λ i. row_if (not (kinds_agree test x y e i)) refusal)
        (find (λ n. ends_jump_search n || test n.kind) xs) (find (λ n. ends_jump_search n || test n.kind) ys)
        (find_each L (λ n. ends_jump_search n || test n.kind) (λ n. ends_jump_search n || test n.kind) (kinds_agree (λ k. (is_jump_boundary k || same_kind k kind.Program) || test k)) xs ys above)

    met_same : (g h : Node → List Diagnostic) → ((x y : Node) → L x y → h y ≡ g x) → (a b : Node) → SameLabel a b → (x y : Node) → L x y → met_rows h b y ≡ met_rows g a x
    met_same g h k a b l x y e = λ i. if kinds_agree is_jump_boundary x y e i then invalid_label_jump_target (l.1 i) ∷ [] else (if kinds_agree (λ j. same_kind j kind.Program) x y e i then invalid_label_target (l.1 i) ∷ [] else k x y e i)

    jumps_same : (g h : Node → List Diagnostic) → ((x y : Node) → L x y → h y ≡ g x) → (a b : Node) → SameLabel a b → labelled_rows h b ys ≡ labelled_rows g a xs
    jumps_same g h k a b l =
        some_same L (met_rows g a) (met_rows h b) (met_same g h k a b l) (find (λ n. ends_jump_search n || is_labelled_by a n) xs) (find (λ n. ends_jump_search n || is_labelled_by b n) ys)
        (find_each L (λ n. ends_jump_search n || is_labelled_by a n) (λ n. ends_jump_search n || is_labelled_by b n)
        (λ x y e. (λ i. ends_jump_search y || (is kind.LabeledStatement y && whose role.Label (has_text (l.0 i)) y)) ∙ (λ i. kinds_agree (λ j. is_jump_boundary j || same_kind j kind.Program) x y e i || labels_agree a.text x y e i)) xs ys above)

    continues_same : (a b : Node) → SameLabel a b → (x y : Node) → L x y → continue_rows b y ≡ continue_rows a x
    continues_same a b l x y e = λ i. if kind_agrees f is_loop (under_labels x) (under_labels y) (unwrapped_each f is_label role.Body x y e.0) i then []
        else some_same R (λ own. invalid_label_non_iteration (codes "continue") own.span a.span ∷ []) (λ own. invalid_label_non_iteration (codes "continue") own.span b.span ∷ []) (λ c d h. λ j. invalid_label_non_iteration (codes "continue") (same_spans f c d h j) (l.1 j) ∷ []) (child_of role.Label x) (child_of role.Label y) (child_both f role.Label x y e.0) i

    pub breaks_same : (span : Span) (o p : Option Node) → Both SameLabel o p → break_rows p span ys ≡ break_rows o span xs
    breaks_same span None None e = unlabelled_same (λ k. is_loop k || same_kind k kind.SwitchStatement) (invalid_break span)
    breaks_same span None (Some b) e = absurd e
    breaks_same span (Some a) None e = absurd e
    breaks_same span (Some a) (Some b) e = jumps_same (λ target. []) (λ target. []) (λ x y h. refl) a b e

    pub goes_on_same : (span : Span) (o p : Option Node) → Both SameLabel o p → continue_rows_by p span ys ≡ continue_rows_by o span xs
    goes_on_same span None None e = unlabelled_same is_loop (invalid_continue span)
    goes_on_same span None (Some b) e = absurd e
    goes_on_same span (Some a) None e = absurd e
    goes_on_same span (Some a) (Some b) e = jumps_same (continue_rows a) (continue_rows b) (continues_same a b e) a b e

    pub labels_same : (a b : Node) → SameLabel a b → own_label_rows ys b ≡ own_label_rows xs a
    labels_same a b l =
        some_same L (λ outer. rows_of_some (λ one. label_redeclaration a.text one.span a.span ∷ []) (child_of role.Label outer)) (λ outer. rows_of_some (λ one. label_redeclaration b.text one.span b.span ∷ []) (child_of role.Label outer))
        (λ x y e. some_same R (λ one. label_redeclaration a.text one.span a.span ∷ []) (λ one. label_redeclaration b.text one.span b.span ∷ []) (λ c d h. λ i. label_redeclaration (l.0 i) (same_spans f c d h i) (l.1 i) ∷ []) (child_of role.Label x) (child_of role.Label y) (child_both f role.Label x y e.0))
        (same_label_around a xs) (same_label_around b ys)
        (find_before_each L stops_jumps (is_labelled_by a) stops_jumps (is_labelled_by b) (kinds_agree is_jump_boundary)
        (λ x y e. (λ i. is kind.LabeledStatement y && whose role.Label (has_text (l.0 i)) y) ∙ labels_agree a.text x y e) xs ys above)

module _ (f : Change) (s : Sight) (st : Setting) (r : Role) (path : List Node) (above : Each (IsChanged f) s.path path) (labels : list_all has_plain_labels (s.node ∷ s.path) ≡ true) where
  abbrev t : Sight
  t = seen f s st r path

  around : Each (L f) s.path path
  around = each_labelled f s.path path above (and_second (has_plain_labels s.node) (list_all has_plain_labels s.path) labels)

  here : L f s.node t.node
  here = (own f s st r path above, and_first (has_plain_labels s.node) (list_all has_plain_labels s.path) labels)

  pub break_same : s.node.kind ≡ kind.BreakStatement → check_break_statement t ≡ check_break_statement s
  break_same e = breaks_same f s.path path around s.node.span (child_of role.Label s.node) (child_of role.Label t.node) (own_label f kind.BreakStatement refl s.node t.node e here)

  pub continue_same : s.node.kind ≡ kind.ContinueStatement → check_continue_statement t ≡ check_continue_statement s
  continue_same e = goes_on_same f s.path path around s.node.span (child_of role.Label s.node) (child_of role.Label t.node) (own_label f kind.ContinueStatement refl s.node t.node e here)

  pub label_same : s.node.kind ≡ kind.LabeledStatement → check_labeled_statement t ≡ check_labeled_statement s
  label_same e = some_same (SameLabel f) (own_label_rows s.path) (own_label_rows path) (λ a b e. labels_same f s.path path around a b e) (child_of role.Label s.node) (child_of role.Label t.node) (own_label f kind.LabeledStatement refl s.node t.node e here)
