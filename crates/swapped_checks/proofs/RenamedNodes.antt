-- What is asked of nodes with other names.
use Rattle.std.proofs.Common.{◌≡◌, List, [], ◌∷◌, Option, Some, None, Bool, true, false, if◌then◌else◌, ◌&&◌, ◌==◌, inl, inr, ◌⊎◌, refl, sym, ap, subst, ◌∙◌, bytes_eq}
use Rattle.std.proofs.lemmas.Bool.{cases_Bool}
use Rattle.semantic_kinds.specs.Kinds.{same_kind}
use Rattle.semantic_kinds.specs.Roles.{same_role}
use Rattle.semantic_kinds.specs.declared.kind.AstType.{AstType}
use Rattle.semantic_kinds.specs.Marks.{same_mark}
use Rattle.semantic_kinds.specs.declared.mark.Mark.{Mark}
use Rattle.semantic_kinds.specs.declared.mark.Mark.TheVariants as mark
use Rattle.semantic_kinds.specs.declared.marks.Marks.{Marks}
use Rattle.semantic_kinds.specs.declared.role.Role.{Role}
use Rattle.semantic_kinds.specs.declared.role.Role.TheVariants as role
use Rattle.semantic_syntax.specs.Tables.{Name}
use Rattle.semantic_tree.specs.Forest.{Forest, nothing, tree}
use Rattle.semantic_tree.specs.Nodes.{first_of}
use Rattle.semantic_tree.specs.Renamed.{is_program_name, setting_below, renamed_text}
use Rattle.semantic_tree.specs.Views.{is, has, has_text, has_child, holds, whose, is_there, is_child_in, all_in, child_of, children_of}
use Rattle.semantic_tree.specs.declared.node.Node.{Node}
use Rattle.semantic_tree.specs.declared.swap.Setting.{Setting}
use Rattle.semantic_model.proofs.form.Clauses.{kind_is}
use Rattle.semantic_model.proofs.swapped.Alike.{is_name, may_name, text_renamed, alike_renamed}
use Rattle.semantic_model.proofs.swapped.AlikeNames.{simple_same}
use Rattle.semantic_diagnostics.specs.Names.{redeclaration}
use Rattle.semantic_syntax.specs.declared.spans.Span.{Span}
use Rattle.semantic_tree.specs.BoundNames.{binds_by, bound_below, bound_names, is_simple_parameter_list}
use Rattle.semantic_tree.specs.Unwrapped.{unwrapped_in, unwrapped}
use Rattle.semantic_kinds.specs.declared.kind.AstType.TheVariants as kind
use Rattle.swapped_checks.specs.RuleWords.{is_rule_word, KeepsRuleWords}
use Rattle.swapped_checks.specs.SwappedRows.{IsToldAgain, told_the_same, redeclared_by_name}
use Rattle.check_model.specs.Expressions.{is_proto}
use Rattle.program_laws.specs.Remarked.{remarked, remarked_node}
use Rattle.program_laws.proofs.NameMarks as unmarked
use Rattle.swapped_checks.proofs.Changed.{Change, changed, changed_node, IsChanged, changed_at}
use Rattle.swapped_checks.proofs.Pairwise.{Each, Both, OfPairs, Agree, append_each, any_each}

module _ (f : Change) where
  abbrev R : Node → Node → Type 0
  R = IsChanged f

  -- ---- what is the same

  pub kind_agrees : (test : AstType → Bool) → Agree R (λ n. test n.kind) (λ n. test n.kind)
  kind_agrees test _ _ (changed_at st r node) = refl

  pub same_kinds : (a b : Node) → R a b → b.kind ≡ a.kind
  same_kinds _ _ (changed_at st r node) = refl

  pub same_spans : (a b : Node) → R a b → b.span ≡ a.span
  same_spans _ _ (changed_at st r node) = refl

  pub same_ids : (a b : Node) → R a b → b.node_id ≡ a.node_id
  same_ids _ _ (changed_at st r node) = refl

  pub mark_agrees : (m : Mark) → same_mark m mark.Shorthand ≡ false → Agree R (has m) (has m)
  mark_agrees m h _ _ (changed_at st r node) = f.kept node m h

  -- of a property whose key is named `__proto__` the mark `shorthand` too
  pub short_agrees : (a b : Node) → R a b → (is kind.ObjectProperty a && whose role.Key is_proto a) ≡ true → has mark.Shorthand b ≡ has mark.Shorthand a
  short_agrees _ _ (changed_at st r node) h = f.prototypes node h

  -- ---- texts

  pub either_text : (a b : Node) → R a b → (b.text ≡ a.text) ⊎ (b.text ≡ f.names a.text)
  either_text _ _ (changed_at st r node) = go (is_program_name st r node.kind)
    where
      go : (c : Bool) → ((if c then f.names node.text else node.text) ≡ node.text) ⊎ ((if c then f.names node.text else node.text) ≡ f.names node.text)
      go true = inr refl
      go false = inl refl

  pub plain_text : (k : AstType) → is_name k ≡ false → may_name k ≡ false → (a b : Node) → R a b → a.kind ≡ k → b.text ≡ a.text
  plain_text k h i _ _ (changed_at st r node) q = (text_renamed f.names st r node.kind node.text).plain (subst (λ j. is_name j ≡ false) (sym q) h) (subst (λ j. may_name j ≡ false) (sym q) i)

  -- texts and marks under the test of a kind that names nothing, where the test says the same of both marks
  pub guarded : (k : AstType) (test : Name → Marks → Bool) → is_name k ≡ false → may_name k ≡ false → (a b : Node) → R a b → ((u : Name) → is k a ≡ true → test u b.marks ≡ test u a.marks) → (is k b && test b.text b.marks) ≡ (is k a && test a.text a.marks)
  guarded k test h i a b e same = go (cases_Bool (is k a))
    where
      kinds : is k b ≡ is k a
      kinds = kind_agrees (λ j. same_kind j k) a b e

      go : (is k a ≡ true) ⊎ (is k a ≡ false) → (is k b && test b.text b.marks) ≡ (is k a && test a.text a.marks)
      go (inl q) =
          (λ j. kinds j && test (plain_text k h i a b e (kind_is a.kind k q) j) b.marks)
          ∙ ap (λ c. is k a && c) (same a.text q)
      go (inr q) = ap (λ c. c && test b.text b.marks) (kinds ∙ q) ∙ sym (ap (λ c. c && test a.text a.marks) q)

  pub word_agrees : KeepsRuleWords f.names → (w : Name) → is_rule_word w ≡ true → Agree R (has_text w) (has_text w)
  word_agrees keeps w h a b s = elim (either_text a b s) [
    | inl e ↦ ap (λ t. bytes_eq t w) e
    | inr e ↦ ap (λ t. bytes_eq t w) e ∙ keeps.same a.text w h
  ]

  -- ---- children

  pub children_each : (r : Role) (st : Setting) (g : Forest) → Each R (children_of r g) (children_of r (changed f st g))
  children_each r st nothing = tt
  children_each r st (tree q k span text marks below id after) = go (same_role q r) (children_each r st after)
    where
      old : Node
      old = record { kind = k; span = span; text = text; marks = marks; children = below; node_id = id }

      go : (b : Bool) → Each R (children_of r after) (children_of r (changed f st after)) → Each R (if b then old ∷ children_of r after else children_of r after) (if b then changed_node f st q old ∷ children_of r (changed f st after) else children_of r (changed f st after))
      go true h = (changed_at st q old, h)
      go false h = h

  pub all_each : (r : Role) (a b : Node) → R a b → Each R (all_in r a) (all_in r b)
  all_each r _ _ (changed_at st q node) = children_each r (setting_below st q node.kind) node.children

  first_of_each : (xs ys : List Node) → Each R xs ys → Both R (first_of xs) (first_of ys)
  first_of_each [] [] e = tt
  first_of_each [] (y ∷ ys) e = absurd e
  first_of_each (x ∷ xs) [] e = absurd e
  first_of_each (x ∷ xs) (y ∷ ys) e = e.0

  pub child_both : (r : Role) (a b : Node) → R a b → Both R (child_of r a) (child_of r b)
  child_both r a b s = first_of_each (all_in r a) (all_in r b) (all_each r a b s)

  there_both : (o p : Option Node) → Both R o p → is_there p ≡ is_there o
  there_both None None e = refl
  there_both None (Some y) e = absurd e
  there_both (Some x) None e = absurd e
  there_both (Some x) (Some y) e = refl

  holds_both : (t u : Node → Bool) → Agree R t u → (o p : Option Node) → Both R o p → holds u p ≡ holds t o
  holds_both t u h None None e = refl
  holds_both t u h None (Some y) e = absurd e
  holds_both t u h (Some x) None e = absurd e
  holds_both t u h (Some x) (Some y) e = h x y e

  pub child_agrees : (r : Role) → Agree R (has_child r) (has_child r)
  child_agrees r a b s = there_both (child_of r a) (child_of r b) (child_both r a b s)

  pub whose_agrees : (r : Role) (t u : Node → Bool) → Agree R t u → Agree R (whose r t) (whose r u)
  whose_agrees r t u h a b s = holds_both t u h (child_of r a) (child_of r b) (child_both r a b s)

  -- a child by its number
  pub inner_agrees : (r : Role) → Agree (OfPairs R) (λ p. is_child_in r p.1 p.0) (λ p. is_child_in r p.1 p.0)
  inner_agrees r p q s =
      any_each R (λ child. child.node_id == p.0.node_id) (λ child. child.node_id == q.0.node_id)
      (λ x y e. λ i. same_ids x y e i == same_ids p.0 q.0 s.0 i)
      (all_in r p.1) (all_in r q.1) (all_each r p.1 q.1 s.1)

  -- ---- what is under wrappers

  inside_each : (wraps : AstType → Bool) (inner : Role) (st : Setting) (outer other : Node) (g : Forest) → R outer other → R (unwrapped_in wraps inner outer g) (unwrapped_in wraps inner other (changed f st g))
  inside_each wraps inner st outer other nothing e = e
  inside_each wraps inner st outer other (tree q k span text marks below id after) e =
      go (same_role q inner) (wraps k) (inside_each wraps inner (setting_below st q k) old new below (changed_at st q old)) (inside_each wraps inner st outer other after e)
    where
      old : Node
      old = record { kind = k; span = span; text = text; marks = marks; children = below; node_id = id }

      new : Node
      new = changed_node f st q old

      go : (b c : Bool) → R (unwrapped_in wraps inner old below) (unwrapped_in wraps inner new new.children) → R (unwrapped_in wraps inner outer after) (unwrapped_in wraps inner other (changed f st after)) → R (if b then (if c then unwrapped_in wraps inner old below else old) else unwrapped_in wraps inner outer after) (if b then (if c then unwrapped_in wraps inner new new.children else new) else unwrapped_in wraps inner other (changed f st after))
      go true true h i = h
      go true false h i = changed_at st q old
      go false c h i = i

  pub unwrapped_each : (wraps : AstType → Bool) (inner : Role) (a b : Node) → R a b → R (unwrapped wraps inner a) (unwrapped wraps inner b)
  unwrapped_each wraps inner _ _ (changed_at st r node) = go (wraps node.kind)
    where
      new : Node
      new = changed_node f st r node

      go : (c : Bool) → R (if c then unwrapped_in wraps inner node node.children else node) (if c then unwrapped_in wraps inner new new.children else new)
      go true = inside_each wraps inner (setting_below st r node.kind) node new node.children (changed_at st r node)
      go false = changed_at st r node

  -- ---- what nodes bind

  -- a binding identifier
  abbrev pub IsBound : Node → Node → Type 0
  IsBound a b = R a b × (is kind.BindingIdentifier a ≡ true)

  below_each : (parent : AstType) (st : Setting) (g : Forest) → Each IsBound (bound_below parent g) (bound_below parent (changed f st g))
  below_each parent st nothing = tt
  below_each parent st (tree q k span text marks below id after) =
      append_each IsBound (if binds_by parent q then (if same_kind k kind.BindingIdentifier then old ∷ [] else bound_below k below) else []) (if binds_by parent q then (if same_kind k kind.BindingIdentifier then new ∷ [] else bound_below k new.children) else []) (bound_below parent after) (bound_below parent (changed f st after))
      (go (binds_by parent q) (same_kind k kind.BindingIdentifier) refl (below_each k (setting_below st q k) below)) (below_each parent st after)
    where
      old : Node
      old = record { kind = k; span = span; text = text; marks = marks; children = below; node_id = id }

      new : Node
      new = changed_node f st q old

      go : (b c : Bool) → same_kind k kind.BindingIdentifier ≡ c → Each IsBound (bound_below k below) (bound_below k new.children) → Each IsBound (if b then (if c then old ∷ [] else bound_below k below) else []) (if b then (if c then new ∷ [] else bound_below k new.children) else [])
      go true true e h = ((changed_at st q old, e), tt)
      go true false e h = h
      go false c e h = tt

  pub bound_each : (a b : Node) → R a b → Each IsBound (bound_names a) (bound_names b)
  bound_each _ _ (changed_at st r node) = go (same_kind node.kind kind.BindingIdentifier) refl
    where
      new : Node
      new = changed_node f st r node

      go : (c : Bool) → same_kind node.kind kind.BindingIdentifier ≡ c → Each IsBound (if c then node ∷ [] else bound_below node.kind node.children) (if c then new ∷ [] else bound_below node.kind new.children)
      go true e = ((changed_at st r node, e), tt)
      go false e = below_each node.kind (setting_below st r node.kind) node.children

  pub bound_text : (a b : Node) → IsBound a b → b.text ≡ f.names a.text
  bound_text a b e = go a b e.0 e.1
    where
      go : (x y : Node) → R x y → is kind.BindingIdentifier x ≡ true → y.text ≡ f.names x.text
      go _ _ (changed_at st r node) h = (text_renamed f.names st r node.kind node.text).named (rw h refl)

  -- ---- simple lists of parameters

  pub simple_agrees : Agree R is_simple_parameter_list is_simple_parameter_list
  simple_agrees _ _ (changed_at st r node) =
      simple_same f.names (remarked_node f.marks node) (renamed_text f.names st r node.kind node.text) (changed f (setting_below st r node.kind) node.children) (record { text = text_renamed f.names st r node.kind node.text; children = alike_renamed f.names (setting_below st r node.kind) (remarked f.marks node.children) })
      ∙ unmarked.simple_same f.marks node

  -- ---- a row on a name that is declared again

  pub either_row : (a b : Node) → R a b → (first second : Span) → IsToldAgain f.names (redeclaration a.text first second) (redeclaration b.text first second)
  either_row a b e first second = elim (either_text a b e) [
    | inl q ↦ subst (λ u. IsToldAgain f.names (redeclaration a.text first second) (redeclaration u first second)) (sym q) (told_the_same (redeclaration a.text first second))
    | inr q ↦ subst (λ u. IsToldAgain f.names (redeclaration a.text first second) (redeclaration u first second)) (sym q) (redeclared_by_name a.text first second)
  ]
