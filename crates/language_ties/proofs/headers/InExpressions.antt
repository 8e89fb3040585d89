-- Where keys are marked, a reference among parameters stands in an expression of theirs.
use Rattle.std.proofs.Common.{◌≡◌, ℕ, List, [], ◌∷◌, Option, Some, None, Bool, true, false, ◌&&◌, ◌||◌, not, inl, inr, ◌⊎◌, refl, sym, ap, subst, ◌∙◌, if◌then◌else◌}
use Rattle.std.proofs.lemmas.Bool.{cases_Bool, or_parts}
use Rattle.semantic_syntax.proofs.Truth.{and_first, and_second}
use Rattle.semantic_kinds.specs.Kinds.{same_kind}
use Rattle.semantic_kinds.specs.Roles.{same_role}
use Rattle.semantic_kinds.specs.declared.kind.AstType.{AstType}
use Rattle.semantic_kinds.specs.declared.kind.AstType.TheVariants as kind
use Rattle.semantic_kinds.specs.declared.role.Role.{Role}
use Rattle.semantic_kinds.specs.declared.role.Role.TheVariants as role
use Rattle.semantic_syntax.specs.SourceTypes.{is_typescript}
use Rattle.semantic_syntax.specs.Tables.{Name}
use Rattle.semantic_tree.specs.Faults.{first_fault}
use Rattle.semantic_tree.specs.Forest.{Forest, nothing, tree}
use Rattle.semantic_tree.specs.Nodes.{trees, nodes_in, first_of}
use Rattle.semantic_tree.specs.Tree.{Tree}
use Rattle.semantic_tree.specs.Views.{is, holds, child_of}
use Rattle.semantic_tree.specs.declared.node.Node.{Node}
use Rattle.semantic_model.specs.Cursor.{on_entering}
use Rattle.semantic_model.specs.EachStep.{EachStep}
use Rattle.semantic_model.specs.Entries.{Among}
use Rattle.semantic_model.specs.Place.{Place, OpenScope}
use Rattle.semantic_model.specs.Step.{Step, entering, opening, header_ending, closing, leaving, steps_below, steps, root_place}
use Rattle.semantic_model.proofs.form.Clauses.{kind_is}
use Rattle.semantic_model.proofs.steps.EachStep.{each_of_node, each_of_turn}
use Rattle.semantic_model.proofs.steps.Turn.{Turn, turn_at}
use Rattle.semantic_model.proofs.steps.TurnCases.{opening_case, ending_case, last_case}
use Rattle.walk_model.proofs.places.Shapes.{holds_below}
use Rattle.binding_laws.proofs.ListLaws.{each_at}
use Rattle.binding_laws.proofs.SmallLaws.{never}
use Rattle.language_ties.specs.AgreeingNames.{StandsInExpressions, AllStandInExpressions}
use Rattle.language_ties.specs.Bound.{Bound, written}
use Rattle.language_ties.specs.EcmaScript.{is_ecmascript_forest, is_ecmascript}
use Rattle.language_ties.specs.Environments.{refers, key_refers, contains_expression, has_parameter_expressions}
use Rattle.language_ties.proofs.headers.ListsOnce.{is_listing, is_list_role, some_list, once_below, tree_once}
use Rattle.language_ties.proofs.headers.PatternShape.{is_binding, is_pattern_child, tree_patterns, is_list_child, tree_lists, unread}
use Rattle.language_ties.proofs.shared.PlainNodes.{forests_plain}

-- ---- the list of parameters of a function

abbrev params_in : Forest → List Node
params_in f = nodes_in role.Params (trees f)

-- no list of the node stands before the children, or none among them
abbrev AreLeft : Node → Forest → Type 0
AreLeft x f = is_listing x.kind ≡ true → (params_in x.children ≡ params_in f) ⊎ (params_in f ≡ [])

-- where none of the children has the role, there is no list among them
none_of_role : (k : AstType) (f : Forest) → is_listing k ≡ true → some_list k (trees f) ≡ false → params_in f ≡ []
none_of_role k nothing l h = refl
none_of_role k (tree r k2 span text marks below id after) l h = by (same_role r role.Params) (rw l at h) (none_of_role k after l)
  where
    by : (b : Bool) → (b || some_list k (trees after)) ≡ false → (some_list k (trees after) ≡ false → params_in after ≡ []) → (if b then record { kind = k2; span = span; text = text; marks = marks; children = below; node_id = id } ∷ params_in after else params_in after) ≡ []
    by true w later = absurd cc
    by false w later = later w

module _ (x : Node) (r : Role) (node : Node) (after : Forest) where
  -- the lists among a child and those behind it
  abbrev with_child : List Node
  with_child = if same_role r role.Params then node ∷ params_in after else params_in after

  no_other : is_listing x.kind ≡ true → (not (is_list_role x.kind r) || not (some_list x.kind (trees after))) ≡ true → same_role r role.Params ≡ true → params_in after ≡ []
  no_other l h e = none_of_role x.kind after l (by (is_listing x.kind) (same_role r role.Params) (some_list x.kind (trees after)) l e h)
    where
      by : (a b c : Bool) → a ≡ true → b ≡ true → (not (a && b) || not c) ≡ true → c ≡ false
      by true true false u v w = refl
      by true true true u v w = absurd cc
      by true false c u v w = absurd (never (sym v))
      by false b c u v w = absurd (never (sym u))

  -- the children behind one of them
  left_after : (not (is_list_role x.kind r) || not (some_list x.kind (trees after))) ≡ true → (is_listing x.kind ≡ true → (params_in x.children ≡ with_child) ⊎ (with_child ≡ [])) → AreLeft x after
  left_after once h l = by (same_role r role.Params) refl (h l)
    where
      by : (b : Bool) → same_role r role.Params ≡ b → (params_in x.children ≡ (if b then node ∷ params_in after else params_in after)) ⊎ ((if b then node ∷ params_in after else params_in after) ≡ []) → (params_in x.children ≡ params_in after) ⊎ (params_in after ≡ [])
      by true e k = inr (no_other l once e)
      by false e k = k

  -- a list that stands there is the node's first
  first_list : is_list_role x.kind r ≡ true → (is_listing x.kind ≡ true → (params_in x.children ≡ with_child) ⊎ (with_child ≡ [])) → child_of role.Params x ≡ Some node
  first_list e h = by (same_role r role.Params) (and_second (is_listing x.kind) (same_role r role.Params) e) (h (and_first (is_listing x.kind) (same_role r role.Params) e))
    where
      by : (b : Bool) → b ≡ true → (params_in x.children ≡ (if b then node ∷ params_in after else params_in after)) ⊎ ((if b then node ∷ params_in after else params_in after) ≡ []) → child_of role.Params x ≡ Some node
      by true e (inl q) = ap first_of q
      by true e (inr q) = absurd cc
      by false e q = absurd (never (sym e))

module _ (p : Tree) where
  -- of the functions among whose parameters the place stands, each has an expression there
  abbrev AllExpressed : Node → List Node → Type 0
  AllExpressed child [] = Unit {0}
  AllExpressed child (f ∷ path) = (is kind.FormalParameters child ≡ true → has_parameter_expressions f ≡ true) × AllExpressed f path

  -- no reference stands there
  abbrev IsUnread : Node → Type 0
  IsUnread x = (is kind.IdentifierReference x ≡ false) × (refers x.children ≡ false)

  abbrev Fits : Node → List Node → Type 0
  Fits x path = AllExpressed x path ⊎ IsUnread x

  abbrev FitsAt : Step → Type 0
  FitsAt (entering q) = Fits q.node q.path
  FitsAt (opening q o) = Unit {0}
  FitsAt (header_ending q o) = Unit {0}
  FitsAt (closing q o) = Unit {0}
  FitsAt (leaving q) = Unit {0}

  -- among the children that are left
  abbrev FitsBelow : Node → List Node → Forest → Type 0
  FitsBelow x path f = AllExpressed x path ⊎ (refers f ≡ false)

  list_no_reference : (k : AstType) → same_kind k kind.FormalParameters ≡ true → same_kind k kind.IdentifierReference ≡ false
  list_no_reference k h = subst (λ z. same_kind z kind.IdentifierReference ≡ false) (sym (kind_is k kind.FormalParameters h)) refl

  -- a child of a node all of whose functions have one
  module _ (x : Node) (path : List Node) (r : Role) (node : Node) (after : Forest) (expressed : AllExpressed x path) (listed : is_list_child x.kind r node.kind [] ≡ true) (e : is_ecmascript_forest node.children ≡ true) (h : holds_below is_pattern_child node.kind node.children ≡ true)
      (left : is_listing x.kind ≡ true → (params_in x.children ≡ with_child x r node after) ⊎ (with_child x r node after ≡ [])) where
    a_list : is kind.FormalParameters node ≡ true → Fits node (x ∷ path)
    a_list k = by (contains_expression node.children) refl
      where
        role_of : is_list_role x.kind r ≡ true
        role_of = rw k at listed

        by : (b : Bool) → contains_expression node.children ≡ b → Fits node (x ∷ path)
        by true w = inl ((λ i. ap (holds (λ parameters. contains_expression parameters.children)) (first_list x r node after role_of left) ∙ w), expressed)
        by false w =
            let binds : node.kind ≡ kind.FormalParameters = kind_is node.kind kind.FormalParameters k in
            let no_property : same_kind node.kind kind.BindingProperty ≡ true → key_refers node.children ≡ false = λ i. absurd (never (sym i ∙ ap (λ z. same_kind z kind.BindingProperty) binds)) in
            inr (list_no_reference node.kind k, unread node.kind node.children (subst (λ z. is_binding z ≡ true) (sym binds) refl) no_property e h w)

    child_of_expressed : Fits node (x ∷ path)
    child_of_expressed = elim (cases_Bool (is kind.FormalParameters node)) [
      | inl k ↦ a_list k
      | inr k ↦ inl ((λ i. absurd (never (sym i ∙ k))), expressed)
    ]

  below_of : (x : Node) (path : List Node) → Fits x path → FitsBelow x path x.children
  below_of x path (inl h) = inl h
  below_of x path (inr h) = inr h.1

  fits_steps : (q : Place) (own : Option OpenScope) (n cursor : ℕ) (f : Forest) → FitsBelow q.node q.path f → AreLeft q.node f → is_ecmascript_forest f ≡ true → once_below q.node.kind f ≡ true → holds_below is_pattern_child q.node.kind f ≡ true → holds_below is_list_child q.node.kind f ≡ true → EachStep FitsAt (steps_below q own n cursor f)
  fits_steps q own n cursor nothing fits left e o h l = last_case (EachStep FitsAt) q own n tt (tt, (tt, tt))
  fits_steps q own n cursor (tree r k2 span text marks below id after) fits left e o h l =
      let node : Node = record { kind = k2; span = span; text = text; marks = marks; children = below; node_id = id } in
      let turn : Turn = turn_at q own n cursor r node after in
      let forests : (is_ecmascript_forest below ≡ true) × (is_ecmascript_forest after ≡ true) = forests_plain _ below after e in
      let onces : (once_below k2 below && once_below q.node.kind after) ≡ true = and_second (not (is_list_role q.node.kind r) || not (some_list q.node.kind (trees after))) (once_below k2 below && once_below q.node.kind after) o in
      let patterns : (holds_below is_pattern_child k2 below && holds_below is_pattern_child q.node.kind after) ≡ true = and_second (is_pattern_child q.node.kind r k2 text) (holds_below is_pattern_child k2 below && holds_below is_pattern_child q.node.kind after) h in
      let lists : (holds_below is_list_child k2 below && holds_below is_list_child q.node.kind after) ≡ true = and_second (is_list_child q.node.kind r k2 text) (holds_below is_list_child k2 below && holds_below is_list_child q.node.kind after) l in
      let child : Fits node (q.node ∷ q.path) = elim fits [
        | inl expressed ↦ child_of_expressed q.node q.path r node after expressed (and_first (is_list_child q.node.kind r k2 text) (holds_below is_list_child k2 below && holds_below is_list_child q.node.kind after) l) forests.0 (and_first (holds_below is_pattern_child k2 below) (holds_below is_pattern_child q.node.kind after) patterns) left
        | inr none ↦ inr (or_parts (same_kind k2 kind.IdentifierReference) (refers below) (or_parts (same_kind k2 kind.IdentifierReference || refers below) (refers after) none).0)
      ] in
      let others : FitsBelow q.node q.path after = elim fits [
        | inl expressed ↦ inl expressed
        | inr none ↦ inr (or_parts (same_kind k2 kind.IdentifierReference || refers below) (refers after) none).1
      ] in
      each_of_turn FitsAt turn (record {
        before = opening_case (EachStep FitsAt) q r own n tt (tt, tt);
        whole = each_of_node FitsAt turn.child turn.below child
            (fits_steps turn.child None turn.next turn.inner below (below_of node (q.node ∷ q.path) child) (λ i. inl refl) forests.0 (and_first (once_below k2 below) (once_below q.node.kind after) onces) (and_first (holds_below is_pattern_child k2 below) (holds_below is_pattern_child q.node.kind after) patterns) (and_first (holds_below is_list_child k2 below) (holds_below is_list_child q.node.kind after) lists)) tt;
        behind = ending_case (EachStep FitsAt) q r turn.scope after tt (λ s. (tt, tt)) (λ s. (tt, tt)) (λ s. (tt, (tt, tt)));
        others = fits_steps q turn.scope turn.rest turn.past after others (left_after q.node r node after (and_first (not (is_list_role q.node.kind r) || not (some_list q.node.kind (trees after))) (once_below k2 below && once_below q.node.kind after) o) left) forests.1 (and_second (once_below k2 below) (once_below q.node.kind after) onces) (and_second (holds_below is_pattern_child k2 below) (holds_below is_pattern_child q.node.kind after) patterns) (and_second (holds_below is_list_child k2 below) (holds_below is_list_child q.node.kind after) lists);
      })

  fits_program : first_fault p ≡ None → is_ecmascript p ≡ true → EachStep FitsAt (steps p)
  fits_program h e =
      let root : Place = root_place p in
      let n : ℕ = on_entering p.root.kind 0 in
      each_of_node FitsAt root (steps_below root None 0 n p.root.children) (inl tt)
      (fits_steps root None 0 n p.root.children (inl tt) (λ i. inl refl) (and_second (not (is_typescript p.source_type)) (is_ecmascript_forest p.root.children) e) (tree_once p h) (tree_patterns p h) (tree_lists p h)) tt

  -- so each reference stands in expressions
  of_expressed : (bs : List Bound) (name : Name) (x : Node) (path : List Node) → AllExpressed x path → StandsInExpressions bs name x path
  of_expressed bs name x [] h = tt
  of_expressed bs name x (f ∷ path) h = ((λ k b d a n i m. h.0 k), of_expressed bs name f path h.1)

  pub in_expressions : first_fault p ≡ None → is_ecmascript p ≡ true → (name : Name) (q : Place) → Among (entering q) (steps p) → is kind.IdentifierReference q.node ≡ true → StandsInExpressions (written p.source_type (steps p)) name q.node q.path
  in_expressions h e name q a k = elim (each_at FitsAt (steps p) (entering q) (fits_program h e) a) [
    | inl w ↦ of_expressed (written p.source_type (steps p)) name q.node q.path w
    | inr w ↦ absurd (never (sym k ∙ w.0))
  ]

  pub stand_in_expressions : first_fault p ≡ None → is_ecmascript p ≡ true → (name : Name) → AllStandInExpressions p name
  stand_in_expressions h e name q a k n = in_expressions h e name q a k
