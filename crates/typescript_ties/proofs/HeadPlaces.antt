-- At each place, the scope in which it stands is that of the container in which it declares.
use Rattle.std.proofs.Common.{◌≡◌, ℕ, suc, ◌+◌, ◌≤◌, List, [], ◌∷◌, ◌++◌, Option, None, Bool, true, false, ◌&&◌, ◌||◌, not, refl, sym, ap, subst, ◌∙◌, inl, inr, ◌⊎◌, arith}
use Rattle.std.proofs.lemmas.Bool.{cases_Bool, not-true}
use Rattle.semantic_syntax.proofs.Truth.{and_first, and_second}
use Rattle.semantic_syntax.specs.declared.source_type.SourceType.{SourceType}
use Rattle.semantic_kinds.specs.Classes.{holds_kind}
use Rattle.semantic_kinds.specs.Kinds.{same_kind}
use Rattle.semantic_kinds.specs.declared.kind.AstType.TheVariants as kind
use Rattle.semantic_kinds.specs.declared.role.Role.{Role}
use Rattle.semantic_tree.specs.Faults.{first_fault}
use Rattle.semantic_tree.specs.Forest.{Forest, nothing, tree, count, numbered}
use Rattle.semantic_tree.specs.Tree.{Tree, IsNumbered}
use Rattle.semantic_tree.specs.Views.{is}
use Rattle.semantic_tree.specs.declared.node.Node.{Node}
use Rattle.semantic_model.specs.Cursor.{on_entering}
use Rattle.semantic_model.specs.EachStep.{EachStep}
use Rattle.semantic_model.specs.Entries.{Among}
use Rattle.semantic_model.specs.Inside.{is_inside, is_in_header}
use Rattle.semantic_model.specs.Place.{Place, OpenScope, innermost, outside}
use Rattle.semantic_model.specs.Step.{Step, entering, opening, header_ending, closing, leaving, steps, steps_below, root_place, child_place}
use Rattle.semantic_model.proofs.form.ParameterChains.{is_open_inside}
use Rattle.semantic_model.proofs.form.Clauses.{kind_is}
use Rattle.semantic_model.proofs.form.Shape.{has_form}
use Rattle.semantic_model.proofs.lists.Members.{among_cases}
use Rattle.semantic_model.proofs.steps.EachStep.{EachOfTurn, each_left, each_of_node, each_of_turn, turn_of_each}
use Rattle.semantic_model.proofs.steps.Turn.{Turn, turn_at}
use Rattle.semantic_model.proofs.steps.TurnCases.{opening_case, ending_case, last_case}
use Rattle.walk_model.proofs.once.NodeIds.{FirstNumbered, first_numbered, root_numbered}
use Rattle.walk_model.proofs.places.Shapes.{holds_below}
use Rattle.typescript_ties.specs.Containers.{Container, is_container, bound_container, is_of_signature, outside_function, containers_by, containers}
use Rattle.typescript_ties.specs.SimpleNames.{is_apart, is_common_child, is_common_forest, is_common}
use Rattle.typescript_ties.specs.declared.container_kind.ContainerKind.TheVariants as container
use Rattle.binding_laws.proofs.ChildChains.{ChainOf, outer_chain, inner_chain, OwnOf, own_of}
use Rattle.binding_laws.proofs.SmallLaws.{never}
use Rattle.typescript_ties.proofs.ChildPlaces.{same_truth, is_function, tells_inside, told_by_kind, tree_tells, tells_header, tree_headed}
use Rattle.typescript_ties.proofs.GroupNodes.{stands_by}
use Rattle.typescript_ties.proofs.Heads.{is_of_header, HeadOf, head_of}
use Rattle.typescript_ties.proofs.OutsidePlaces.{decorated, plain_round, plain_chain, outer_round, decorator_has, child_out}
use Rattle.typescript_ties.proofs.ParameterLists.{is_parameter_kind, is_list_kind, tells_decorator, stands_in_list, stands_deeper, tells_parameters, tree_parameters, AllBefore, before_later, before_append, outside_before}
use Rattle.typescript_ties.proofs.UndeclaredFree.{OfEntered, IsEnteredIn, all_entered}
use Rattle.typescript_ties.proofs.Unheaded.{is_unheaded, stands_unheaded, tree_unheaded, child_unheaded}

-- no type parameters on the way to a node stand directly in the program
abbrev pub AreDeep : Node → List Node → Type 0
AreDeep child [] = Unit {0}
AreDeep child (f ∷ path) = (is kind.TSTypeParameterDeclaration child ≡ true → f.node_id ≡ 0 → ⊥) × AreDeep f path

module _ (p : Tree) where
  abbrev s : SourceType
  s = p.source_type

  abbrev pub round_place : Place → List Container
  round_place q = containers s q.node q.path

  -- the scope of a function is seen from its header, where its type parameters are declared
  pub record IsHeaded (o : OpenScope) : Type 0 where
    pub place : Place
    pub entered : Among (entering place) (steps p)
    pub opener : o.opener ≡ place.node.node_id
    pub header : is_function place.node.kind ≡ true → o.in_header ≡ true

  -- a container round a place is what a node has round one of its children
  pub record HasOrigin (c : Container) : Type 0 where
    pub place : Place
    pub entered : Among (entering place) (steps p)
    pub child : Node
    pub among : Among c (containers_by place.node.kind s place.node place.path (round_place place) child)
    pub stands : c.node ≡ place.node.node_id

  -- these scopes are those of the containers
  pub record HeadIn (chain : List OpenScope) (cs : List Container) : Type 0 where
    pub opener : (b : Bool) → is_apart (bound_container b cs).kind ≡ false → (innermost chain).opener ≡ (bound_container b cs).node
    pub lasting : (b : Bool) → is_apart (bound_container b cs).kind ≡ false → (innermost chain).body ≡ None
    pub in_body : (b : Bool) → is_container container.Body (bound_container b cs) ≡ true → (innermost chain).in_header ≡ false
    pub in_header : (b : Bool) → is_of_header (bound_container b cs) ≡ true → IsHeaded (innermost chain)
    pub among : (b : Bool) → is_apart (bound_container b cs).kind ≡ false → Among (bound_container b cs) cs
    pub origin : (c : Container) → Among c cs → (is_apart c.kind ≡ true) ⊎ HasOrigin c

  abbrev pub HeadAt : Place → Type 0
  HeadAt q = HeadIn q.chain (round_place q)

  -- what is known of a place
  pub record IsCommonPlace (q : Place) : Type 0 where
    pub head : HeadAt q
    pub no_with : same_kind q.node.kind kind.WithStatement ≡ false
    pub source : q.source_type ≡ s
    -- the containers stand at nodes before this one, but for the program's own
    pub up_to : AllBefore (suc q.node.node_id) (round_place q)
    pub later : same_kind q.node.kind kind.Program ≡ false → 1 ≤ q.node.node_id
    pub deep : AreDeep q.node q.path
    pub before : same_kind q.node.kind kind.Program ≡ false → AllBefore q.node.node_id (round_place q)
    -- of a list of parameters, outside of the function
    pub out : is_list_kind q.node.kind ≡ true → HeadIn (outside q.chain) (outside_function (round_place q))
    pub unheaded : is_unheaded q.node.kind ≡ true → (innermost q.chain).in_header ≡ false

  abbrev pub CommonStep : Step → Type 0
  CommonStep (entering q) = IsCommonPlace q
  CommonStep (opening q o) = Unit {0}
  CommonStep (header_ending q o) = Unit {0}
  CommonStep (closing q o) = Unit {0}
  CommonStep (leaving q) = Unit {0}

  -- ---- one child

  module _ (q : Place) (entered : Among (entering q) (steps p)) (k : IsCommonPlace q) (r : Role) (node : Node) (text : List ℕ)
      (chain : List OpenScope) (is_chain : ChainOf q.node.kind r q.node q.chain chain)
      (tells : tells_inside q.node.kind r node.kind text ≡ true) (headed : tells_header q.node.kind r node.kind text ≡ true) where
    abbrev outer : List Container
    outer = round_place q

    abbrev group : List Container
    group = containers_by q.node.kind s q.node q.path outer node

    abbrev inner : List Container
    inner = group ++ outer

    header_is : is_function q.node.kind ≡ true → same_truth (is_in_header q.node.kind r) (is_of_signature node) ≡ true
    header_is f = go (is_function q.node.kind) f headed
      where
        go : (a : Bool) → a ≡ true → (not a || same_truth (is_in_header q.node.kind r) (is_of_signature node)) ≡ true → same_truth (is_in_header q.node.kind r) (is_of_signature node) ≡ true
        go true e h = h
        go false e h = absurd (never (sym e))

    out_of_header : (a b : Bool) → same_truth a b ≡ true → b ≡ false → a ≡ false
    out_of_header true b h e = absurd (never (sym h ∙ e))
    out_of_header false b h e = refl

    into_header : (a b : Bool) → same_truth a b ≡ true → b ≡ true → a ≡ true
    into_header true b h e = refl
    into_header false b h e = absurd (never (sym h ∙ ap not e))

    abbrev head : Bool → Container
    head b = bound_container b inner

    abbrev Heads : Bool → Type 0
    Heads b = HeadOf q.node.kind r q.node node group (head b)

    heads : (b : Bool) → Heads b
    heads b = head_of s q.node node q.path outer r b outer q.node.kind k.no_with (told_by_kind q.node.kind r node.kind text tells)

    -- outside of the scope all is as for the parent
    kept : (P : List OpenScope → Container → Type 0) → (b : Bool) → P q.chain (bound_container b outer) → group ≡ [] → is_inside q.node.kind r ≡ false → P chain (head b)
    kept P b h e i = subst (λ g. P chain (bound_container b (g ++ outer))) (sym e) (go is_chain)
      where
        go : {cs : List OpenScope} → ChainOf q.node.kind r q.node q.chain cs → P cs (bound_container b outer)
        go (outer_chain w) = h
        go (inner_chain o w x y z) = absurd (never (sym w ∙ i))

    own : (Q : OpenScope → Type 0) → is_inside q.node.kind r ≡ true → ((o : OpenScope) → o.opener ≡ q.node.node_id → o.in_header ≡ is_in_header q.node.kind r → (same_kind q.node.kind kind.CatchClause ≡ false → o.body ≡ None) → Q o) → Q (innermost chain)
    own Q i f = go is_chain
      where
        go : {cs : List OpenScope} → ChainOf q.node.kind r q.node q.chain cs → Q (innermost cs)
        go (outer_chain w) = absurd (never (sym i ∙ w))
        go (inner_chain o w x y z) = f o x y z

    opener_at : (b : Bool) → is_apart (head b).kind ≡ false → (innermost chain).opener ≡ (head b).node
    opener_at b a = elim (heads b) [
      | inl e ↦ kept (λ cs c. is_apart c.kind ≡ false → (innermost cs).opener ≡ c.node) b (k.head.opener b) e.0 e.1 a
      | inr e ↦ elim e [
        | inl f ↦ absurd (never (sym f.apart ∙ a))
        | inr f ↦ own (λ o. o.opener ≡ (head b).node) f.1 (λ o x y z. x ∙ sym f.0.node)
      ]
    ]

    lasting_at : (b : Bool) → is_apart (head b).kind ≡ false → (innermost chain).body ≡ None
    lasting_at b a = elim (heads b) [
      | inl e ↦ kept (λ cs c. is_apart c.kind ≡ false → (innermost cs).body ≡ None) b (k.head.lasting b) e.0 e.1 a
      | inr e ↦ elim e [
        | inl f ↦ absurd (never (sym f.apart ∙ a))
        | inr f ↦ own (λ o. o.body ≡ None) f.1 (λ o x y z. z f.0.no_clause)
      ]
    ]

    in_body_at : (b : Bool) → is_container container.Body (head b) ≡ true → (innermost chain).in_header ≡ false
    in_body_at b a = elim (heads b) [
      | inl e ↦ kept (λ cs c. is_container container.Body c ≡ true → (innermost cs).in_header ≡ false) b (k.head.in_body b) e.0 e.1 a
      | inr e ↦ elim e [
        | inl f ↦ absurd (never (sym a ∙ f.no_body))
        | inr f ↦ own (λ o. o.in_header ≡ false) f.1 (λ o x y z. y ∙ out_of_header (is_in_header q.node.kind r) (is_of_signature node) (header_is (f.0.in_body a).0) (f.0.in_body a).1)
      ]
    ]

    in_header_at : (b : Bool) → is_of_header (head b) ≡ true → IsHeaded (innermost chain)
    in_header_at b a = elim (heads b) [
      | inl e ↦ kept (λ cs c. is_of_header c ≡ true → IsHeaded (innermost cs)) b (k.head.in_header b) e.0 e.1 a
      | inr e ↦ elim e [
        | inl f ↦ absurd (never (sym a ∙ f.no_header))
        | inr f ↦ own IsHeaded f.1 (λ o x y z. record {
          place = q;
          entered = entered;
          opener = x;
          header = λ w. y ∙ into_header (is_in_header q.node.kind r) (is_of_signature node) (header_is w) (f.0.in_header a w);
        })
      ]
    ]

    left_among : (c : Container) (g cs : List Container) → Among c g → Among c (g ++ cs)
    left_among c [] cs a = absurd a
    left_among c (d ∷ g) cs (inl e) = inl e
    left_among c (d ∷ g) cs (inr a) = inr (left_among c g cs a)

    among_at : (b : Bool) → is_apart (head b).kind ≡ false → Among (head b) inner
    among_at b a = elim (heads b) [
      | inl e ↦ subst (λ g. Among (bound_container b (g ++ outer)) (g ++ outer)) (sym e.0) (k.head.among b (subst (λ g. is_apart (bound_container b (g ++ outer)).kind ≡ false) e.0 a))
      | inr e ↦ elim e [
        | inl f ↦ absurd (never (sym f.apart ∙ a))
        | inr f ↦ left_among (head b) group outer f.0.among
      ]
    ]

    origin_at : (c : Container) → Among c inner → (is_apart c.kind ≡ true) ⊎ HasOrigin c
    origin_at c a = elim (among_cases c group outer a) [
      | inl b ↦ inr (record { place = q; entered = entered; child = node; among = b; stands = stands_by s q.node node q.path outer q.node.kind c b })
      | inr b ↦ k.head.origin c b
    ]

    pub child_head : HeadIn chain inner
    child_head = record { opener = opener_at; lasting = lasting_at; in_body = in_body_at; in_header = in_header_at; among = among_at; origin = origin_at }

  -- ---- any child, be it a decorator

  module _ (q : Place) (entered : Among (entering q) (steps p)) (k : IsCommonPlace q) (r : Role) (node : Node) (text : List ℕ) (own : Option OpenScope) (cursor : ℕ) (params : tells_parameters q.node.kind r node.kind text ≡ true)
      (reached : is_inside q.node.kind r ≡ true → own ≡ None → ⊥) (own_is : OwnOf q own)
      (tells : tells_inside q.node.kind r node.kind text ≡ true) (headed : tells_header q.node.kind r node.kind text ≡ true)
      (no_with : same_kind node.kind kind.WithStatement ≡ false) (stands : stands_unheaded q.node.kind r node.kind text ≡ true) (later : suc q.node.node_id ≤ node.node_id) where
    abbrev child : Place
    child = child_place q own cursor r node

    abbrev decorates : Bool
    decorates = decorated s q r node text own cursor params reached own_is

    abbrev around : List Container
    around = containers_by q.node.kind s q.node q.path (round_place q) node

    child_at : HeadAt child
    child_at = elim (cases_Bool decorates) [
      | inl e ↦ decorator_has s q r node text own cursor params reached own_is HeadIn k.out e
      | inr e ↦ subst (HeadIn child.chain) (sym (plain_round s q r node text own cursor params reached own_is e)) (child_head q entered k r node text child.chain (plain_chain s q r node text own cursor params reached own_is e) tells headed)
    ]

    child_before : AllBefore node.node_id (round_place child)
    child_before =
        let outer : AllBefore node.node_id (round_place q) = before_later (suc q.node.node_id) node.node_id (round_place q) later k.up_to in
        elim (cases_Bool decorates) [
          | inl e ↦ subst (AllBefore node.node_id) (sym (outer_round s q r node text own cursor params reached own_is e)) (outside_before node.node_id (round_place q) outer)
          | inr e ↦ subst (AllBefore node.node_id) (sym (plain_round s q r node text own cursor params reached own_is e))
              (before_append node.node_id around (round_place q) (λ c a. (let w : c.node ≡ q.node.node_id = stands_by s q.node node q.path (round_place q) q.node.kind c a in omega (arith, w, later))) outer)
        ]

    child_deep : is kind.TSTypeParameterDeclaration node ≡ true → q.node.node_id ≡ 0 → ⊥
    child_deep i z = go (same_kind q.node.kind kind.Program) refl (and_second (stands_in_list q.node.kind r node.kind) (stands_deeper q.node.kind node.kind) (and_second (tells_decorator q.node.kind r node.kind) (stands_in_list q.node.kind r node.kind && stands_deeper q.node.kind node.kind) params))
      where
        go : (b : Bool) → same_kind q.node.kind kind.Program ≡ b → (not b || not (holds_kind (kind.TSTypeParameterDeclaration ∷ []) node.kind)) ≡ true → ⊥
        go true e h = never (sym h ∙ ap not (subst (λ j. holds_kind (kind.TSTypeParameterDeclaration ∷ []) j ≡ true) (sym (kind_is node.kind kind.TSTypeParameterDeclaration i)) refl))
        go false e h = let w : 1 ≤ q.node.node_id = k.later e in absurd (omega (arith, w, z))

    child_is_unheaded : is_unheaded node.kind ≡ true → (innermost child.chain).in_header ≡ false
    child_is_unheaded u = elim (cases_Bool decorates) [
      | inl e ↦ absurd (never (sym u ∙ subst (λ j. is_unheaded j ≡ false) (sym (kind_is node.kind kind.Decorator (and_second (is_parameter_kind q.node.kind) (same_kind node.kind kind.Decorator) e))) refl))
      | inr e ↦ child_unheaded q.node.kind r node.kind text q.node q.chain child.chain k.unheaded stands (plain_chain s q r node text own cursor params reached own_is e) u
    ]

    pub child_common : IsCommonPlace child
    child_common = record {
      head = child_at;
      no_with = no_with;
      source = k.source;
      up_to = before_later node.node_id (suc node.node_id) (round_place child) (omega arith) child_before;
      later = λ e. omega (arith, later);
      deep = (child_deep, k.deep);
      before = λ e. child_before;
      unheaded = child_is_unheaded;
      out = child_out s q r node text own cursor params reached own_is HeadIn k.out k.before k.head;
    }

  -- ---- all children

  common_below : (q : Place) (own : Option OpenScope) (n cursor : ℕ) (f : Forest) (j : ℕ) → Among (entering q) (steps p) → IsCommonPlace q → OwnOf q own → numbered j f ≡ f → suc q.node.node_id ≤ j → is_common_forest f ≡ true
      → holds_below tells_inside q.node.kind f ≡ true → holds_below tells_header q.node.kind f ≡ true → holds_below tells_parameters q.node.kind f ≡ true → holds_below stands_unheaded q.node.kind f ≡ true
      → EachStep (OfEntered (IsEnteredIn (steps p))) (steps_below q own n cursor f) → EachStep CommonStep (steps_below q own n cursor f)
  common_below q own n cursor nothing j a k o e l c t h i u es = last_case (EachStep CommonStep) q own n tt (tt, (tt, tt))
  common_below q own n cursor (tree r k2 span text marks below id after) j a k o e l c t h i u es =
      let node : Node = record { kind = k2; span = span; text = text; marks = marks; children = below; node_id = id } in
      let turn : Turn = turn_at q own n cursor r node after in
      let entered : EachOfTurn (OfEntered (IsEnteredIn (steps p))) turn = turn_of_each (OfEntered (IsEnteredIn (steps p))) turn es in
      let number : FirstNumbered j id below after = first_numbered j r k2 span text marks below id after e in
      let forests : (is_common_forest below && is_common_forest after) ≡ true = and_second (is_common_child k2) (is_common_forest below && is_common_forest after) c in
      let tells : (holds_below tells_inside k2 below && holds_below tells_inside q.node.kind after) ≡ true = and_second (tells_inside q.node.kind r k2 text) (holds_below tells_inside k2 below && holds_below tells_inside q.node.kind after) t in
      let headed : (holds_below tells_header k2 below && holds_below tells_header q.node.kind after) ≡ true = and_second (tells_header q.node.kind r k2 text) (holds_below tells_header k2 below && holds_below tells_header q.node.kind after) h in
      let params : (holds_below tells_parameters k2 below && holds_below tells_parameters q.node.kind after) ≡ true = and_second (tells_parameters q.node.kind r k2 text) (holds_below tells_parameters k2 below && holds_below tells_parameters q.node.kind after) i in
      let unheaded : (holds_below stands_unheaded k2 below && holds_below stands_unheaded q.node.kind after) ≡ true = and_second (stands_unheaded q.node.kind r k2 text) (holds_below stands_unheaded k2 below && holds_below stands_unheaded q.node.kind after) u in
      let own_is : OwnOf q turn.scope = own_of q r own n o in
      let child : IsCommonPlace turn.child = child_common q a k r node text turn.scope cursor
      (and_first (tells_parameters q.node.kind r k2 text) (holds_below tells_parameters k2 below && holds_below tells_parameters q.node.kind after) i)
      (is_open_inside q r own n) own_is
      (and_first (tells_inside q.node.kind r k2 text) (holds_below tells_inside k2 below && holds_below tells_inside q.node.kind after) t)
      (and_first (tells_header q.node.kind r k2 text) (holds_below tells_header k2 below && holds_below tells_header q.node.kind after) h)
      (not-true (same_kind k2 kind.WithStatement) (and_first (is_common_child k2) (is_common_forest below && is_common_forest after) c))
      (and_first (stands_unheaded q.node.kind r k2 text) (holds_below stands_unheaded k2 below && holds_below stands_unheaded q.node.kind after) u) (omega (arith, number.first, l)) in
      each_of_turn CommonStep turn (record {
        before = opening_case (EachStep CommonStep) q r own n tt (tt, tt);
        whole = each_of_node CommonStep turn.child turn.below child
            (common_below turn.child None turn.next turn.inner below (j + 1) entered.whole.0 child tt number.inner (omega (arith, number.first)) (and_first (is_common_forest below) (is_common_forest after) forests) (and_first (holds_below tells_inside k2 below) (holds_below tells_inside q.node.kind after) tells)
            (and_first (holds_below tells_header k2 below) (holds_below tells_header q.node.kind after) headed) (and_first (holds_below tells_parameters k2 below) (holds_below tells_parameters q.node.kind after) params) (and_first (holds_below stands_unheaded k2 below) (holds_below stands_unheaded q.node.kind after) unheaded)
            (each_left (OfEntered (IsEnteredIn (steps p))) turn.below (leaving turn.child ∷ []) entered.whole.1)) tt;
        behind = ending_case (EachStep CommonStep) q r turn.scope after tt (λ o. (tt, tt)) (λ o. (tt, tt)) (λ o. (tt, (tt, tt)));
        others = common_below q turn.scope turn.rest turn.past after (j + 1 + count below) a k own_is number.others (omega (arith, l)) (and_second (is_common_forest below) (is_common_forest after) forests) (and_second (holds_below tells_inside k2 below) (holds_below tells_inside q.node.kind after) tells)
            (and_second (holds_below tells_header k2 below) (holds_below tells_header q.node.kind after) headed) (and_second (holds_below tells_parameters k2 below) (holds_below tells_parameters q.node.kind after) params) (and_second (holds_below stands_unheaded k2 below) (holds_below stands_unheaded q.node.kind after) unheaded) entered.others;
      })

  root_common : first_fault p ≡ None → IsCommonPlace (root_place p)
  root_common h = record {
    head = record {
      opener = λ b e. absurd (never (at b e));
      lasting = λ b e. absurd (never (at b e));
      in_body = λ b e. absurd (never (sym (no_body b e)));
      in_header = λ b e. absurd (never (sym (no_header b e)));
      among = λ b e. absurd (never (at b e));
      origin = λ c a. elim a [ inl e ↦ inl (ap (λ (d : Container). is_apart d.kind) (sym e)) | inr f ↦ absurd f ];
    };
    no_with = subst (λ k. same_kind k kind.WithStatement ≡ false) (sym (has_form p h).root) refl;
    source = refl;
    up_to = (omega arith, tt);
    later = λ e. absurd (never (sym (ap (λ k. same_kind k kind.Program) (has_form p h).root) ∙ e));
    deep = tt;
    before = λ e. absurd (never (sym (ap (λ k. same_kind k kind.Program) (has_form p h).root) ∙ e));
    out = λ e. absurd (never (sym (subst (λ k. is_list_kind k ≡ true) (has_form p h).root e)));
    unheaded = λ e. refl;
  }
    where
      at : (b : Bool) → is_apart (bound_container b (round_place (root_place p))).kind ≡ false → true ≡ false
      at true e = e
      at false e = e

      no_body : (b : Bool) → is_container container.Body (bound_container b (round_place (root_place p))) ≡ true → false ≡ true
      no_body true e = e
      no_body false e = e

      no_header : (b : Bool) → is_of_header (bound_container b (round_place (root_place p))) ≡ true → false ≡ true
      no_header true e = e
      no_header false e = e

  pub common_places : first_fault p ≡ None → is_common p ≡ true → IsNumbered p.root → EachStep CommonStep (steps p)
  common_places h c e =
      let root : Place = root_place p in
      let n : ℕ = on_entering p.root.kind 0 in
      let below : List Step = steps_below root None 0 n p.root.children in
      let es : EachStep (OfEntered (IsEnteredIn (steps p))) (steps p) = all_entered (steps p) (steps p) (λ st a. a) in
      let number : (p.root.node_id ≡ 0) × (numbered 1 p.root.children ≡ p.root.children) = root_numbered p e in
      each_of_node CommonStep root below (root_common h)
      (common_below root None 0 n p.root.children 1 es.0 (root_common h) tt number.1 (omega (arith, number.0)) c (tree_tells p h) (tree_headed p h) (tree_parameters p h) (tree_unheaded p h) (each_left (OfEntered (IsEnteredIn (steps p))) below (leaving root ∷ []) es.1)) tt
