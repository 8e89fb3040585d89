-- At each statement, where the variables go that it declares, by its scopes and by its containers.
use Rattle.std.proofs.Common.{◌≡◌, ℕ, List, [], ◌∷◌, ◌++◌, Option, Some, None, Bool, true, false, ◌&&◌, cond, refl, sym, ap, subst, ◌∙◌, inl, inr}
use Rattle.semantic_syntax.proofs.Truth.{and_first, and_second, and_false}
use Rattle.semantic_kinds.specs.Kinds.{same_kind}
use Rattle.semantic_kinds.specs.declared.kind.AstType.{AstType}
use Rattle.semantic_kinds.specs.declared.kind.AstType.TheVariants as kind
use Rattle.semantic_kinds.specs.declared.role.Role.{Role}
use Rattle.semantic_tree.specs.Faults.{first_fault}
use Rattle.semantic_tree.specs.Forest.{Forest, nothing, tree}
use Rattle.semantic_tree.specs.Tree.{Tree, IsNumbered}
use Rattle.semantic_tree.specs.declared.node.Node.{Node}
use Rattle.semantic_model.specs.Binder.{is_var}
use Rattle.semantic_model.specs.Cursor.{on_entering}
use Rattle.semantic_model.specs.Declaration.{passed_before, first_with}
use Rattle.semantic_model.specs.EachStep.{EachStep}
use Rattle.semantic_model.specs.Entries.{Among}
use Rattle.semantic_model.specs.Inside.{is_inside, is_in_header, is_parameter_decorator}
use Rattle.semantic_model.specs.Place.{Place, OpenScope, innermost, outside}
use Rattle.semantic_model.specs.ScopeKind.{opened_scope}
use Rattle.semantic_model.specs.Step.{Step, entering, opening, header_ending, closing, leaving, steps, steps_below, root_place, scope_at, child_place, child_scopes}
use Rattle.semantic_model.proofs.form.ParameterChains.{is_open_inside}
use Rattle.semantic_model.proofs.form.Shape.{has_form}
use Rattle.semantic_model.proofs.lists.Members.{among_left, among_right}
use Rattle.semantic_model.proofs.steps.EachStep.{EachOfTurn, each_left, each_of_node, each_of_turn, turn_of_each}
use Rattle.semantic_model.proofs.steps.Turn.{Turn, turn_at}
use Rattle.semantic_model.proofs.steps.TurnCases.{opening_case, ending_case, last_case}
use Rattle.walk_model.proofs.places.Shapes.{holds_below}
use Rattle.binding_laws.proofs.SmallLaws.{never}
use Rattle.typescript_ties.specs.Containers.{Container, bound_container, outside_function, containers_by}
use Rattle.typescript_ties.specs.NamedDeclarations.{from_first_taking}
use Rattle.typescript_ties.specs.SimpleNames.{is_common, is_apart, before_first_taking}
use Rattle.typescript_ties.proofs.ChildPlaces.{same_truth, tells_inside, told_by_kind, tree_tells}
use Rattle.typescript_ties.proofs.Heads.{is_of_header}
use Rattle.typescript_ties.proofs.HeadPlaces.{IsCommonPlace, CommonStep, common_places, round_place}
use Rattle.typescript_ties.proofs.ParameterLists.{is_parameter_kind, tells_decorator, stands_in_list, stands_deeper, tells_parameters, tree_parameters}
use Rattle.typescript_ties.proofs.VarPlaces.{is_statement_kind, takes_from, is_var_kind, is_placed, tree_places, placed_in, opened_var, statement_no_var, TakesInside, takes_inside, NoneTakes, from_past, before_past, statement_takes_none, statement_has, TakesFirst, takes_first}

-- ---- where variables go

-- by the scopes, and by the containers
pub record TakesIn (chain : List OpenScope) (cs : List Container) : Type 0 where
  pub first : OpenScope
  pub is_first : first_with is_var chain ≡ Some first
  pub among_scopes : Among first chain
  pub opener : (b : Bool) → first.opener ≡ (bound_container b (from_first_taking cs)).node
  pub lasting : first.body ≡ None
  pub in_body : first.in_header ≡ false
  pub free : (b : Bool) → is_apart (bound_container b (from_first_taking cs)).kind ≡ false
  pub no_header : (b : Bool) → is_of_header (bound_container b (from_first_taking cs)) ≡ false
  pub among : (b : Bool) → Among (bound_container b (from_first_taking cs)) cs
  pub passed : (s : OpenScope) → Among s (passed_before is_var chain) → (c : Container) × Among c (before_first_taking cs) × (c.node ≡ s.opener)

-- round a child of a statement without a scope
past_group : (chain : List OpenScope) (g cs : List Container) → NoneTakes g → TakesIn chain cs → TakesIn chain (g ++ cs)
past_group chain g cs n t = record {
  first = t.first;
  is_first = t.is_first;
  among_scopes = t.among_scopes;
  opener = λ b. t.opener b ∙ ap (λ l. (bound_container b l).node) (sym (from_past g cs n));
  lasting = t.lasting;
  in_body = t.in_body;
  free = λ b. subst (λ l. is_apart (bound_container b l).kind ≡ false) (sym (from_past g cs n)) (t.free b);
  no_header = λ b. subst (λ l. is_of_header (bound_container b l) ≡ false) (sym (from_past g cs n)) (t.no_header b);
  among = λ b. subst (λ l. Among (bound_container b l) (g ++ cs)) (sym (from_past g cs n)) (among_right (bound_container b (from_first_taking cs)) g cs (t.among b));
  passed = λ s a. (let (c, i, e) = t.passed s a in (c, subst (Among c) (sym (before_past g cs n)) (among_right c g (before_first_taking cs) i), e));
}

-- or with one
past_scope : (chain : List OpenScope) (g cs : List Container) (s : OpenScope) → NoneTakes g → is_var s ≡ false → (c : Container) × Among c g × (c.node ≡ s.opener) → TakesIn chain cs → TakesIn (s ∷ chain) (g ++ cs)
past_scope chain g cs s n v own t =
    let outer : TakesIn chain (g ++ cs) = past_group chain g cs n t in
    record {
      first = outer.first;
      is_first = ap (λ b. cond b (Some s) (first_with is_var chain)) v ∙ outer.is_first;
      among_scopes = inr outer.among_scopes;
      opener = outer.opener;
      lasting = outer.lasting;
      in_body = outer.in_body;
      free = outer.free;
      no_header = outer.no_header;
      among = outer.among;
      passed = λ z a. elim (subst (λ b. Among z (cond b [] (s ∷ passed_before is_var chain))) v a) [
        | inl e ↦ (own.0, subst (Among own.0) (sym (before_past g cs n)) (among_left own.0 g (before_first_taking cs) own.1), own.2 ∙ ap (λ o. o.opener) e)
        | inr i ↦ outer.passed z i
      ];
    }

-- ---- the scopes round a child

pub data VarChain (k : AstType) (r : Role) (q : Node) (outer : List OpenScope) : List OpenScope → Type 0 where
  outer_var : is_inside k r ≡ false → VarChain k r q outer outer
  inner_var : (s : OpenScope) → is_inside k r ≡ true → s.opener ≡ q.node_id → s.in_header ≡ is_in_header k r → is_var s ≡ is_var_kind k → VarChain k r q outer (s ∷ outer)

abbrev OwnVar : Place → Option OpenScope → Type 0
OwnVar q None = Unit {0}
OwnVar q (Some s) = (s.opener ≡ q.node.node_id) × (is_var s ≡ is_var_kind q.node.kind)

own_var : (q : Place) (r : Role) (own : Option OpenScope) (n : ℕ) → OwnVar q own → OwnVar q (scope_at q r own n)
own_var q r (Some s) n k = k
own_var q r None n k = go (is_inside q.node.kind r)
  where
    go : (b : Bool) → OwnVar q (cond b (Some (opened_scope q n)) None)
    go true = (refl, opened_var q n)
    go false = tt

within_var : (q : Place) (r : Role) (own : Option OpenScope) → (is_inside q.node.kind r ≡ true → own ≡ None → ⊥) → OwnVar q own → VarChain q.node.kind r q.node q.chain (child_scopes q r own)
within_var q r None reached o = go (is_inside q.node.kind r) refl
  where
    go : (b : Bool) → is_inside q.node.kind r ≡ b → VarChain q.node.kind r q.node q.chain q.chain
    go true w = absurd (reached w refl)
    go false w = outer_var w
within_var q r (Some s) reached o = go (is_inside q.node.kind r) refl
  where
    go : (b : Bool) → is_inside q.node.kind r ≡ b → VarChain q.node.kind r q.node q.chain (cond b (record s { in_header = is_in_header q.node.kind r } ∷ q.chain) q.chain)
    go true w = inner_var (record s { in_header = is_in_header q.node.kind r }) w o.0 refl o.1
    go false w = outer_var w

chain_var : (q : Place) (r : Role) (own : Option OpenScope) (cursor : ℕ) (node : Node) → is_parameter_decorator q.node.kind r ≡ false → (is_inside q.node.kind r ≡ true → own ≡ None → ⊥) → OwnVar q own → VarChain q.node.kind r q.node q.chain (child_place q own cursor r node).chain
chain_var q r own cursor node u reached o = subst (λ b. VarChain q.node.kind r q.node q.chain (cond b (outside q.chain) (child_scopes q r own))) (sym u) (within_var q r own reached o)

-- ---- no statement is a decorator

abbrev decorates : AstType → AstType → Bool
decorates k k2 = is_parameter_kind k && same_kind k2 kind.Decorator

no_decorator : (k k2 : AstType) → is_statement_kind k2 ≡ true → decorates k k2 ≡ false
no_decorator k kind.Decorator e = absurd (never (sym e))
no_decorator k _ e = and_false (is_parameter_kind k)

by_role : (k : AstType) (r : Role) (k2 : AstType) (text : List ℕ) → tells_parameters k r k2 text ≡ true → decorates k k2 ≡ false → is_parameter_decorator k r ≡ false
by_role k r k2 text t e = go (is_parameter_decorator k r) (decorates k k2) (and_first (tells_decorator k r k2) (stands_in_list k r k2 && stands_deeper k k2) t) e
  where
    go : (a b : Bool) → same_truth a b ≡ true → b ≡ false → a ≡ false
    go true b h i = absurd (never (sym h ∙ i))
    go false b h i = refl

module _ (p : Tree) where
  -- at a statement
  abbrev pub StandsWell : Place → Type 0
  StandsWell q = is_statement_kind q.node.kind ≡ true → TakesIn q.chain (round_place p q)

  abbrev pub StandingStep : Step → Type 0
  StandingStep (entering q) = StandsWell q
  StandingStep (opening q o) = Unit {0}
  StandingStep (header_ending q o) = Unit {0}
  StandingStep (closing q o) = Unit {0}
  StandingStep (leaving q) = Unit {0}

  -- ---- one child

  module _ (q : Place) (k : IsCommonPlace p q) (well : StandsWell q) (r : Role) (node : Node) (text : List ℕ) (c : Place) (common : IsCommonPlace p c)
      (tells : tells_inside q.node.kind r node.kind text ≡ true) (is_child : is_statement_kind node.kind ≡ true)
      (round : round_place p c ≡ containers_by q.node.kind p.source_type q.node q.path (round_place p q) node ++ round_place p q) where
    abbrev outer : List Container
    outer = round_place p q

    abbrev group : List Container
    group = containers_by q.node.kind p.source_type q.node q.path outer node

    in_statement : (chain : List OpenScope) → VarChain q.node.kind r q.node q.chain chain → is_statement_kind q.node.kind ≡ true → TakesIn chain (group ++ outer)
    in_statement chain (outer_var i) e = past_group q.chain group outer (statement_takes_none p.source_type q.node node q.path outer r q.node.kind e k.no_with) (well e)
    in_statement chain (inner_var s i opener header var) e =
        let (d, a, n) = statement_has p.source_type q.node node q.path outer r q.node.kind refl e k.no_with i (told_by_kind q.node.kind r node.kind text tells) in
        past_scope q.chain group outer s (statement_takes_none p.source_type q.node node q.path outer r q.node.kind e k.no_with) (var ∙ statement_no_var q.node.kind e) (d, a, n ∙ sym opener) (well e)

    first : (b : Bool) → takes_from q.node.kind r ≡ true → TakesFirst p.source_type q.node node q.path outer r (group ++ outer)
    first b t = takes_first p.source_type q.node node q.path outer r q.node.kind t is_child (told_by_kind q.node.kind r node.kind text tells)

    where_taken : (chain : List OpenScope) → VarChain q.node.kind r q.node q.chain chain → c.chain ≡ chain → takes_from q.node.kind r ≡ true → TakesIn c.chain (round_place p c)
    where_taken chain (outer_var i) e t = absurd (never (sym (takes_inside q.node.kind r t).inside ∙ i))
    where_taken chain (inner_var s i opener header var) e t =
        let inside : TakesInside q.node.kind r = takes_inside q.node.kind r t in
        let w : TakesFirst p.source_type q.node node q.path outer r (round_place p c) = subst (TakesFirst p.source_type q.node node q.path outer r) (sym round) (first true t) in
        let is_s : is_var s ≡ true = var ∙ inside.var in
        record {
          first = s;
          is_first = ap (first_with is_var) e ∙ ap (λ b. cond b (Some s) (first_with is_var q.chain)) is_s;
          among_scopes = subst (Among s) (sym e) (inl refl);
          opener = λ b. ap (λ l. (innermost l).opener) (sym e) ∙ common.head.opener b (w.free b) ∙ ap (λ l. (bound_container b l).node) (sym w.first);
          lasting = ap (λ l. (innermost l).body) (sym e) ∙ common.head.lasting true (w.free true);
          in_body = header ∙ inside.header;
          free = λ b. subst (λ l. is_apart (bound_container b l).kind ≡ false) (sym w.first) (w.free b);
          no_header = λ b. subst (λ l. is_of_header (bound_container b l) ≡ false) (sym w.first) (w.no_header b);
          among = λ b. subst (λ l. Among (bound_container b l) (round_place p c)) (sym w.first) (common.head.among b (w.free b));
          passed = λ z a. absurd (none (is_var s) is_s z (subst (λ l. Among z (passed_before is_var l)) e a));
        }
      where
        none : (b : Bool) → b ≡ true → (z : OpenScope) → Among z (cond b [] (s ∷ passed_before is_var q.chain)) → ⊥
        none true i z a = a
        none false i z a = never (sym i)

    pub child_stands : (chain : List OpenScope) → VarChain q.node.kind r q.node q.chain chain → c.chain ≡ chain → is_placed q.node.kind r node.kind text ≡ true → TakesIn c.chain (round_place p c)
    child_stands chain v e placed = elim (placed_in q.node.kind r node.kind text placed is_child) [
      | inl i ↦ subst (λ l. TakesIn l (round_place p c)) (sym e) (subst (TakesIn chain) (sym round) (in_statement chain v i))
      | inr t ↦ where_taken chain v e t
    ]

  -- ---- all places

  stand_below : (q : Place) (own : Option OpenScope) (n cursor : ℕ) (f : Forest) → IsCommonPlace p q → StandsWell q → OwnVar q own → holds_below tells_inside q.node.kind f ≡ true → holds_below is_placed q.node.kind f ≡ true → holds_below tells_parameters q.node.kind f ≡ true
      → EachStep (CommonStep p) (steps_below q own n cursor f) → EachStep StandingStep (steps_below q own n cursor f)
  stand_below q own n cursor nothing k g o t h i ks = last_case (EachStep StandingStep) q own n tt (tt, (tt, tt))
  stand_below q own n cursor (tree r k2 span text marks below id after) k g o t h i ks =
      let node : Node = record { kind = k2; span = span; text = text; marks = marks; children = below; node_id = id } in
      let turn : Turn = turn_at q own n cursor r node after in
      let commons : EachOfTurn (CommonStep p) turn = turn_of_each (CommonStep p) turn ks in
      let tells : (holds_below tells_inside k2 below && holds_below tells_inside q.node.kind after) ≡ true = and_second (tells_inside q.node.kind r k2 text) (holds_below tells_inside k2 below && holds_below tells_inside q.node.kind after) t in
      let places : (holds_below is_placed k2 below && holds_below is_placed q.node.kind after) ≡ true = and_second (is_placed q.node.kind r k2 text) (holds_below is_placed k2 below && holds_below is_placed q.node.kind after) h in
      let params : (holds_below tells_parameters k2 below && holds_below tells_parameters q.node.kind after) ≡ true = and_second (tells_parameters q.node.kind r k2 text) (holds_below tells_parameters k2 below && holds_below tells_parameters q.node.kind after) i in
      let own_is : OwnVar q turn.scope = own_var q r own n o in
      let child : StandsWell turn.child = λ e. (let plain : decorates q.node.kind k2 ≡ false = no_decorator q.node.kind k2 e in
      child_stands q k g r node text turn.child commons.whole.0
      (and_first (tells_inside q.node.kind r k2 text) (holds_below tells_inside k2 below && holds_below tells_inside q.node.kind after) t) e
      (ap (λ b. cond b (outside_function (round_place p q)) (containers_by q.node.kind p.source_type q.node q.path (round_place p q) node ++ round_place p q)) plain)
      (child_place q turn.scope cursor r node).chain
      (chain_var q r turn.scope cursor node (by_role q.node.kind r k2 text (and_first (tells_parameters q.node.kind r k2 text) (holds_below tells_parameters k2 below && holds_below tells_parameters q.node.kind after) i) plain) (is_open_inside q r own n) own_is)
      refl (and_first (is_placed q.node.kind r k2 text) (holds_below is_placed k2 below && holds_below is_placed q.node.kind after) h)) in
      each_of_turn StandingStep turn (record {
        before = opening_case (EachStep StandingStep) q r own n tt (tt, tt);
        whole = each_of_node StandingStep turn.child turn.below child
            (stand_below turn.child None turn.next turn.inner below commons.whole.0 child tt (and_first (holds_below tells_inside k2 below) (holds_below tells_inside q.node.kind after) tells) (and_first (holds_below is_placed k2 below) (holds_below is_placed q.node.kind after) places)
            (and_first (holds_below tells_parameters k2 below) (holds_below tells_parameters q.node.kind after) params) (each_left (CommonStep p) turn.below (leaving turn.child ∷ []) commons.whole.1)) tt;
        behind = ending_case (EachStep StandingStep) q r turn.scope after tt (λ o. (tt, tt)) (λ o. (tt, tt)) (λ o. (tt, (tt, tt)));
        others = stand_below q turn.scope turn.rest turn.past after k g own_is (and_second (holds_below tells_inside k2 below) (holds_below tells_inside q.node.kind after) tells) (and_second (holds_below is_placed k2 below) (holds_below is_placed q.node.kind after) places)
            (and_second (holds_below tells_parameters k2 below) (holds_below tells_parameters q.node.kind after) params) commons.others;
      })

  pub all_stand_well : first_fault p ≡ None → is_common p ≡ true → IsNumbered p.root → EachStep StandingStep (steps p)
  all_stand_well h c e =
      let root : Place = root_place p in
      let n : ℕ = on_entering p.root.kind 0 in
      let below : List Step = steps_below root None 0 n p.root.children in
      let ks : EachStep (CommonStep p) (steps p) = common_places p h c e in
      let root_well : StandsWell root = λ i. absurd (never (sym (subst (λ k. is_statement_kind k ≡ true) (has_form p h).root i))) in
      each_of_node StandingStep root below root_well
      (stand_below root None 0 n p.root.children ks.0 root_well tt (tree_tells p h) (tree_places p h) (tree_parameters p h) (each_left (CommonStep p) below (leaving root ∷ []) ks.1)) tt
