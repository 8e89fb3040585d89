-- A `var` that passes the body of a clause passes the clause.
use Rattle.std.proofs.Common.{◌≡◌, ℕ, List, [], ◌∷◌, Option, Some, None, Bool, true, false, cond, inl, inr, refl, sym, ap, subst, ◌∙◌}
use Rattle.std.specs.Prelude.{slice_get}
use Rattle.std.proofs.lemmas.Bool.Decides.{eqb_tells}
use Rattle.semantic_syntax.specs.Members.{contains}
use Rattle.semantic_syntax.specs.Tables.{Name}
use Rattle.semantic_tree.specs.Faults.{first_fault}
use Rattle.semantic_tree.specs.Forest.{Forest, nothing, tree}
use Rattle.semantic_tree.specs.Tree.{Tree, IsNumbered}
use Rattle.semantic_tree.specs.declared.node.Node.{Node}
use Rattle.semantic_model.specs.Binder.{is_var}
use Rattle.semantic_model.specs.Cursor.{on_entering}
use Rattle.semantic_model.specs.Declaration.{first_with, passed_before, route_from, outward_to}
use Rattle.semantic_model.specs.EachStep.{EachStep}
use Rattle.semantic_model.specs.Entries.{Among}
use Rattle.semantic_model.specs.Place.{Place, OpenScope}
use Rattle.semantic_model.specs.Step.{Step, entering, opening, header_ending, closing, leaving, steps_below, steps, root_place}
use Rattle.semantic_model.specs.TablesOf.{numbers}
use Rattle.semantic_model.proofs.fold.BodyChains.{InTable, AllInTable, IsStepIn}
use Rattle.semantic_model.proofs.fold.Orders.{table_of, steps_in}
use Rattle.semantic_model.proofs.form.ParameterChains.{is_open_inside}
use Rattle.semantic_model.proofs.form.Shape.{has_form}
use Rattle.semantic_model.proofs.steps.EachStep.{EachOfTurn, each_left, each_of_node, each_of_turn, turn_of_each}
use Rattle.semantic_model.proofs.steps.Turn.{Turn, turn_at}
use Rattle.semantic_model.proofs.steps.TurnCases.{opening_case, ending_case, last_case}
use Rattle.binding_laws.proofs.ChildChains.{ChainOf, outer_chain, inner_chain, OwnOf, own_of, no_decorator, chain_of}
use Rattle.binding_laws.proofs.EnteredOnce.{entered_once}
use Rattle.binding_laws.proofs.ListLaws.{each_at}
use Rattle.binding_laws.proofs.ScopeOpeners.{openers, IsOpened, AllOpened, IsPlaceOpened, places_opened, one_scope}
use Rattle.binding_laws.proofs.SmallLaws.{some_is, never}
use Rattle.language_ties.specs.AgreeingNames.{IsPlainName}
use Rattle.language_ties.specs.Bound.{Bound}
use Rattle.language_ties.specs.EcmaScript.{is_ecmascript}
use Rattle.language_ties.proofs.agree.FamiliarPlaces.{IsFamiliar, FamiliarAt, familiar_program}
use Rattle.language_ties.proofs.agree.KnownBounds.{KnownBound}
use Rattle.language_ties.proofs.agree.KnownNodes.{node_at}
use Rattle.language_ties.proofs.caught.CaughtBounds.{IsTakenBy, taken_by}
use Rattle.language_ties.proofs.own_names.AnyBounds.{declared_known}

module _ (p : Tree) (numbered : IsNumbered p.root) (n : ℕ) (body : Place) (entered_body : Among (entering body) (steps p)) (opens_it : slice_get (openers (steps p)) n ≡ Some body.node.node_id) where
  -- round the scope of the body stand those of its place
  abbrev BodyFollowed : List OpenScope → Type 0
  BodyFollowed [] = Unit {0}
  BodyFollowed (s ∷ ss) = (s.number ≡ n → ss ≡ body.chain) × BodyFollowed ss

  -- what is known of each place, and what is to be shown
  pub record IsOpenPlace (q : Place) : Type 0 where
    pub entered : Among (entering q) (steps p)
    pub familiar : IsFamiliar (node_at p) q
    pub opened : AllOpened (openers (steps p)) q.chain

  abbrev OpenAt : Step → Type 0
  OpenAt (entering q) = IsOpenPlace q
  OpenAt (opening q o) = Unit {0}
  OpenAt (header_ending q o) = Unit {0}
  OpenAt (closing q o) = Unit {0}
  OpenAt (leaving q) = Unit {0}

  abbrev FollowedAt : Step → Type 0
  FollowedAt (entering q) = BodyFollowed q.chain
  FollowedAt (opening q o) = Unit {0}
  FollowedAt (header_ending q o) = Unit {0}
  FollowedAt (closing q o) = Unit {0}
  FollowedAt (leaving q) = Unit {0}

  child_followed : (k : _) (r : _) (q : Place) (chain : List OpenScope) → Among (entering q) (steps p) → AllOpened (openers (steps p)) chain → BodyFollowed q.chain → ChainOf k r q.node q.chain chain → BodyFollowed chain
  child_followed k r q _ a w f (outer_chain i) = f
  child_followed k r q _ a w f (inner_chain s i o j _) = (
    λ number. (let node : q.node.node_id ≡ body.node.node_id = some_is q.node.node_id body.node.node_id (ap Some (sym o) ∙ sym w.0 ∙ ap (slice_get (openers (steps p))) number ∙ opens_it) in
        ap (λ (z : Place). z.chain) (entered_once p numbered q body a entered_body node)),
    f,
  )

  followed_steps : (q : Place) (own : Option OpenScope) (i cursor : ℕ) (f : Forest) → Among (entering q) (steps p) → BodyFollowed q.chain → OwnOf q own → EachStep OpenAt (steps_below q own i cursor f) → EachStep FollowedAt (steps_below q own i cursor f)
  followed_steps q own i cursor nothing a b o h = last_case (EachStep FollowedAt) q own i tt (tt, (tt, tt))
  followed_steps q own i cursor (tree r k2 span text marks below id after) a b o h =
      let node : Node = record { kind = k2; span = span; text = text; marks = marks; children = below; node_id = id } in
      let turn : Turn = turn_at q own i cursor r node after in
      let sees : EachOfTurn OpenAt turn = turn_of_each OpenAt turn h in
      let one : IsOpenPlace turn.child = sees.whole.0 in
      let o_scope : OwnOf q turn.scope = own_of q r own i o in
      let chain : ChainOf q.node.kind r q.node q.chain turn.child.chain = chain_of q r turn.scope cursor node (no_decorator q.node.kind r one.familiar.undecorated) (is_open_inside q r own i) o_scope in
      let child : BodyFollowed turn.child.chain = child_followed q.node.kind r q turn.child.chain a one.opened b chain in
      each_of_turn FollowedAt turn (record {
        before = opening_case (EachStep FollowedAt) q r own i tt (tt, tt);
        whole = each_of_node FollowedAt turn.child turn.below child (followed_steps turn.child None turn.next turn.inner below one.entered child tt (each_left OpenAt turn.below (leaving turn.child ∷ []) sees.whole.1)) tt;
        behind = ending_case (EachStep FollowedAt) q r turn.scope after tt (λ s. (tt, tt)) (λ s. (tt, tt)) (λ s. (tt, (tt, tt)));
        others = followed_steps q turn.scope turn.rest turn.past after a b o_scope sees.others;
      })

  open_each : (ss : List Step) → ((q : Place) → Among (entering q) ss → Among (entering q) (steps p)) → EachStep (FamiliarAt (node_at p)) ss → EachStep (IsPlaceOpened (openers (steps p))) ss → EachStep OpenAt ss
  open_each [] f a b = tt
  open_each (entering q ∷ ss) f a b = (record { entered = f q (inl refl); familiar = a.0; opened = b.0 }, open_each ss (λ r i. f r (inr i)) a.1 b.1)
  open_each (opening q o ∷ ss) f a b = (tt, open_each ss (λ r i. f r (inr i)) a.1 b.1)
  open_each (header_ending q o ∷ ss) f a b = (tt, open_each ss (λ r i. f r (inr i)) a.1 b.1)
  open_each (closing q o ∷ ss) f a b = (tt, open_each ss (λ r i. f r (inr i)) a.1 b.1)
  open_each (leaving q ∷ ss) f a b = (tt, open_each ss (λ r i. f r (inr i)) a.1 b.1)

  followed_program : first_fault p ≡ None → is_ecmascript p ≡ true → EachStep FollowedAt (steps p)
  followed_program h e =
      let root : Place = root_place p in
      let i : ℕ = on_entering p.root.kind 0 in
      let below : List Step = steps_below root None 0 i p.root.children in
      let all : EachStep OpenAt (steps p) = open_each (steps p) (λ q a. a) (familiar_program p h e numbered) (places_opened p) in
      each_of_node FollowedAt root below tt (followed_steps root None 0 i p.root.children (inl refl) tt tt (each_left OpenAt below (leaving root ∷ []) all.1)) tt

  -- ---- what is passed

  module _ (clause : OpenScope) (round : List OpenScope) (chain_is : body.chain ≡ clause ∷ round) (no_var : is_var clause ≡ false) where
    clause_next : (ss : List OpenScope) → ss ≡ body.chain → contains (numbers (passed_before is_var ss)) clause.number ≡ true
    clause_next ss q = subst (λ l. contains (numbers (passed_before is_var l)) clause.number ≡ true) (sym (q ∙ chain_is))
        (subst (λ b. contains (numbers (cond b [] (clause ∷ passed_before is_var round))) clause.number ≡ true) (sym no_var) (first clause.number))
      where
        first : (m : ℕ) → contains (m ∷ numbers (passed_before is_var round)) m ≡ true
        first m = elim (eqb_tells m m) [ inl i ↦ rw i.0 refl | inr i ↦ absurd (i.1 refl) ]

    more : (m c : ℕ) (ms : List ℕ) → contains ms c ≡ true → contains (m ∷ ms) c ≡ true
    more m c ms w = elim (eqb_tells m c) [ inl i ↦ rw i.0 refl | inr i ↦ rw i.0 w ]

    passed_next : (ss : List OpenScope) → BodyFollowed ss → contains (numbers (passed_before is_var ss)) n ≡ true → contains (numbers (passed_before is_var ss)) clause.number ≡ true
    passed_next [] f h = absurd (never (sym h))
    passed_next (s ∷ ss) f h = go (is_var s) h (passed_next ss f.1)
      where
        go : (b : Bool) → contains (numbers (cond b [] (s ∷ passed_before is_var ss))) n ≡ true → (contains (numbers (passed_before is_var ss)) n ≡ true → contains (numbers (passed_before is_var ss)) clause.number ≡ true) → contains (numbers (cond b [] (s ∷ passed_before is_var ss))) clause.number ≡ true
        go true w later = absurd (never (sym w))
        go false w later = more s.number clause.number (numbers (passed_before is_var ss)) (elim (eqb_tells s.number n) [
          | inl i ↦ clause_next ss (f.0 i.1)
          | inr i ↦ later (rw i.0 at w)
        ])

    route_next : (ss : List OpenScope) → BodyFollowed ss → contains (numbers (outward_to is_var ss).passed) n ≡ true → contains (numbers (outward_to is_var ss).passed) clause.number ≡ true
    route_next ss f h = go (first_with is_var ss) h
      where
        go : (o : Option OpenScope) → contains (numbers (route_from ss (passed_before is_var ss) o).passed) n ≡ true → contains (numbers (route_from ss (passed_before is_var ss) o).passed) clause.number ≡ true
        go None w = absurd (never (sym w))
        go (Some s) w = passed_next ss f w

module _ (p : Tree) (h : first_fault p ≡ None) (e : is_ecmascript p ≡ true) (numbered : IsNumbered p.root) (x : Name) (plain : IsPlainName p x) where
  -- where what takes a declaration over is passed, its own scope is
  pub clause_passed : (b : Bound) (k : KnownBound p h e numbered x plain b) (n : ℕ) → k.declares.declaration.route.target.body ≡ Some n → (q : Place) → Among (entering q) (steps p)
      → contains (numbers (outward_to is_var q.chain).passed) n ≡ true → contains (numbers (outward_to is_var q.chain).passed) k.declares.declaration.route.target.number ≡ true
  clause_passed b k n w q a passes =
      let t : IsTakenBy p b n = taken_by p h e numbered x plain b (inl k) n (ap (λ d. d.route.target.body) (declared_known p h e numbered x plain b k) ∙ w) in
      let in_table : InTable (table_of p) t.clause.clause = (subst (AllInTable (table_of p)) t.clause.chain (each_at (IsStepIn (table_of p)) (steps p) (entering t.place) (steps_in p (has_form p h)) t.entered)).0 in
      let opened : IsOpened (openers (steps p)) t.clause.clause = (subst (AllOpened (openers (steps p))) t.clause.chain (each_at (IsPlaceOpened (openers (steps p))) (steps p) (entering t.place) (places_opened p) t.entered)).0 in
      let number : t.clause.clause.number ≡ k.declares.declaration.route.target.number = one_scope p numbered t.clause.clause k.declares.declaration.route.target opened k.declares.opened (t.clause.opener ∙ t.maker ∙ sym k.declares.maker) in
      let followed : BodyFollowed p numbered n t.place t.entered t.opened q.chain = each_at (FollowedAt p numbered n t.place t.entered t.opened) (steps p) (entering q) (followed_program p numbered n t.place t.entered t.opened h e) a in
      subst (λ m. contains (numbers (outward_to is_var q.chain).passed) m ≡ true) number
      (route_next p numbered n t.place t.entered t.opened t.clause.clause t.clause.round t.clause.chain (in_table.plain n t.takes).0 q.chain followed passes)
