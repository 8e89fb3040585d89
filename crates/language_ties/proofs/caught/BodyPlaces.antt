-- Where a scope's bindings go to a body, that is the scope of a catch clause's block.
use Rattle.std.proofs.Common.{◌≡◌, ℕ, ◌==◌, List, [], ◌∷◌, ◌++◌, Option, Some, None, Bool, true, false, ◌&&◌, ◌||◌, inl, inr, refl, sym, ap, subst, ◌∙◌}
use Rattle.std.specs.Prelude.{slice_get}
use Rattle.std.proofs.lemmas.Bool.Decides.{eqb_tells}
use Rattle.semantic_syntax.proofs.Truth.{and_first, and_second}
use Rattle.semantic_tree.specs.Faults.{first_fault}
use Rattle.semantic_tree.specs.Forest.{Forest, nothing, tree}
use Rattle.semantic_tree.specs.Tree.{Tree, IsNumbered}
use Rattle.semantic_tree.specs.declared.node.Node.{Node}
use Rattle.semantic_model.specs.Cursor.{on_entering}
use Rattle.semantic_model.specs.EachStep.{EachStep}
use Rattle.semantic_model.specs.Entries.{Among}
use Rattle.semantic_model.specs.Event.{is_catch_body}
use Rattle.semantic_model.specs.Inside.{opens}
use Rattle.semantic_model.specs.Place.{Place, OpenScope, innermost}
use Rattle.semantic_model.specs.ScopeKind.{opened_scope}
use Rattle.semantic_model.specs.Step.{Step, entering, opening, header_ending, closing, leaving, steps_below, steps, root_place}
use Rattle.semantic_model.proofs.alone.BodyFollows.{taken_in, AllFollowed}
use Rattle.semantic_model.proofs.alone.PlacesFollowed.{followed_program}
use Rattle.semantic_model.proofs.fold.BodyChains.{IsStepIn}
use Rattle.semantic_model.proofs.fold.Orders.{HasForm, table_of, steps_in}
use Rattle.semantic_model.proofs.form.Shape.{has_form}
use Rattle.semantic_model.proofs.lists.Members.{among_left, among_right}
use Rattle.semantic_model.proofs.steps.EachStep.{each_of_node, each_of_turn}
use Rattle.semantic_model.proofs.steps.Turn.{Turn, turn_at}
use Rattle.semantic_model.proofs.steps.TurnCases.{opening_case, ending_case, last_case}
use Rattle.binding_laws.proofs.EnteredOnce.{entered_place}
use Rattle.binding_laws.proofs.ListLaws.{each_at}
use Rattle.binding_laws.proofs.ScopeOpeners.{openers, IsOpened, one_scope}
use Rattle.binding_laws.proofs.SmallLaws.{some_is}
use Rattle.language_ties.proofs.own_names.OpenedNodes.{Opens, scope_opens, scope_stands}
use Rattle.language_ties.proofs.caught.ClausePlaces.{IsClauseBody, body_kind}

-- ---- what opens a scope is entered

module _ (all : List Step) where
  abbrev OpensEntered : Step → Type 0
  OpensEntered (entering q) = Unit {0}
  OpensEntered (opening q s) = Among (entering q) all × (s.opener ≡ q.node.node_id)
  OpensEntered (header_ending q s) = Unit {0}
  OpensEntered (closing q s) = Unit {0}
  OpensEntered (leaving q) = Unit {0}

  opens_steps : (q : Place) (own : Option OpenScope) (n cursor : ℕ) (f : Forest) → Among (entering q) all → ((st : Step) → Among st (steps_below q own n cursor f) → Among st all) → EachStep OpensEntered (steps_below q own n cursor f)
  opens_steps q own n cursor nothing a i = last_case (EachStep OpensEntered) q own n tt ((a, refl), (tt, tt))
  opens_steps q own n cursor (tree r k span text marks below id after) a i =
      let node : Node = record { kind = k; span = span; text = text; marks = marks; children = below; node_id = id } in
      let turn : Turn = turn_at q own n cursor r node after in
      let in_whole : (st : Step) → Among st turn.whole → Among st all = λ st b.
      i st (among_left st (turn.before ++ turn.whole ++ turn.behind) turn.others (among_left st (turn.before ++ turn.whole) turn.behind (among_right st turn.before turn.whole b))) in
      each_of_turn OpensEntered turn (record {
        before = opening_case (EachStep OpensEntered) q r own n tt ((a, refl), tt);
        whole = each_of_node OpensEntered turn.child turn.below tt
            (opens_steps turn.child None turn.next turn.inner below (in_whole (entering turn.child) (inl refl)) (λ st b. in_whole st (inr (among_left st turn.below (leaving turn.child ∷ []) b)))) tt;
        behind = ending_case (EachStep OpensEntered) q r turn.scope after tt (λ s. (tt, tt)) (λ s. (tt, tt)) (λ s. (tt, (tt, tt)));
        others = opens_steps q turn.scope turn.rest turn.past after a (λ st b. i st (among_right st (turn.before ++ turn.whole ++ turn.behind) turn.others b));
      })

opens_program : (p : Tree) → EachStep (OpensEntered (steps p)) (steps p)
opens_program p =
    let root : Place = root_place p in
    let n : ℕ = on_entering p.root.kind 0 in
    let below : List Step = steps_below root None 0 n p.root.children in
    each_of_node (OpensEntered (steps p)) root below tt
    (opens_steps (steps p) root None 0 n p.root.children (inl refl) (λ st a. inr (among_left st below (leaving root ∷ []) a))) tt

-- ---- the body that takes a scope over

record IsTaken (c : ℕ) (ss : List Step) : Type 0 where
  place : Place
  scope : OpenScope
  among : Among (opening place scope) ss
  is_body : is_catch_body place ≡ true
  number : (innermost place.chain).number ≡ c

taken_more : (c : ℕ) (st : Step) (ss : List Step) → IsTaken c ss → IsTaken c (st ∷ ss)
taken_more c st ss h = record { place = h.place; scope = h.scope; among = inr h.among; is_body = h.is_body; number = h.number }

is_taken : (c : ℕ) (ss : List Step) → taken_in c ss ≡ true → IsTaken c ss
is_taken c [] h = absurd cc
is_taken c (opening q s ∷ ss) h = go (is_catch_body q && (innermost q.chain).number == c) refl h (is_taken c ss)
  where
    number_is : ((innermost q.chain).number == c) ≡ true → (innermost q.chain).number ≡ c
    number_is w = elim (eqb_tells (innermost q.chain).number c) [ inl e ↦ e.1 | inr e ↦ (let v : false ≡ true = sym e.0 ∙ w in absurd cc) ]

    go : (t : Bool) → (is_catch_body q && (innermost q.chain).number == c) ≡ t → (t || taken_in c ss) ≡ true → (taken_in c ss ≡ true → IsTaken c ss) → IsTaken c (opening q s ∷ ss)
    go true e w later = record { place = q; scope = s; among = inl refl; is_body = and_first (is_catch_body q) ((innermost q.chain).number == c) e; number = number_is (and_second (is_catch_body q) ((innermost q.chain).number == c) e) }
    go false e w later = taken_more c (opening q s) ss (later w)
is_taken c (entering q ∷ ss) h = taken_more c (entering q) ss (is_taken c ss h)
is_taken c (header_ending q s ∷ ss) h = taken_more c (header_ending q s) ss (is_taken c ss h)
is_taken c (closing q s ∷ ss) h = taken_more c (closing q s) ss (is_taken c ss h)
is_taken c (leaving q ∷ ss) h = taken_more c (leaving q) ss (is_taken c ss h)

-- behind each place whose innermost scope has a body
taken_behind : (ss : List Step) → AllFollowed ss → (q : Place) → Among (entering q) ss → (b : ℕ) → (innermost q.chain).body ≡ Some b → IsTaken (innermost q.chain).number ss
taken_behind [] h q a b e = absurd a
taken_behind (entering r ∷ ss) h q (inl i) b e =
    let same : r ≡ q = entered_place r q i in
    taken_more (innermost q.chain).number (entering r) ss (is_taken (innermost q.chain).number ss (subst (λ (z : Place). taken_in (innermost z.chain).number ss ≡ true) same (h.0 b (subst (λ (z : Place). (innermost z.chain).body ≡ Some b) (sym same) e))))
taken_behind (entering r ∷ ss) h q (inr a) b e = taken_more (innermost q.chain).number (entering r) ss (taken_behind ss h.1 q a b e)
taken_behind (opening r s ∷ ss) h q (inl i) b e = absurd cc
taken_behind (opening r s ∷ ss) h q (inr a) b e = taken_more (innermost q.chain).number (opening r s) ss (taken_behind ss h q a b e)
taken_behind (header_ending r s ∷ ss) h q (inl i) b e = absurd cc
taken_behind (header_ending r s ∷ ss) h q (inr a) b e = taken_more (innermost q.chain).number (header_ending r s) ss (taken_behind ss h q a b e)
taken_behind (closing r s ∷ ss) h q (inl i) b e = absurd cc
taken_behind (closing r s ∷ ss) h q (inr a) b e = taken_more (innermost q.chain).number (closing r s) ss (taken_behind ss h q a b e)
taken_behind (leaving r ∷ ss) h q (inl i) b e = absurd cc
taken_behind (leaving r ∷ ss) h q (inr a) b e = taken_more (innermost q.chain).number (leaving r) ss (taken_behind ss h q a b e)

-- ---- the program

-- the block of a clause whose scope is the clause's body, and which opens it
pub record IsBodyPlace (p : Tree) (clause body : ℕ) : Type 0 where
  pub place : Place
  pub entered : Among (entering place) (steps p)
  pub is_body : is_catch_body place ≡ true
  pub number : (innermost place.chain).number ≡ clause
  pub opened : slice_get (openers (steps p)) body ≡ Some place.node.node_id

pub body_place : (p : Tree) → first_fault p ≡ None → (q : Place) → Among (entering q) (steps p) → (b : ℕ) → (innermost q.chain).body ≡ Some b → slice_get (table_of p) (innermost q.chain).number ≡ Some (Some b) → IsBodyPlace p (innermost q.chain).number b
body_place p h q a b e entry =
    let form : HasForm p = has_form p h in
    let taken : IsTaken (innermost q.chain).number (steps p) = taken_behind (steps p) (followed_program p form) q a b e in
    let opens : Among (entering taken.place) (steps p) × (taken.scope.opener ≡ taken.place.node.node_id) = each_at (OpensEntered (steps p)) (steps p) (opening taken.place taken.scope) (opens_program p) taken.among in
    let body : slice_get (table_of p) (innermost taken.place.chain).number ≡ Some (Some taken.scope.number) = (each_at (IsStepIn (table_of p)) (steps p) (opening taken.place taken.scope) (steps_in p form) taken.among).2 taken.is_body in
    let both : Some b ≡ Some taken.scope.number = some_is (Some b) (Some taken.scope.number) (sym entry ∙ ap (slice_get (table_of p)) (sym taken.number) ∙ body) in
    let number : b ≡ taken.scope.number = some_is b taken.scope.number both in
    let listed : IsOpened (openers (steps p)) taken.scope = scope_stands p form.root taken.place taken.scope taken.among in
    record {
      place = taken.place;
      entered = opens.0;
      is_body = taken.is_body;
      number = taken.number;
      opened = ap (slice_get (openers (steps p))) number ∙ listed ∙ ap Some opens.1;
    }

-- the scope that a clause's block opens is the body of the clause's scope
pub block_takes : (p : Tree) → first_fault p ≡ None → IsNumbered p.root → (q : Place) → Among (entering q) (steps p) → is_catch_body q ≡ true → (clause : IsClauseBody q) → (s : OpenScope) → IsOpened (openers (steps p)) s → s.opener ≡ q.node.node_id → slice_get (table_of p) clause.clause.number ≡ Some (Some s.number)
block_takes p h numbered q a k clause s o opener =
    let form : HasForm p = has_form p h in
    let kinds : opens q.node.kind ≡ true = ap opens (body_kind q k) in
    let w : Opens q (steps p) = scope_opens p q a kinds in
    let t : OpenScope = opened_scope q w.number in
    let body : slice_get (table_of p) (innermost q.chain).number ≡ Some (Some t.number) = (each_at (IsStepIn (table_of p)) (steps p) (opening q t) (steps_in p form) w.among).2 k in
    let number : t.number ≡ s.number = one_scope p numbered t s (scope_stands p form.root q t w.among) o (sym opener) in
    let there : (innermost q.chain).number ≡ clause.clause.number = ap (λ c. (innermost c).number) clause.chain in
    ap (slice_get (table_of p)) (sym there) ∙ body ∙ ap (λ n. Some (Some n)) number
