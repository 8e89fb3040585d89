-- A node of a kind that opens a scope opens one among the steps, and each stands in the list of openers with its number.
use Rattle.std.proofs.Common.{◌≡◌, ℕ, List, [], ◌∷◌, ◌++◌, Option, Some, None, Bool, true, false, cond, inl, inr, refl, sym, ap, subst, zero-add}
use Rattle.std.specs.Prelude.{slice_get}
use Rattle.semantic_kinds.specs.declared.role.Role.{Role}
use Rattle.semantic_tree.specs.Forest.{Forest, nothing, tree}
use Rattle.semantic_tree.specs.Tree.{Tree}
use Rattle.semantic_tree.specs.declared.node.Node.{Node}
use Rattle.semantic_model.specs.Cursor.{on_entering}
use Rattle.semantic_model.specs.EachStep.{EachStep}
use Rattle.semantic_model.specs.Entries.{Among}
use Rattle.semantic_model.specs.Inside.{opens, is_inside}
use Rattle.semantic_model.specs.Place.{Place, OpenScope}
use Rattle.semantic_model.specs.ScopeKind.{opened_scope}
use Rattle.semantic_model.specs.Step.{Step, entering, opening, header_ending, closing, leaving, steps_below, steps, root_place, opening_at, opening_last, scope_at}
use Rattle.semantic_model.proofs.lists.Members.{among_left, among_right}
use Rattle.semantic_model.proofs.steps.EachStep.{each_of_node, each_of_turn}
use Rattle.semantic_model.proofs.steps.OpenedFrom.{OpenedFrom, OpenedRound, opened_left, opened_round}
use Rattle.semantic_model.proofs.steps.Turn.{Turn, turn_at}
use Rattle.semantic_model.proofs.steps.TurnCases.{ending_case}
use Rattle.binding_laws.proofs.ScopeOpeners.{openers, IsOpened, AllOpened, opened_at}
use Rattle.binding_laws.proofs.SmallLaws.{never}

-- a scope of the chain
pub among_opened : (table : List ℕ) (chain : List OpenScope) (z : OpenScope) → AllOpened table chain → Among z chain → IsOpened table z
among_opened table [] z o a = absurd a
among_opened table (s ∷ ss) z o (inl e) = subst (IsOpened table) e o.0
among_opened table (s ∷ ss) z o (inr a) = among_opened table ss z o.1 a

module _ (all : List Step) (table : List ℕ) where
  abbrev IsOpenedAs : ℕ → Place → OpenScope → Type 0
  IsOpenedAs n p s = slice_get table n ≡ Some s.opener

  -- the scope of a place
  pub record OwnScope (q : Place) : Type 0 where
    pub count : ℕ
    pub among : Among (opening q (opened_scope q count)) all
    pub opened : IsOpened table (opened_scope q count)

  abbrev pub OwnStep : Step → Type 0
  OwnStep (entering q) = opens q.node.kind ≡ true → OwnScope q
  OwnStep (opening q s) = IsOpened table s
  OwnStep (header_ending q s) = Unit {0}
  OwnStep (closing q s) = Unit {0}
  OwnStep (leaving q) = Unit {0}

  abbrev Within : List Step → Type 0
  Within ss = (st : Step) → Among st ss → Among st all

  abbrev whole_turn : Turn → List Step
  whole_turn t = t.before ++ t.whole ++ t.behind ++ t.others

  in_others : (t : Turn) → Within (whole_turn t) → Within t.others
  in_others t sub st a = sub st (among_right st (t.before ++ t.whole ++ t.behind) t.others a)

  in_before : (t : Turn) → Within (whole_turn t) → Within t.before
  in_before t sub st a = sub st (among_left st (t.before ++ t.whole ++ t.behind) t.others (among_left st (t.before ++ t.whole) t.behind (among_left st t.before t.whole a)))

  in_whole : (t : Turn) → Within (whole_turn t) → Within t.whole
  in_whole t sub st a = sub st (among_left st (t.before ++ t.whole ++ t.behind) t.others (among_left st (t.before ++ t.whole) t.behind (among_right st t.before t.whole a)))

  in_below : (c : Place) (below : List Step) → Within (entering c ∷ (below ++ leaving c ∷ [])) → Within below
  in_below c below sub st a = sub st (inr (among_left st below (leaving c ∷ []) a))

  -- ---- the scope of a place opens before the first child inside, or behind all

  own_below : (q : Place) (n cursor : ℕ) (f : Forest) → Within (steps_below q None n cursor f) → OpenedFrom IsOpenedAs n (steps_below q None n cursor f) → opens q.node.kind ≡ true → OwnScope q
  own_below q n cursor nothing sub o h = go (opens q.node.kind) h sub o
    where
      go : (b : Bool) → b ≡ true → Within (cond b (opening q (opened_scope q n) ∷ closing q (opened_scope q n) ∷ []) []) → OpenedFrom IsOpenedAs n (cond b (opening q (opened_scope q n) ∷ closing q (opened_scope q n) ∷ []) []) → OwnScope q
      go true e w i = record { count = n; among = w (opening q (opened_scope q n)) (inl refl); opened = i.0 }
      go false e w i = absurd (never (sym e))
  own_below q n cursor (tree r k span text marks below id after) sub o h = go (is_inside q.node.kind r) refl (λ w i. own_below q t.rest t.past after w i h)
    where
      node : Node
      node = record { kind = k; span = span; text = text; marks = marks; children = below; node_id = id }

      t : Turn
      t = turn_at q None n cursor r (record { kind = k; span = span; text = text; marks = marks; children = below; node_id = id }) after

      go : (b : Bool) → is_inside q.node.kind r ≡ b → (Within (steps_below q None t.rest t.past after) → OpenedFrom IsOpenedAs t.rest (steps_below q None t.rest t.past after) → OwnScope q) → OwnScope q
      go true e later =
          let first : OpenedFrom IsOpenedAs n (opening q (opened_scope q n) ∷ []) = subst (λ b. OpenedFrom IsOpenedAs n (cond b (opening q (opened_scope q n) ∷ []) [])) e (opened_round IsOpenedAs q None n cursor r node after o).before in
          let here : Among (opening q (opened_scope q n)) (opening_at q r None n) = subst (λ b. Among (opening q (opened_scope q n)) (cond b (opening q (opened_scope q n) ∷ []) [])) (sym e) (inl refl) in
          record { count = n; among = in_before t sub (opening q (opened_scope q n)) here; opened = first.0 }
      go false e later =
          let none : scope_at q r None n ≡ None = ap (λ b. cond b (Some (opened_scope q n)) None) e in
          later (subst (λ s. Within (steps_below q s t.rest t.past after)) none (in_others t sub)) (subst (λ s. OpenedFrom IsOpenedAs t.rest (steps_below q s t.rest t.past after)) none (opened_round IsOpenedAs q None n cursor r node after o).others)

  -- ---- all steps

  before_own : (p : Place) (r : Role) (own : Option OpenScope) (n : ℕ) → OpenedFrom IsOpenedAs n (opening_at p r own n) → EachStep OwnStep (opening_at p r own n)
  before_own p r (Some s) n o = tt
  before_own p r None n o = go (is_inside p.node.kind r) o
    where
      go : (b : Bool) → OpenedFrom IsOpenedAs n (cond b (opening p (opened_scope p n) ∷ []) []) → EachStep OwnStep (cond b (opening p (opened_scope p n) ∷ []) [])
      go true i = (i.0, tt)
      go false i = tt

  last_own : (p : Place) (own : Option OpenScope) (n : ℕ) → OpenedFrom IsOpenedAs n (opening_last p own n) → EachStep OwnStep (opening_last p own n)
  last_own p (Some s) n o = tt
  last_own p None n o = go (opens p.node.kind) o
    where
      go : (b : Bool) → OpenedFrom IsOpenedAs n (cond b (opening p (opened_scope p n) ∷ closing p (opened_scope p n) ∷ []) []) → EachStep OwnStep (cond b (opening p (opened_scope p n) ∷ closing p (opened_scope p n) ∷ []) [])
      go true i = (i.0, (tt, tt))
      go false i = tt

  own_steps : (p : Place) (own : Option OpenScope) (n cursor : ℕ) (f : Forest) → Within (steps_below p own n cursor f) → OpenedFrom IsOpenedAs n (steps_below p own n cursor f) → EachStep OwnStep (steps_below p own n cursor f)
  own_steps p own n cursor nothing sub o = last_own p own n o
  own_steps p own n cursor (tree r k span text marks below id after) sub o =
      let node : Node = record { kind = k; span = span; text = text; marks = marks; children = below; node_id = id } in
      let turn : Turn = turn_at p own n cursor r node after in
      let round : OpenedRound IsOpenedAs n turn = opened_round IsOpenedAs p own n cursor r node after o in
      let inner : Within turn.below = in_below turn.child turn.below (in_whole turn sub) in
      each_of_turn OwnStep turn (record {
        before = before_own p r own n round.before;
        whole = each_of_node OwnStep turn.child turn.below (own_below turn.child turn.next turn.inner below inner round.below) (own_steps turn.child None turn.next turn.inner below inner round.below) tt;
        behind = ending_case (EachStep OwnStep) p r turn.scope after tt (λ s. (tt, tt)) (λ s. (tt, tt)) (λ s. (tt, (tt, tt)));
        others = own_steps p turn.scope turn.rest turn.past after (in_others turn sub) round.others;
      })

pub own_program : (p : Tree) → EachStep (OwnStep (steps p) (openers (steps p))) (steps p)
own_program p =
    let table : List ℕ = openers (steps p) in
    let root : Place = root_place p in
    let n : ℕ = on_entering p.root.kind 0 in
    let below : List Step = steps_below root None 0 n p.root.children in
    let all : OpenedFrom (IsOpenedAs (steps p) table) 0 (steps p) = opened_at table 0 (steps p) (λ i. ap (slice_get table) (zero-add i)) in
    let opened : OpenedFrom (IsOpenedAs (steps p) table) 0 below = opened_left (IsOpenedAs (steps p) table) 0 below (leaving root ∷ []) all in
    let within : (st : Step) → Among st below → Among st (steps p) = in_below (steps p) table root below (λ st a. a) in
    each_of_node (OwnStep (steps p) table) root below (own_below (steps p) table root 0 n p.root.children within opened) (own_steps (steps p) table root None 0 n p.root.children within opened) tt
