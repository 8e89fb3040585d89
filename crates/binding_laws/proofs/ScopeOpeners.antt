-- Each scope of a place's chain stands in the list of openers with its number, and each node opens one.
use Rattle.std.proofs.Common.{◌≡◌, ℕ, zero, suc, ◌+◌, List, [], ◌∷◌, ◌++◌, Option, Some, None, Bool, true, false, cond, inl, inr, refl, sym, ap, subst, ◌∙◌, flat_map, arith, zero-add}
use Rattle.std.specs.Prelude.{slice_get}
use Rattle.std.proofs.lemmas.Bool.Decides.{eqb_tells}
use Rattle.semantic_kinds.specs.declared.kind.AstType.TheVariants as kind
use Rattle.semantic_kinds.specs.declared.role.Role.{Role}
use Rattle.semantic_syntax.specs.Members.{contains}
use Rattle.semantic_tree.specs.Forest.{Forest, nothing, tree}
use Rattle.semantic_tree.specs.Tree.{Tree, IsNumbered}
use Rattle.semantic_tree.specs.declared.node.Node.{Node}
use Rattle.semantic_model.specs.Binder.{is_var, is_conditional, declared_by}
use Rattle.semantic_model.specs.Cursor.{on_entering}
use Rattle.semantic_model.specs.Declaration.{passed_before, first_with, route_from, outward_past}
use Rattle.semantic_model.specs.EachStep.{EachStep}
use Rattle.semantic_model.specs.Inside.{is_inside}
use Rattle.semantic_model.specs.Place.{Place, OpenScope, innermost}
use Rattle.semantic_model.specs.ScopeKind.{opened_scope}
use Rattle.semantic_model.specs.Step.{Step, entering, opening, header_ending, closing, leaving, steps_below, steps, root_place, opening_at, scope_at}
use Rattle.semantic_model.proofs.fold.EachDeclared.{EachDeclared, each_on_entering}
use Rattle.semantic_model.proofs.steps.EachStep.{each_of_node, each_of_turn}
use Rattle.semantic_model.proofs.steps.OpenedFrom.{OpenedFrom, OpenedRound, opened_left, opened_round}
use Rattle.semantic_model.proofs.steps.Turn.{Turn, turn_at}
use Rattle.semantic_model.proofs.steps.TurnCases.{opening_case, ending_case, last_case}
use Rattle.walk_model.proofs.once.NodeIds.{AreDistinct, opener, openers_distinct, root_numbered}
use Rattle.binding_laws.proofs.ScopesRound.{AllRound, OwnRound, child_round}

-- the nodes that open the scopes, in order
abbrev pub openers : List Step → List ℕ
openers ss = flat_map opener ss

module _ (table : List ℕ) where
  -- the scope stands there with its opener
  abbrev pub IsOpened : OpenScope → Type 0
  IsOpened s = slice_get table s.number ≡ Some s.opener

  abbrev pub AllOpened : List OpenScope → Type 0
  AllOpened chain = AllRound IsOpened chain

  abbrev IsOpenedAs : ℕ → Place → OpenScope → Type 0
  IsOpenedAs n p s = slice_get table n ≡ Some s.opener

  abbrev pub IsPlaceOpened : Step → Type 0
  IsPlaceOpened (entering p) = AllOpened p.chain
  IsPlaceOpened (opening p s) = Unit {0}
  IsPlaceOpened (header_ending p s) = Unit {0}
  IsPlaceOpened (closing p s) = Unit {0}
  IsPlaceOpened (leaving p) = Unit {0}

  own_opened : (p : Place) (r : Role) (own : Option OpenScope) (n : ℕ) → OwnRound IsOpened own → OpenedFrom IsOpenedAs n (opening_at p r own n) → OwnRound IsOpened (scope_at p r own n)
  own_opened p r (Some s) n h b = h
  own_opened p r None n h b = go (is_inside p.node.kind r) b
    where
      go : (t : Bool) → OpenedFrom IsOpenedAs n (cond t (opening p (opened_scope p n) ∷ []) []) → OwnRound IsOpened (cond t (Some (opened_scope p n)) None)
      go true q = q.0
      go false q = tt

  opened_steps : (p : Place) (own : Option OpenScope) (n cursor : ℕ) (f : Forest) → AllOpened p.chain → OwnRound IsOpened own → OpenedFrom IsOpenedAs n (steps_below p own n cursor f) → EachStep IsPlaceOpened (steps_below p own n cursor f)
  opened_steps p own n cursor nothing a o b = last_case (EachStep IsPlaceOpened) p own n tt (tt, (tt, tt))
  opened_steps p own n cursor (tree r k span text marks below id after) a o b =
      let node : Node = record { kind = k; span = span; text = text; marks = marks; children = below; node_id = id } in
      let turn : Turn = turn_at p own n cursor r node after in
      let round : OpenedRound IsOpenedAs n turn = opened_round IsOpenedAs p own n cursor r node after b in
      let o_scope : OwnRound IsOpened turn.scope = own_opened p r own n o round.before in
      let chain : AllOpened turn.child.chain = child_round IsOpened (λ s b h. h) p turn.scope cursor r node a o_scope in
      each_of_turn IsPlaceOpened turn (record {
        before = opening_case (EachStep IsPlaceOpened) p r own n tt (tt, tt);
        whole = each_of_node IsPlaceOpened turn.child turn.below chain (opened_steps turn.child None turn.next turn.inner below chain tt round.below) tt;
        behind = ending_case (EachStep IsPlaceOpened) p r turn.scope after tt (λ s. (tt, tt)) (λ s. (tt, tt)) (λ s. (tt, (tt, tt)));
        others = opened_steps p turn.scope turn.rest turn.past after a o_scope round.others;
      })

  -- ---- routes

  module _ (root : slice_get table 0 ≡ Some 0) where
    -- the innermost scope of a place
    pub innermost_opened : (chain : List OpenScope) → AllOpened chain → IsOpened (innermost chain)
    innermost_opened [] h = root
    innermost_opened (s ∷ ss) h = h.0

    abbrev FirstOpened : Option OpenScope → Type 0
    FirstOpened None = Unit {0}
    FirstOpened (Some s) = IsOpened s

    first_opened : (test : OpenScope → Bool) (chain : List OpenScope) → AllOpened chain → FirstOpened (first_with test chain)
    first_opened test [] h = tt
    first_opened test (s ∷ ss) h = go (test s) (first_opened test ss h.1)
      where
        go : (b : Bool) → FirstOpened (first_with test ss) → FirstOpened (cond b (Some s) (first_with test ss))
        go true k = h.0
        go false k = k

    from_opened : (chain passed : List OpenScope) (o : Option OpenScope) → AllOpened chain → FirstOpened o → IsOpened (route_from chain passed o).target
    from_opened chain passed None h k = innermost_opened chain h
    from_opened chain passed (Some s) h k = k

    past_opened : (chain : List OpenScope) → AllOpened chain → IsOpened (outward_past is_var chain).target
    past_opened [] h = root
    past_opened (s ∷ ss) h = from_opened (s ∷ ss) (s ∷ passed_before is_var ss) (first_with is_var ss) h (first_opened is_var ss h.1)

    -- the target of what a node declares
    pub targets_opened : (p : Place) → AllOpened p.chain → EachDeclared (λ d. IsOpened d.route.target) (declared_by p.node.kind p)
    targets_opened p h = each_on_entering (λ d. IsOpened d.route.target) (λ how r. IsOpened r.target) (λ node row is_pure name r. r) p.node.kind p (record {
      at_home = innermost_opened p.chain h;
      when_caught = innermost_opened p.chain h;
      when_hoisted = λ e. from_opened p.chain (passed_before is_var p.chain) (first_with is_var p.chain) h (first_opened is_var p.chain h);
      when_moved = λ e s q. past_opened p.chain h;
      when_inferred = from_opened p.chain (passed_before is_conditional p.chain) (first_with is_conditional p.chain) h (first_opened is_conditional p.chain h);
    })

-- ---- the program

pub opened_at : (table : List ℕ) (n : ℕ) (ss : List Step) → ((i : ℕ) → slice_get table (n + i) ≡ slice_get (openers ss) i) → OpenedFrom (λ m p s. slice_get table m ≡ Some s.opener) n ss
opened_at table n [] h = tt
opened_at table n (opening p s ∷ more) h =
    (subst (λ m. slice_get table m ≡ Some s.opener) (omega arith) (h 0), opened_at table (suc n) more (λ i. subst (λ m. slice_get table m ≡ slice_get (openers more) i) (omega arith) (h (suc i))))
opened_at table n (entering p ∷ more) h = opened_at table n more h
opened_at table n (header_ending p s ∷ more) h = opened_at table n more h
opened_at table n (closing p s ∷ more) h = opened_at table n more h
opened_at table n (leaving p ∷ more) h = opened_at table n more h

pub places_opened : (p : Tree) → EachStep (IsPlaceOpened (openers (steps p))) (steps p)
places_opened p =
    let table : List ℕ = openers (steps p) in
    let root : Place = root_place p in
    let n : ℕ = on_entering p.root.kind 0 in
    let all : OpenedFrom (λ m q s. slice_get table m ≡ Some s.opener) 0 (steps p) = opened_at table 0 (steps p) (λ i. ap (slice_get table) (zero-add i)) in
    let below : List Step = steps_below root None 0 n p.root.children in
    each_of_node (IsPlaceOpened table) root below tt (opened_steps table root None 0 n p.root.children tt tt (opened_left (λ m q s. slice_get table m ≡ Some s.opener) 0 below (leaving root ∷ []) all)) tt

root_opens : (p : Place) (cursor : ℕ) (f : Forest) (more : List Step) → p.node.kind ≡ kind.Program → slice_get (openers (steps_below p None 0 cursor f ++ more)) 0 ≡ Some p.node.node_id
root_opens p cursor nothing more e = rw e refl
root_opens p cursor (tree r k span text marks below id after) more e = rw e refl

-- the first scope is the root's, which has the number 0
pub root_opener : (p : Tree) → p.root.kind ≡ kind.Program → IsNumbered p.root → slice_get (openers (steps p)) 0 ≡ Some 0
root_opener p k e = root_opens (root_place p) (on_entering p.root.kind 0) p.root.children (leaving (root_place p) ∷ []) k ∙ ap Some (root_numbered p e).0

-- entries of a list without repetition
contains_at : (xs : List ℕ) (n o : ℕ) → slice_get xs n ≡ Some o → contains xs o ≡ true
contains_at [] n o h = absurd cc
contains_at (x ∷ xs) zero o h = let q : x ≡ o = cc in elim (eqb_tells x o) [ inl e ↦ rw e.0 refl | inr e ↦ absurd (e.1 q) ]
contains_at (x ∷ xs) (suc n) o h = elim (eqb_tells x o) [ inl e ↦ rw e.0 refl | inr e ↦ rw e.0 (contains_at xs n o h) ]

pub one_place : (xs : List ℕ) (n m o : ℕ) → AreDistinct xs → slice_get xs n ≡ Some o → slice_get xs m ≡ Some o → n ≡ m
one_place [] n m o d h k = absurd cc
one_place (x ∷ xs) zero zero o d h k = refl
one_place (x ∷ xs) zero (suc m) o d h k =
    let q : x ≡ o = cc in
    let w : contains xs x ≡ true = subst (λ y. contains xs y ≡ true) (sym q) (contains_at xs m o k) in
    let v : true ≡ false = sym w ∙ d.0 in absurd cc
one_place (x ∷ xs) (suc n) zero o d h k =
    let q : x ≡ o = cc in
    let w : contains xs x ≡ true = subst (λ y. contains xs y ≡ true) (sym q) (contains_at xs n o h) in
    let v : true ≡ false = sym w ∙ d.0 in absurd cc
one_place (x ∷ xs) (suc n) (suc m) o d h k = ap suc (one_place xs n m o d.1 h k)

-- a node opens one scope
pub one_scope : (p : Tree) → IsNumbered p.root → (s t : OpenScope) → IsOpened (openers (steps p)) s → IsOpened (openers (steps p)) t → s.opener ≡ t.opener → s.number ≡ t.number
one_scope p e s t h k q = one_place (openers (steps p)) s.number t.number t.opener (openers_distinct p e) (h ∙ ap Some q) k
