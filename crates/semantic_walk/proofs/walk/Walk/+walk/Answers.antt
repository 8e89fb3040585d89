use Rattle.std.proofs.Common.{◌≡◌, ◌<◌, ◌≤◌, ◌+◌, ◌*◌, ℕ, List, ◌∷◌, true, false, Option, None, refl, ap, sym, subst, ◌∙◌, arith}
use Rattle.semantic_kinds.specs.declared.mark.Mark.TheVariants as mark
use Rattle.semantic_kinds.specs.declared.role.Role.{Role}
use Rattle.semantic_kinds.specs.declared.kind.AstType.{AstType}
use Rattle.semantic_syntax.specs.Counts.{raised}
use Rattle.semantic_syntax.proofs.Results.{on_err}
use Rattle.semantic_tree.specs.Forest.{Forest, nothing, count}
use Rattle.semantic_tree.specs.Children.{forest_of}
use Rattle.semantic_tree.specs.Views.{has}
use Rattle.semantic_tree.specs.declared.node.Node.{Node}
use Rattle.semantic_model.specs.Place.{Place, OpenScope}
use Rattle.semantic_model.specs.Cursor.{cursor_before, cursor_behind}
use Rattle.semantic_model.specs.Declaration.{Declaration}
use Rattle.semantic_model.specs.Inside.{is_inside, opens}
use Rattle.semantic_model.specs.Step.{ending_after}
use Rattle.walk_model.specs.WalkState.{WalkState}
use Rattle.walk_model.specs.Walks.{after_all}
use Rattle.semantic_walk.specs.Walker.{Walker}
use Rattle.semantic_walk.specs.AtPlace.{IsComing, IsEntered, IsSomewhere, HasEntered, walked_over, probes_over}
use Rattle.semantic_walk.specs.Doings.{acts_between}
use Rattle.semantic_walk.specs.Turns.{is_passed, past_leaf}
use Rattle.semantic_walk.specs.Leaving.{IsFit, IsLeaving}
use Rattle.semantic_walk.specs.declared.visit.Turn.{Turn}
use Rattle.table_building.proofs.Growing.{goes-refl, goes-trans, grows-trans}
use Rattle.semantic_walk.proofs.Going.{turn-goes}
use Rattle.semantic_walk.proofs.TurnEnds.{on_ok}
use Rattle.semantic_walk.proofs.Visiting.{Rests, turn_at, rests_first, rests_past, walked, comes_to_child, behind_child}
use Rattle.semantic_walk.proofs.RoomAt.{may_enter, opens_for, opens_last}
use Rattle.semantic_walk.proofs.Counting.{left_past, rests_so_far, rests_end, rests_ending, on_success}
use Rattle.semantic_walk.proofs.Leaves.{leaves, shows_rows}
use Rattle.semantic_walk.proofs.Passing.{over_passed, asks_passed, even_place, even_next, coming_even, child_asks_even, rests_even, walked_even, leaves_even}
use Rattle.semantic_walk.proofs.ChildWalks.{through, shorter, none_left, somewhere, within, over_left, ComesToChild, place, next, scope, start, holds, child_asks}
use Rattle.semantic_walk.proofs.walk.Walk.+walk.Given as given
use Rattle.semantic_walk.proofs.walk.Walk.+walk.Goals.{walk_acting-At-loop-child_role, walk_acting-After-new-child, walk_acting-In_ok-begin_child, walk_acting-In_default, walk_even-At-loop-child_role, walk_even-After-new-child, walk_even-After-turn_to, walk_even-In_default, walk_over-In_ok-enter}
use Rattle.semantic_walk.proofs.walk.Walk.+walk.Goals as goal

-- between the children of a node that acts

module _ (g : given.Over) (t : ℕ) (c : walk_acting-At-loop-child_role g t) where
  -- no more is asked so far than all
  acting_so_far : (r : HasEntered c.args.self.now c.args.kind.node.now c.args.role) → c.loop-child_role.steps ≤ raised c.args.steps.now (probes_over r.ds r.first r.place r.own r.next)
  acting_so_far r =
      rests_so_far r.ds r.first r.place r.own r.next c.args.steps.now c.loop-child_role.steps c.loop-child_role.self c.loop-child_role.turn (forest_of c.loop-child_role.left.now)
      (c.loop-child_role.invariant.rests r.ds r.first r.place r.own r.next r.node_is r.role_is r.inside)

module _ (g : given.Over) (t : ℕ) (c : walk_acting-After-new-child g t) where
  abbrev acting_child : Role × Node
  acting_child = (c.in-Some.field-0-0.now.0, c.new-child.result.node.now)

  -- what is left begins with the child
  acting_split : c.loop-child_role.left.now ≡ acting_child ∷ c.in-Some.rest.now
  acting_split = c.in-Some.ensures.cases.0 ∙ ap (λ (x : Node). (c.in-Some.field-0-0.now.0, x) ∷ c.in-Some.rest.now) (sym c.new-child.ensures)

  -- which the walk is still to go over
  acting_rests : (r : HasEntered c.args.self.now c.args.kind.node.now c.args.role)
      → Rests r.ds r.first r.place r.own r.next c.args.steps.now c.loop-child_role.steps c.loop-child_role.self c.loop-child_role.turn (forest_of (acting_child ∷ c.in-Some.rest.now))
  acting_rests r =
      subst (λ (xs : List (Role × Node)). Rests r.ds r.first r.place r.own r.next c.args.steps.now c.loop-child_role.steps c.loop-child_role.self c.loop-child_role.turn (forest_of xs)) acting_split
      (c.loop-child_role.invariant.rests r.ds r.first r.place r.own r.next r.node_is r.role_is r.inside)

-- the walk comes to the child
acting_comes : (g : given.Over) (t : ℕ) (c : walk_acting-In_ok-begin_child g t) (r : HasEntered c.args.self.now c.args.kind.node.now c.args.role)
    → Rests r.ds r.first r.place r.own r.next c.args.steps.now c.loop-child_role.steps c.loop-child_role.self c.loop-child_role.turn (forest_of ((c.in-Some.field-0-0.now.0, c.new-child.result.node.now) ∷ c.in-Some.rest.now))
    → ComesToChild r.ds r.first r.place r.own r.next c.args.steps.now c.loop-child_role.steps c.loop-child_role.self c.begin_child.new.self c.loop-child_role.turn c.begin_child.new.turn
    (c.in-Some.field-0-0.now.0, c.new-child.result.node.now) c.in-Some.rest.now
acting_comes g t c r h =
    let child : Role × Node = (c.in-Some.field-0-0.now.0, c.new-child.result.node.now) in
    let came = c.in_ok-begin_child.ensures.comes r.ds r.place h.scope h.next h.cursor h.start c.in-Some.rest.now r.node_is r.role_is h.between in
    record {
      rests = h;
      stood = came.0;
      stands = came.1;
      coming = comes_to_child r.ds r.place h.scope h.next h.cursor h.start child c.in-Some.rest.now c.loop-child_role.self c.begin_child.new.self c.loop-child_role.turn h.between h.kept h.ready h.limit came.0;
    }

-- behind the last child nothing rests
acting_none : (g : given.Over) (t : ℕ) (c : walk_acting-In_default g t) (r : HasEntered c.args.self.now c.args.kind.node.now c.args.role)
    → Rests r.ds r.first r.place r.own r.next c.args.steps.now c.loop-child_role.steps c.loop-child_role.self c.loop-child_role.turn nothing
acting_none g t c r =
    subst (λ (f : Forest). Rests r.ds r.first r.place r.own r.next c.args.steps.now c.loop-child_role.steps c.loop-child_role.self c.loop-child_role.turn f)
    (none_left c.loop-child_role.left.now c.in_default.ensures.cases) (c.loop-child_role.invariant.rests r.ds r.first r.place r.own r.next r.node_is r.role_is r.inside)

pub walk_acting-loop-child_role-init : goal.walk_acting-loop-child_role-init
walk_acting-loop-child_role-init g t c =
    let same : forest_of c.as_slice-left.result.now ≡ c.args.kind.node.now.children = c.as_slice-left.ensures.forest ∙ ap (λ (x : Node). x.children) c.node.ensures in
    record {
      left = omega (arith, ap count same);
      turn = c.turn-turn.ensures.stands;
      goes = goes-refl c.args.self.now.made;
      start = omega (arith, ap (λ (u : Turn). u.header_start) c.turn-turn.ensures.value);
      risen = omega arith;
      rests = λ ds first p own n node role inside.
          rests_first ds first p own n c.args.self.now c.turn-turn.result c.args.doings (forest_of c.as_slice-left.result.now) c.args.steps.now inside.coming
          (c.requires.kind ∙ sym (ap (λ (x : Node). x.kind) node)) (same ∙ sym (ap (λ (x : Node). x.children) node))
          inside.entered c.turn-turn.ensures.value;
    }

pub walk_acting-loop-child_role-preserved : goal.walk_acting-loop-child_role-preserved
walk_acting-loop-child_role-preserved g t c =
    let w : Walker = c.loop-child_role.self in
    let v : Walker = c.begin_child.new.self in
    let past : Walker = c.walk_child.new.self in
    let rest : List (Role × Node) = c.in-Some.rest.now in
    let child : Role × Node = (c.in-Some.field-0-0.now.0, c.new-child.result.node.now) in
    let at = goal.at.walk_acting-loop-child_role-preserved g t c in
    record {
      left = omega (arith, c.loop-child_role.invariant.left, ap (λ (xs : List (Role × Node)). count (forest_of xs)) (acting_split g t at.After-new-child));
      turn = c.in_ok-finish_child.ensures.stands;
      goes = record {
        tables = grows-trans c.args.self.now.made.tables past.made.tables c.finish_child.new.self.made.tables
            (grows-trans c.args.self.now.made.tables v.made.tables past.made.tables
            (grows-trans c.args.self.now.made.tables w.made.tables v.made.tables c.loop-child_role.invariant.goes.tables c.in_ok-begin_child.ensures.goes.tables) c.in_ok-walk_child.ensures.goes.tables)
            c.in_ok-finish_child.ensures.grows;
        waiting = through _ _ _ c.loop-child_role.invariant.start (through _ _ _ c.in_ok-begin_child.ensures.start c.in_ok-finish_child.ensures.stands.start);
      };
      start = through _ _ _ c.loop-child_role.invariant.start c.in_ok-begin_child.ensures.start;
      risen = through _ _ _ c.loop-child_role.invariant.risen (through _ _ _ c.in_ok-walk_child.ensures.risen c.in_ok-finish_child.ensures.risen);
      rests = λ ds first p own n node role inside.
          let r = within ds first p own n node role inside in
          let k = acting_comes g t at.In_ok-begin_child r (acting_rests g t at.After-new-child r) in
          let h = k.rests in
          let went : past ≡ walked_over ds v (place k) None (next k) = c.in_ok-walk_child.ensures.walks ds (place k) (next k) refl refl k.coming in
          let made : WalkState = after_all ds past.made (ending_after p child.0 (scope k) (forest_of rest)) in
          let ended : c.finish_child.new.self ≡ behind_child past made p (cursor_behind p.node.kind child.0 w.cursor past.cursor) =
          c.in_ok-finish_child.ensures.ends ds p (scope k) (start k) k.stands (holds k past went)
          ∙ ap (λ (m : ℕ). behind_child past made p (cursor_behind p.node.kind child.0 m past.cursor)) c.current_reference_flags-before.ensures in
          let asks = left_past ds p h.scope h.next h.cursor h.start child rest w v past k.stood went c.finish_child.new.self c.loop-child_role.steps c.walk_child.new.steps c.finish_child.new.steps ended
          (c.in_ok-walk_child.ensures.cost ds (place k) (next k) refl refl k.coming) (c.in_ok-finish_child.ensures.cost ds p (scope k) (start k) k.stands (holds k past went)) in
          rests_past ds first p own n child rest w v past c.finish_child.new.self c.loop-child_role.turn c.begin_child.new.turn c.args.steps.now c.loop-child_role.steps c.finish_child.new.steps h k.stood k.stands went ended asks;
    }

pub walk_acting-begin_child-requires-clause-turn : goal.walk_acting-begin_child-requires-clause-turn
walk_acting-begin_child-requires-clause-turn g t c = c.loop-child_role.invariant.turn

-- the turn is that of the node
pub walk_acting-begin_child-requires-clause-kind : goal.walk_acting-begin_child-requires-clause-kind
walk_acting-begin_child-requires-clause-kind g t c =
    let r : HasEntered c.args.self.now c.args.kind.node.now c.args.role = c.requires.inside in
    let h = acting_rests g t (goal.at.walk_acting-begin_child-requires-clause-kind g t c).After-new-child r in
    h.between.stands.doings ∙ ap (λ (x : Node). x.kind) r.node_is

-- there are ids for a scope that opens
pub walk_acting-begin_child-requires-clause-ids : goal.walk_acting-begin_child-requires-clause-ids
walk_acting-begin_child-requires-clause-ids g t c =
    let r : HasEntered c.args.self.now c.args.kind.node.now c.args.role = c.requires.inside in
    let child : Role × Node = (c.in-Some.field-0-0.now.0, c.new-child.result.node.now) in
    let h = acting_rests g t (goal.at.walk_acting-begin_child-requires-clause-ids g t c).After-new-child r in
    let kind_is : c.loop-child_role.turn.doings ≡ c.args.kind.node.now.kind = h.between.stands.doings ∙ ap (λ (x : Node). x.kind) r.node_is in
    λ absent inside. opens_for r.ds c.loop-child_role.self c.loop-child_role.turn r.place h.scope h.next h.cursor h.start child c.in-Some.rest.now c.args.kind.node.now r.node_is h.between absent
    (ap (λ (j : AstType). is_inside j child.0) (sym kind_is) ∙ inside)

-- a child stands somewhere in the program in which its parent does
pub walk_acting-walk_child-requires : goal.walk_acting-walk_child-requires
walk_acting-walk_child-requires g t c =
    let child : Role × Node = (c.in-Some.field-0-0.now.0, c.new-child.result.node.now) in
    let at = goal.at.walk_acting-walk_child-requires g t c in
    let r : HasEntered c.args.self.now c.args.kind.node.now c.args.role = c.requires.inside in
    let k = acting_comes g t at.In_ok-begin_child r (acting_rests g t at.After-new-child r) in
    let there : IsSomewhere c.begin_child.new.self child.1 child.0 = somewhere r.ds (place k) None (next k) refl refl k.coming in
    let smaller : 4 * count child.1.children + 3 < t = omega (arith, c.loop-child_role.invariant.left, ap (λ (xs : List (Role × Node)). count (forest_of xs)) (acting_split g t at.After-new-child), c.decreases) in
    λ κs out. (smaller, (out.0, (out.1, there)))

pub walk_acting-finish_child-requires : goal.walk_acting-finish_child-requires
walk_acting-finish_child-requires g t c = turn-goes c.begin_child.new.self.made c.walk_child.new.self.made c.begin_child.new.turn c.in_ok-walk_child.ensures.goes c.in_ok-begin_child.ensures.stands

pub walk_acting-open_last-requires-clause-turn : goal.walk_acting-open_last-requires-clause-turn
walk_acting-open_last-requires-clause-turn g t c = c.loop-child_role.invariant.turn

pub walk_acting-open_last-requires-clause-ids : goal.walk_acting-open_last-requires-clause-ids
walk_acting-open_last-requires-clause-ids g t c =
    let r : HasEntered c.args.self.now c.args.kind.node.now c.args.role = c.requires.inside in
    let h = acting_none g t (goal.at.walk_acting-open_last-requires-clause-ids g t c).In_default r in
    let kind_is : c.loop-child_role.turn.doings ≡ c.args.kind.node.now.kind = h.between.stands.doings ∙ ap (λ (x : Node). x.kind) r.node_is in
    λ absent some. opens_last r.ds c.loop-child_role.self c.loop-child_role.turn r.place h.scope h.next h.cursor h.start c.args.kind.node.now r.node_is h.between absent (ap opens (sym kind_is) ∙ some)

pub walk_acting-returns-clause-walks : goal.walk_acting-returns-clause-walks
walk_acting-returns-clause-walks g t c = λ ds first p own n node role inside.
    let h = acting_none g t (goal.at.walk_acting-returns-clause-walks g t c).In_default (within ds first p own n node role inside) in
    on_ok c.open_last.result (c.open_last.ensures.ends ds p h.scope h.next h.cursor h.start node role h.between)
    (walked ds first p own n c.loop-child_role.self c.open_last.new.self c.loop-child_role.turn c.args.steps.now c.loop-child_role.steps inside.coming h)

pub walk_acting-returns-clause-leaves : goal.walk_acting-returns-clause-leaves
walk_acting-returns-clause-leaves g t c = λ ds first p own n node role inside.
    let h = acting_none g t (goal.at.walk_acting-returns-clause-leaves g t c).In_default (within ds first p own n node role inside) in
    on_ok c.open_last.result (c.open_last.ensures.ends ds p h.scope h.next h.cursor h.start node role h.between)
    (leaves ds first p own n c.loop-child_role.self c.open_last.new.self c.loop-child_role.turn c.args.steps.now c.loop-child_role.steps inside.coming h)

pub walk_acting-returns-clause-goes : goal.walk_acting-returns-clause-goes
walk_acting-returns-clause-goes g t c =
    on_ok c.open_last.result c.open_last.ensures.goes (λ last. goes-trans c.args.self.now.made c.loop-child_role.self.made c.open_last.new.self.made c.loop-child_role.invariant.goes last)

pub walk_acting-returns-clause-cost : goal.walk_acting-returns-clause-cost
walk_acting-returns-clause-cost g t c = λ ds first p own n node role inside.
    on_success c.open_last.result
    (rests_end ds first p own n c.args.steps.now c.loop-child_role.steps c.loop-child_role.self c.loop-child_role.turn
    (acting_none g t (goal.at.walk_acting-returns-clause-cost g t c).In_default (within ds first p own n node role inside)))

pub walk_acting-returns-clause-given_up : goal.walk_acting-returns-clause-given_up
walk_acting-returns-clause-given_up g t c = λ ds first p own n node role inside.
    on_err c.open_last.result (acting_so_far g t (goal.at.walk_acting-returns-clause-given_up g t c).At-loop-child_role (within ds first p own n node role inside))

pub walk_acting-returns-in_err-begin_child-clause-given_up : goal.walk_acting-returns-in_err-begin_child-clause-given_up
walk_acting-returns-in_err-begin_child-clause-given_up g t c = λ ds first p own n node role inside.
    on_err c.from_residual.result (acting_so_far g t (goal.at.walk_acting-returns-in_err-begin_child-clause-given_up g t c).At-loop-child_role (within ds first p own n node role inside))

pub walk_acting-returns-in_err-walk_child-clause-given_up : goal.walk_acting-returns-in_err-walk_child-clause-given_up
walk_acting-returns-in_err-walk_child-clause-given_up g t c = λ ds first p own n node role inside.
    let at = goal.at.walk_acting-returns-in_err-walk_child-clause-given_up g t c in
    let r = within ds first p own n node role inside in
    let k = acting_comes g t at.In_ok-begin_child r (acting_rests g t at.After-new-child r) in
    on_err c.from_residual-in_err-walk_child.result (child_asks k c.walk_child.new.steps (c.in_err-walk_child.ensures.given_up ds (place k) (next k) refl refl k.coming))

pub walk_acting-returns-in_err-finish_child-clause-given_up : goal.walk_acting-returns-in_err-finish_child-clause-given_up
walk_acting-returns-in_err-finish_child-clause-given_up g t c = λ ds first p own n node role inside.
    let child : Role × Node = (c.in-Some.field-0-0.now.0, c.new-child.result.node.now) in
    let past : Walker = c.walk_child.new.self in
    let at = goal.at.walk_acting-returns-in_err-finish_child-clause-given_up g t c in
    let r = within ds first p own n node role inside in
    let k = acting_comes g t at.In_ok-begin_child r (acting_rests g t at.After-new-child r) in
    let went : past ≡ walked_over ds c.begin_child.new.self (place k) None (next k) = c.in_ok-walk_child.ensures.walks ds (place k) (next k) refl refl k.coming in
    on_err c.from_residual-in_err-finish_child.result
    (rests_ending ds first p own n c.args.steps.now c.loop-child_role.steps c.loop-child_role.self c.loop-child_role.turn child c.in-Some.rest.now k.rests c.begin_child.new.self k.stood past c.walk_child.new.steps c.finish_child.new.steps went
    (c.in_ok-walk_child.ensures.cost ds (place k) (next k) refl refl k.coming) (c.in_err-finish_child.ensures.given_up ds p (scope k) (start k) k.stands (holds k past went)))

-- what is asked never falls
pub walk_acting-returns-clause-risen : goal.walk_acting-returns-clause-risen
walk_acting-returns-clause-risen g t c = c.loop-child_role.invariant.risen

pub walk_acting-returns-in_err-begin_child-clause-risen : goal.walk_acting-returns-in_err-begin_child-clause-risen
walk_acting-returns-in_err-begin_child-clause-risen g t c = c.loop-child_role.invariant.risen

pub walk_acting-returns-in_err-walk_child-clause-risen : goal.walk_acting-returns-in_err-walk_child-clause-risen
walk_acting-returns-in_err-walk_child-clause-risen g t c = through _ _ _ c.loop-child_role.invariant.risen c.walk_child.ensures.risen

pub walk_acting-returns-in_err-finish_child-clause-risen : goal.walk_acting-returns-in_err-finish_child-clause-risen
walk_acting-returns-in_err-finish_child-clause-risen g t c = through _ _ _ c.loop-child_role.invariant.risen (through _ _ _ c.in_ok-walk_child.ensures.risen c.finish_child.ensures.risen)

-- and less is left
pub walk_acting-loop-child_role-smaller : goal.walk_acting-loop-child_role-smaller
walk_acting-loop-child_role-smaller g t c = shorter _ _ _ c.in-Some.ensures.cases.0

-- between the children of a node where nothing happens

module _ (g : given.Over) (t : ℕ) (c : walk_even-After-new-child g t) where
  abbrev even_child : Role × Node
  even_child = (c.in-Some.field-0-0.now.0, c.new-child.result.node.now)

  even_split : c.loop-child_role.left.now ≡ even_child ∷ c.in-Some.rest.now
  even_split = c.in-Some.ensures.cases.0 ∙ ap (λ (x : Node). (c.in-Some.field-0-0.now.0, x) ∷ c.in-Some.rest.now) (sym c.new-child.ensures)

  abbrev even_turn : Turn
  even_turn = turn_at c.args.self.now c.args.kind.node.now.kind

  even_rests : (r : HasEntered c.args.self.now c.args.kind.node.now c.args.role) → Rests r.ds r.first r.place r.own r.next c.args.steps.now c.loop-child_role.steps c.loop-child_role.self even_turn (forest_of (even_child ∷ c.in-Some.rest.now))
  even_rests r =
      subst (λ (xs : List (Role × Node)). Rests r.ds r.first r.place r.own r.next c.args.steps.now c.loop-child_role.steps c.loop-child_role.self even_turn (forest_of xs)) even_split
      (c.loop-child_role.invariant.rests r.ds r.first r.place r.own r.next r.node_is r.role_is r.inside)

  -- at the place, too, nothing happens
  even_at : (r : HasEntered c.args.self.now c.args.kind.node.now c.args.role) → acts_between r.place.node.kind ≡ false
  even_at r = ap (λ (x : Node). acts_between x.kind) r.node_is ∙ c.requires.even

  unmarked_at : (r : HasEntered c.args.self.now c.args.kind.node.now c.args.role) → has mark.Declare r.place.node ≡ false
  unmarked_at r = ap (has mark.Declare) r.node_is ∙ c.requires.unmarked

-- the walk turns its cursor to that of the child
even_turned : (g : given.Over) (t : ℕ) (c : walk_even-After-turn_to g t) (r : HasEntered c.args.self.now c.args.kind.node.now c.args.role)
    → c.turn_to.new.self ≡ record c.loop-child_role.self { cursor = cursor_before r.place.node c.loop-child_role.self.is_ambient c.in-Some.field-0-0.now.0 c.new-child.result.node.now c.loop-child_role.self.cursor }
even_turned g t c r =
    c.turn_to.ensures.made
    ∙ ap (λ (x : Node). record c.loop-child_role.self { cursor = cursor_before x c.loop-child_role.self.is_ambient c.in-Some.field-0-0.now.0 c.new-child.result.node.now c.loop-child_role.self.cursor }) (sym r.node_is)

even_none : (g : given.Over) (t : ℕ) (c : walk_even-In_default g t) (r : HasEntered c.args.self.now c.args.kind.node.now c.args.role)
    → Rests r.ds r.first r.place r.own r.next c.args.steps.now c.loop-child_role.steps c.loop-child_role.self (turn_at c.args.self.now c.args.kind.node.now.kind) nothing
even_none g t c r =
    subst (λ (f : Forest). Rests r.ds r.first r.place r.own r.next c.args.steps.now c.loop-child_role.steps c.loop-child_role.self (turn_at c.args.self.now c.args.kind.node.now.kind) f)
    (none_left c.loop-child_role.left.now c.in_default.ensures.cases) (c.loop-child_role.invariant.rests r.ds r.first r.place r.own r.next r.node_is r.role_is r.inside)

pub walk_even-loop-child_role-init : goal.walk_even-loop-child_role-init
walk_even-loop-child_role-init g t c =
    let same : forest_of c.as_slice-left.result.now ≡ c.args.kind.node.now.children = c.as_slice-left.ensures.forest ∙ ap (λ (x : Node). x.children) c.node.ensures in
    record {
      left = omega (arith, ap count same);
      goes = goes-refl c.args.self.now.made;
      risen = omega arith;
      rests = λ ds first p own n node role inside.
          rests_first ds first p own n c.args.self.now (turn_at c.args.self.now c.args.kind.node.now.kind) c.args.kind.node.now.kind (forest_of c.as_slice-left.result.now) c.args.steps.now inside.coming
          (sym (ap (λ (x : Node). x.kind) node)) (same ∙ sym (ap (λ (x : Node). x.children) node)) inside.entered refl;
    }

pub walk_even-loop-child_role-preserved : goal.walk_even-loop-child_role-preserved
walk_even-loop-child_role-preserved g t c =
    let w : Walker = c.loop-child_role.self in
    let v : Walker = c.turn_to.new.self in
    let past : Walker = c.walk_child.new.self in
    let at = goal.at.walk_even-loop-child_role-preserved g t c in
    let start = at.After-new-child in
    record {
      left = omega (arith, c.loop-child_role.invariant.left, ap (λ (xs : List (Role × Node)). count (forest_of xs)) (even_split g t start));
      goes = goes-trans c.args.self.now.made v.made past.made (goes-trans c.args.self.now.made w.made v.made c.loop-child_role.invariant.goes c.turn_to.ensures.goes) c.in_ok-walk_child.ensures.goes;
      risen = through _ _ _ c.loop-child_role.invariant.risen c.in_ok-walk_child.ensures.risen;
      rests = λ ds first p own n node role inside.
          let r = within ds first p own n node role inside in
          let h = even_rests g t start r in
          let turned = even_turned g t at.After-turn_to r in
          let even = even_at g t start r in
          let unmarked = unmarked_at g t start r in
          let coming = coming_even ds first p own n (even_child g t start) c.in-Some.rest.now w v (even_turn g t start) c.args.steps.now c.loop-child_role.steps even unmarked h turned in
          let place = even_place ds first p own n (even_child g t start) c.in-Some.rest.now w v (even_turn g t start) c.args.steps.now c.loop-child_role.steps even unmarked h turned in
          let next = even_next ds first p own n (even_child g t start) c.in-Some.rest.now w v (even_turn g t start) c.args.steps.now c.loop-child_role.steps even unmarked h turned in
          rests_even ds first p own n (even_child g t start) c.in-Some.rest.now w v (even_turn g t start) c.args.steps.now c.loop-child_role.steps even unmarked h turned past c.walk_child.new.steps
          (c.in_ok-walk_child.ensures.walks ds place next refl refl coming) (c.in_ok-walk_child.ensures.cost ds place next refl refl coming);
    }

pub walk_even-turn_to-requires : goal.walk_even-turn_to-requires
walk_even-turn_to-requires g t c = c.requires.even

pub walk_even-walk_child-requires : goal.walk_even-walk_child-requires
walk_even-walk_child-requires g t c =
    let w : Walker = c.loop-child_role.self in
    let v : Walker = c.turn_to.new.self in
    let at = goal.at.walk_even-walk_child-requires g t c in
    let start = at.After-new-child in
    let child : Role × Node = even_child g t start in
    let r : HasEntered c.args.self.now c.args.kind.node.now c.args.role = c.requires.inside in
    let h = even_rests g t start r in
    let turned = even_turned g t at.After-turn_to r in
    let even = even_at g t start r in
    let unmarked = unmarked_at g t start r in
    let coming = coming_even r.ds r.first r.place r.own r.next child c.in-Some.rest.now w v (even_turn g t start) c.args.steps.now c.loop-child_role.steps even unmarked h turned in
    let there : IsSomewhere v child.1 child.0 = somewhere r.ds (even_place r.ds r.first r.place r.own r.next child c.in-Some.rest.now w v (even_turn g t start) c.args.steps.now c.loop-child_role.steps even unmarked h turned) None
    (even_next r.ds r.first r.place r.own r.next child c.in-Some.rest.now w v (even_turn g t start) c.args.steps.now c.loop-child_role.steps even unmarked h turned) refl refl coming in
    let smaller : 4 * count child.1.children + 3 < t = omega (arith, c.loop-child_role.invariant.left, ap (λ (xs : List (Role × Node)). count (forest_of xs)) (even_split g t start), c.decreases) in
    λ κs out. (smaller, (out.0, (out.1, there)))

pub walk_even-returns-clause-walks : goal.walk_even-returns-clause-walks
walk_even-returns-clause-walks g t c = λ ds first p own n node role inside.
    let h = even_none g t (goal.at.walk_even-returns-clause-walks g t c).In_default (within ds first p own n node role inside) in
    walked_even ds first p own n c.loop-child_role.self (turn_at c.args.self.now c.args.kind.node.now.kind) c.args.steps.now c.loop-child_role.steps (ap (λ (x : Node). acts_between x.kind) node ∙ c.requires.even) inside.coming h

pub walk_even-returns-clause-leaves : goal.walk_even-returns-clause-leaves
walk_even-returns-clause-leaves g t c = λ ds first p own n node role inside.
    let h = even_none g t (goal.at.walk_even-returns-clause-leaves g t c).In_default (within ds first p own n node role inside) in
    leaves_even ds first p own n c.loop-child_role.self (turn_at c.args.self.now c.args.kind.node.now.kind) c.args.steps.now c.loop-child_role.steps (ap (λ (x : Node). acts_between x.kind) node ∙ c.requires.even) inside.coming h

pub walk_even-returns-clause-goes : goal.walk_even-returns-clause-goes
walk_even-returns-clause-goes g t c = c.loop-child_role.invariant.goes

pub walk_even-returns-clause-cost : goal.walk_even-returns-clause-cost
walk_even-returns-clause-cost g t c = λ ds first p own n node role inside.
    rests_end ds first p own n c.args.steps.now c.loop-child_role.steps c.loop-child_role.self (turn_at c.args.self.now c.args.kind.node.now.kind)
    (even_none g t (goal.at.walk_even-returns-clause-cost g t c).In_default (within ds first p own n node role inside))

pub walk_even-returns-clause-risen : goal.walk_even-returns-clause-risen
walk_even-returns-clause-risen g t c = c.loop-child_role.invariant.risen

pub walk_even-returns-in_err-walk_child-clause-given_up : goal.walk_even-returns-in_err-walk_child-clause-given_up
walk_even-returns-in_err-walk_child-clause-given_up g t c = λ ds first p own n node role inside.
    let w : Walker = c.loop-child_role.self in
    let v : Walker = c.turn_to.new.self in
    let at = goal.at.walk_even-returns-in_err-walk_child-clause-given_up g t c in
    let start = at.After-new-child in
    let child : Role × Node = even_child g t start in
    let r = within ds first p own n node role inside in
    let h = even_rests g t start r in
    let turned = even_turned g t at.After-turn_to r in
    let even = even_at g t start r in
    let unmarked = unmarked_at g t start r in
    let coming = coming_even ds first p own n child c.in-Some.rest.now w v (even_turn g t start) c.args.steps.now c.loop-child_role.steps even unmarked h turned in
    let place = even_place ds first p own n child c.in-Some.rest.now w v (even_turn g t start) c.args.steps.now c.loop-child_role.steps even unmarked h turned in
    let next = even_next ds first p own n child c.in-Some.rest.now w v (even_turn g t start) c.args.steps.now c.loop-child_role.steps even unmarked h turned in
    on_err c.from_residual.result
    (child_asks_even ds first p own n child c.in-Some.rest.now w v (even_turn g t start) c.args.steps.now c.loop-child_role.steps even unmarked h turned c.walk_child.new.steps
    (c.in_err-walk_child.ensures.given_up ds place next refl refl coming))

pub walk_even-returns-in_err-walk_child-clause-risen : goal.walk_even-returns-in_err-walk_child-clause-risen
walk_even-returns-in_err-walk_child-clause-risen g t c = through _ _ _ c.loop-child_role.invariant.risen c.walk_child.ensures.risen

pub walk_even-loop-child_role-smaller : goal.walk_even-loop-child_role-smaller
walk_even-loop-child_role-smaller g t c = shorter _ _ _ c.in-Some.ensures.cases.0

-- a node is entered, walked below and left

pub walk_over-enter-requires-clause-ids : goal.walk_over-enter-requires-clause-ids
walk_over-enter-requires-clause-ids g t c =
    let r : IsSomewhere c.args.self.now c.args.kind.node.now c.args.role = c.requires in
    may_enter r.ds c.args.self.now r.place r.own r.next c.args.kind.node.now r.node_is r.coming

pub walk_over-enter-requires-clause-kind : goal.walk_over-enter-requires-clause-kind
walk_over-enter-requires-clause-kind g t c = c.of-doings.ensures ∙ c.ty.ensures

pub walk_over-leave-requires-clause-kind : goal.walk_over-leave-requires-clause-kind
walk_over-leave-requires-clause-kind g t c = c.of-doings.ensures ∙ c.ty.ensures

module _ (g : given.Over) (t : ℕ) (c : walk_over-In_ok-enter g t) where
  -- what the walk enters it has entered
  entered_here : (ds : List Declaration) (p : Place) (own : Option OpenScope) (n : ℕ) → p.node ≡ c.args.kind.node.now → IsComing ds c.args.self.now p own n → IsEntered ds c.args.self.now c.enter.new.self p own n
  entered_here ds p own n node coming = record { coming = coming; entered = c.in_ok-enter.ensures.walks ds p node coming.comes coming.shown }

-- once all below the node is walked, it may be checked
pub walk_over-leave-requires-clause-fit : goal.walk_over-leave-requires-clause-fit
walk_over-leave-requires-clause-fit g t c =
    let r : IsSomewhere c.args.self.now c.args.kind.node.now c.args.role = c.requires in
    let entered = entered_here g t (goal.at.walk_over-leave-requires-clause-fit g t c).In_ok-enter r.ds r.place r.own r.next r.node_is r.coming in
    let leaving : IsLeaving c.walk_below.new.self r.place = c.in_ok-walk_below.ensures.leaves r.ds c.args.self.now r.place r.own r.next r.node_is r.role_is entered in
    subst (λ (x : Node). c.walk_below.new.self.checks ≡ true → IsFit c.walk_below.new.self x) r.node_is leaving.fit

pub walk_over-returns-clause-walks : goal.walk_over-returns-clause-walks
walk_over-returns-clause-walks g t c = λ ds p n node role coming.
    let entered = entered_here g t (goal.at.walk_over-returns-clause-walks g t c).In_ok-enter ds p None n node coming in
    let walks = c.in_ok-walk_below.ensures.walks ds c.args.self.now p None n node role entered in
    let leaving : IsLeaving c.walk_below.new.self p = c.in_ok-walk_below.ensures.leaves ds c.args.self.now p None n node role entered in
    on_ok c.leave.result (c.leave.ensures.made p node (shows_rows c.walk_below.new.self p leaving coming.root))
    (λ left. over_left ds c.args.self.now p n coming c.walk_below.new.self c.leave.new.self walks left)

pub walk_over-returns-in_err-walk_below-clause-given_up : goal.walk_over-returns-in_err-walk_below-clause-given_up
walk_over-returns-in_err-walk_below-clause-given_up g t c = λ ds p n node role coming.
    let entered = entered_here g t (goal.at.walk_over-returns-in_err-walk_below-clause-given_up g t c).In_ok-enter ds p None n node coming in
    on_err c.from_residual-in_err-walk_below.result (c.in_err-walk_below.ensures.given_up ds c.args.self.now p None n node role entered)

-- or it is passed over

module _ (g : given.Over) (t : ℕ) (c : goal.walk_child-After-pass g t) where
  passed_here : (p : Place) → p.node ≡ c.args.kind.node.now → is_passed c.args.self.now p.node ≡ true
  passed_here p node = ap (is_passed c.args.self.now) node ∙ sym {b = is_passed c.args.self.now c.args.kind.node.now} c.passes.ensures ∙ c.if-passes.true

pub walk_child-returns-then-passes-clause-walks : goal.walk_child-returns-then-passes-clause-walks
walk_child-returns-then-passes-clause-walks g t c = λ ds p n node role coming.
    let w : Walker = c.args.self.now in
    on_ok c.pass.result c.pass.ensures.made (λ made. made ∙ ap (past_leaf w) (sym node) ∙ sym (over_passed ds w p n coming (passed_here g t c p node)))

pub walk_child-returns-then-passes-clause-cost : goal.walk_child-returns-then-passes-clause-cost
walk_child-returns-then-passes-clause-cost g t c = λ ds p n node role coming.
    on_success c.pass.result (asks_passed ds c.args.self.now p n coming (passed_here g t c p node) c.args.steps.now)
