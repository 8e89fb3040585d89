-- What a recursion over a program's tree knows, before a node, and between its children.
use Rattle.std.proofs.Common.{◌≡◌, ℕ, suc, ◌+◌, ◌<◌, ◌≤◌, List, ◌∷◌, Option, Some, None, Bool, true, false, cond, length, arith, refl, sym, ◌∙◌}
use Rattle.std.specs.Option.{unwrap_or}
use Rattle.semantic_kinds.specs.declared.role.Role.{Role}
use Rattle.semantic_syntax.specs.Reading.{scope_of}
use Rattle.semantic_tree.specs.Children.{forest_of}
use Rattle.semantic_tree.specs.Tree.{Tree}
use Rattle.semantic_tree.specs.Faults.{first_fault}
use Rattle.semantic_tree.specs.declared.node.Node.{Node}
use Rattle.semantic_model.specs.Place.{Place, OpenScope, scope_of_place, innermost, outside}
use Rattle.semantic_model.specs.Inside.{opens, is_inside, is_parameter_decorator, scopes_in}
use Rattle.semantic_model.specs.ScopeKind.{opened_scope}
use Rattle.semantic_model.specs.Cursor.{on_entering}
use Rattle.semantic_model.specs.Declaration.{Declaration}
use Rattle.semantic_model.specs.Step.{entering, steps_below, steps_of, opening_at, ending_after, scope_at, next_at, child_place, cursor_past, root_place}
use Rattle.walk_model.specs.WalkState.{WalkState}
use Rattle.walk_model.specs.Walks.{after, after_all}
use Rattle.walk_model.proofs.places.Routes.{HasVar}
use Rattle.walk_model.proofs.turns.ChildTurns.{WalkStandsAt, first_turn, stands_entering, stands_opening, stands_child, stands_past, stands_ending}
use Rattle.walk_model.proofs.turns.KeptHeaderStarts.{HoldsAt, start_at, holds_entering, holds_opening, holds_past, holds_ending}
use Rattle.walk_model.proofs.turns.TurnParts.{within_at, child_at, around_at}
use Rattle.walk_model.proofs.turns.RootSteps.{root_scope, root_made, root_stands, root_holds}
use Rattle.walk_model.proofs.turns.Seats.{decorated_within, FirstSeated, first_seated, root_seated}
pub use Rattle.walk_model.specs.Recursion.{IsReady, OpensInside, IsBetween}

-- once a node is entered, its children are left
pub ready_entered : (ds : List Declaration) (w : WalkState) (p : Place) (n start : ℕ) → start ≤ length w.waiting → IsReady w p n → IsBetween (after ds w (entering p)) p None n (on_entering p.node.kind p.cursor) start p.node.children
ready_entered ds w p n start l h = record {
  some = h.some;
  stands = stands_entering ds w p None n h.stands;
  holds = holds_entering ds w p start n h.some h.stands l h.sound;
  seated = h.seat.below;
  inside = h.seat.var;
}

-- a program's children, once the root's scope is open
pub root_between : (ds : List Declaration) (program : Tree) → first_fault program ≡ None
    → IsBetween (root_made ds (root_place program)) (root_place program) (Some (root_scope (root_place program))) 1 (on_entering program.root.kind 0) 0 program.root.children
root_between ds program h = record { some = omega arith; stands = root_stands ds program; holds = root_holds ds program; seated = root_seated program h; inside = tt }

module _ (ds : List Declaration) (w : WalkState) (p : Place) (own : Option OpenScope) (n cursor start : ℕ) (child : Role × Node) (rest : List (Role × Node)) where
  -- the own scope, its header's start and the number of scopes, where the child begins
  abbrev pub scope_here : Option OpenScope
  scope_here = scope_at p child.0 own n

  abbrev pub start_here : ℕ
  start_here = start_at p child.0 own start w

  abbrev pub next_here : ℕ
  next_here = next_at p child.0 own n

  abbrev pub place_here : Place
  place_here = child_place p scope_here cursor child.0 child.1

  -- what is made before the child, behind its steps, and where it ends
  abbrev pub opened_here : WalkState
  opened_here = after_all ds w (opening_at p child.0 own n)

  abbrev pub past_here : WalkState
  past_here = after_all ds opened_here (steps_of place_here next_here)

  abbrev pub ended_here : WalkState
  ended_here = after_all ds past_here (ending_after p child.0 scope_here (forest_of rest))

  abbrev pub next_past : ℕ
  next_past = next_here + cond (opens child.1.kind) 1 0 + scopes_in child.1.children

  -- to go on from there is to do the steps of all that are left
  pub turn_is : after_all ds w (steps_below p own n cursor (forest_of (child ∷ rest))) ≡ after_all ds ended_here (steps_below p scope_here next_past (cursor_past p child.0 cursor place_here) (forest_of rest))
  turn_is = first_turn ds w p own n cursor child rest

  next_some : 0 < n → 0 < next_here
  next_some z = by own
    where
      either : (b : Bool) → 0 < cond b (suc n) n
      either true = omega arith
      either false = z

      by : (o : Option OpenScope) → 0 < next_at p child.0 o n
      by (Some s) = z
      by None = either (is_inside p.node.kind child.0)

  inside_on : (o : Option OpenScope) → OpensInside p o → OpensInside p (scope_at p child.0 o n)
  inside_on (Some s) h = tt
  inside_on None h = by (is_inside p.node.kind child.0)
    where
      by : (b : Bool) → OpensInside p (cond b (Some (opened_scope p n)) None)
      by true = tt
      by false = h

  pub opened_stands : IsBetween w p own n cursor start (forest_of (child ∷ rest)) → WalkStandsAt opened_here p scope_here next_here
  opened_stands h = stands_opening ds w p child.0 own n h.stands

  pub opened_holds : IsBetween w p own n cursor start (forest_of (child ∷ rest)) → HoldsAt opened_here scope_here start_here
  opened_holds h = holds_opening ds w p child.0 own start n h.stands h.holds

  -- before the child
  pub child_ready : IsBetween w p own n cursor start (forest_of (child ∷ rest)) → IsReady opened_here place_here next_here
  child_ready h =
      let first : FirstSeated p own n cursor child rest = first_seated p own n cursor child rest h.seated in
      let holds : HoldsAt opened_here scope_here start_here = opened_holds h in
      record { some = next_some h.some; stands = stands_child opened_here p scope_here next_here cursor child.0 child.1 (opened_stands h); sound = holds.sound; seat = first.here }

  -- behind its steps
  pub past_stands : IsBetween w p own n cursor start (forest_of (child ∷ rest)) → WalkStandsAt past_here p scope_here next_past
  past_stands h = stands_past ds opened_here p place_here scope_here next_here (opened_stands h)

  pub past_holds : IsBetween w p own n cursor start (forest_of (child ∷ rest)) → HoldsAt past_here scope_here start_here
  past_holds h = let r : IsReady opened_here place_here next_here = child_ready h in holds_past ds opened_here place_here scope_here start_here next_here r.some r.stands (opened_holds h)

  -- before the next child
  pub next_between : IsBetween w p own n cursor start (forest_of (child ∷ rest)) → IsBetween ended_here p scope_here next_past (cursor_past p child.0 cursor place_here) start_here (forest_of rest)
  next_between h =
      let first : FirstSeated p own n cursor child rest = first_seated p own n cursor child rest h.seated in
      let z : 0 < next_here = next_some h.some in
      record {
        some = omega (arith, z);
        stands = stands_ending ds past_here p child.0 scope_here (forest_of rest) next_past (past_stands h);
        holds = holds_ending ds past_here p child.0 scope_here (forest_of rest) start_here next_past (past_stands h) (past_holds h);
        seated = first.later;
        inside = inside_on own h.inside;
      }

  -- where the child stands, by the rows
  pub child_stands_at : IsBetween w p own n cursor start (forest_of (child ∷ rest))
      → scope_of_place place_here ≡ cond (is_parameter_decorator p.node.kind child.0) (unwrap_or (scope_of opened_here.tables (scope_of_place p)).parent (scope_of_place p)) (within_at p child.0 scope_here)
  child_stands_at h =
      let ready : IsReady opened_here place_here next_here = child_ready h in
      let stands : WalkStandsAt opened_here p scope_here next_here = opened_stands h in
      child_at p scope_here cursor child.0 child.1 ∙ by (is_parameter_decorator p.node.kind child.0) refl stands ready.seat.var
    where
      by : (b : Bool) → is_parameter_decorator p.node.kind child.0 ≡ b → WalkStandsAt opened_here p scope_here next_here → HasVar place_here.chain
          → cond b (innermost (outside p.chain)).number (within_at p child.0 scope_here) ≡ cond b (unwrap_or (scope_of opened_here.tables (scope_of_place p)).parent (scope_of_place p)) (within_at p child.0 scope_here)
      by true e s v = sym (around_at opened_here.tables p.chain s.chain (decorated_within p scope_here cursor child.0 child.1 e v))
      by false e s v = refl
