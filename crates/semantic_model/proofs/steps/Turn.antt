-- The steps of the children that are left of a place, in parts round the first of them.
use Rattle.std.proofs.Common.{◌≡◌, ℕ, ◌+◌, List, ◌++◌, Option, None, cond, arith}
use Rattle.semantic_tree.specs.Forest.{Forest}
use Rattle.semantic_tree.specs.declared.node.Node.{Node}
use Rattle.semantic_kinds.specs.declared.role.Role.{Role}
use Rattle.semantic_model.specs.Place.{Place, OpenScope}
use Rattle.semantic_model.specs.Inside.{opens, scopes_in}
use Rattle.semantic_model.specs.Cursor.{on_entering}
use Rattle.semantic_model.specs.Step.{Step, steps_below, steps_of, opening_at, ending_after, scope_at, next_at, child_place, cursor_past}

-- `before ++ whole ++ behind ++ others` are the steps
pub record Turn : Type 0 where
  -- the place's own scope at the child, and how many scopes are opened before the child and behind it
  pub scope : Option OpenScope
  pub next : ℕ
  pub rest : ℕ
  -- the child, and the cursors before what stands below it and behind it
  pub child : Place
  pub inner : ℕ
  pub past : ℕ
  -- the steps before the child, below it, its own with these, those behind it, and those of the children after it
  pub before : List Step
  pub below : List Step
  pub whole : List Step
  pub behind : List Step
  pub others : List Step

abbrev pub turn_at : Place → Option OpenScope → ℕ → ℕ → Role → Node → Forest → Turn
turn_at p own n cursor r node after =
    let scope : Option OpenScope = scope_at p r own n in
    let next : ℕ = next_at p r own n in
    let rest : ℕ = next + cond (opens node.kind) 1 0 + scopes_in node.children in
    let child : Place = child_place p scope cursor r node in
    let inner : ℕ = on_entering node.kind child.cursor in
    let past : ℕ = cursor_past p r cursor child in
    record {
      scope = scope;
      next = next;
      rest = rest;
      child = child;
      inner = inner;
      past = past;
      before = opening_at p r own n;
      below = steps_below child None next inner node.children;
      whole = steps_of child next;
      behind = ending_after p r scope after;
      others = steps_below p scope rest past after;
    }

-- what adds up over steps adds up over these
pub turn_sum : (f : List Step → ℕ) → ((xs ys : List Step) → f (xs ++ ys) ≡ f xs + f ys) → (turn : Turn) → f (turn.before ++ turn.whole ++ turn.behind ++ turn.others) ≡ f turn.before + f turn.whole + f turn.behind + f turn.others
turn_sum f adds turn = omega (arith, adds (turn.before ++ turn.whole ++ turn.behind) turn.others, adds (turn.before ++ turn.whole) turn.behind, adds turn.before turn.whole)
