-- No node is declared more often below a place than it stands there.
use Rattle.std.proofs.Common.{◌≡◌, ℕ, ◌+◌, ◌≤◌, List, [], ◌∷◌, ◌++◌, Option, Some, None, Bool, true, false, cond, ◌&&◌, refl, arith}
use Rattle.semantic_syntax.proofs.Truth.{and_first, and_second}
use Rattle.semantic_kinds.specs.declared.kind.AstType.{AstType}
use Rattle.semantic_kinds.specs.declared.kind.AstType.TheVariants as kind
use Rattle.semantic_kinds.specs.declared.role.Role.{Role}
use Rattle.semantic_tree.specs.Forest.{Forest, nothing, tree}
use Rattle.semantic_tree.specs.Tree.{Tree}
use Rattle.semantic_tree.specs.Faults.{first_fault}
use Rattle.semantic_tree.specs.declared.node.Node.{Node}
use Rattle.semantic_model.specs.Place.{Place, OpenScope}
use Rattle.semantic_model.specs.Inside.{opens, is_inside}
use Rattle.semantic_model.specs.ScopeKind.{opened_scope}
use Rattle.semantic_model.specs.Cursor.{on_entering}
use Rattle.semantic_model.specs.Binder.{declared_by}
use Rattle.semantic_model.specs.Event.{declared_at}
use Rattle.semantic_model.specs.Step.{Step, entering, opening, closing, leaving, steps_below, steps, opening_at, ending_after, opening_last, scope_at, root_place}
use Rattle.semantic_model.proofs.steps.Turn.{Turn, turn_at}
use Rattle.semantic_model.proofs.form.Shape.{has_form}
use Rattle.semantic_model.proofs.steps.TurnCases.{ending_case}
use Rattle.walk_model.proofs.places.Shapes.{holds_below}
use Rattle.walk_model.proofs.once.NameTimes.{name_roles, declared_times, reached, node_times}
use Rattle.walk_model.proofs.once.QuietNames.{names_quietly, tree_quiet}
use Rattle.walk_model.proofs.once.LoneMembers.{AreLone, tree_lone}
use Rattle.walk_model.proofs.once.DeclaredTimes.{opened_times, inside_is, child_times}

module _ (x : ℕ) where
  -- how often the steps declare the node
  abbrev pub step_times : List Step → ℕ
  step_times [] = 0
  step_times (s ∷ ss) = declared_times x (declared_at s) + step_times ss

  pub steps_append : (xs ys : List Step) → step_times (xs ++ ys) ≡ step_times xs + step_times ys
  steps_append [] ys = omega arith
  steps_append (s ∷ xs) ys = omega (arith, steps_append xs ys)

  -- what is still to be declared in the scope of the place
  abbrev to_open : Place → Option OpenScope → ℕ
  to_open p None = opened_times x p.node.kind p.node
  to_open p (Some s) = 0

  last_times : (p : Place) (own : Option OpenScope) (n : ℕ) → step_times (opening_last p own n) ≤ to_open p own
  last_times p (Some s) n = omega arith
  last_times p None n = by (opens p.node.kind)
    where
      by : (b : Bool) → step_times (cond b (opening p (opened_scope p n) ∷ closing p (opened_scope p n) ∷ []) []) ≤ to_open p None
      by true = omega (arith, inside_is x p.node.kind p (opened_scope p n))
      by false = omega arith

  first_times : (p : Place) (r : Role) (own : Option OpenScope) (n : ℕ) → step_times (opening_at p r own n) + to_open p (scope_at p r own n) ≤ to_open p own
  first_times p r (Some s) n = omega arith
  first_times p r None n = by (is_inside p.node.kind r)
    where
      by : (b : Bool) → step_times (cond b (opening p (opened_scope p n) ∷ []) []) + to_open p (cond b (Some (opened_scope p n)) None) ≤ to_open p None
      by true = omega (arith, inside_is x p.node.kind p (opened_scope p n))
      by false = omega arith

  pub none_ending : (p : Place) (r : Role) (own : Option OpenScope) (after : Forest) → step_times (ending_after p r own after) ≡ 0
  none_ending p r own after = ending_case (λ ss. step_times ss ≡ 0) p r own after refl (λ s. refl) (λ s. refl) (λ s. refl)

  pub turn_times : (xs ys es ws : List Step) (child : Place) → step_times (xs ++ (entering child ∷ (ys ++ leaving child ∷ [])) ++ es ++ ws) ≡ step_times xs + (declared_times x (declared_by child.node.kind child) + step_times ys) + step_times es + step_times ws
  turn_times xs ys es ws child =
      let zs : List Step = entering child ∷ (ys ++ leaving child ∷ []) in
      omega (arith, steps_append (xs ++ zs ++ es) ws, steps_append (xs ++ zs) es, steps_append xs zs, steps_append ys (leaving child ∷ []))

  pub below_times : (p : Place) (own : Option OpenScope) (n cursor : ℕ) (f : Forest) → holds_below names_quietly p.node.kind f ≡ true → AreLone f
      → reached x (name_roles p.node.kind) f + step_times (steps_below p own n cursor f) ≤ to_open p own + node_times x f
  below_times p own n cursor nothing q l = omega (arith, last_times p own n)
  below_times p own n cursor (tree r kd span text marks below id after) q l =
      let node : Node = record { kind = kd; span = span; text = text; marks = marks; children = below; node_id = id } in
      let turn : Turn = turn_at p own n cursor r node after in
      let here : names_quietly p.node.kind r kd text ≡ true = and_first (names_quietly p.node.kind r kd text) _ q in
      let both : (holds_below names_quietly kd below && holds_below names_quietly p.node.kind after) ≡ true = and_second (names_quietly p.node.kind r kd text) _ q in
      omega (
        arith,
        turn_times turn.before turn.below turn.behind turn.others turn.child,
        first_times p r own n,
        none_ending p r turn.scope after,
        child_times x p.node.kind r turn.child here refl l.0,
        below_times turn.child None turn.next turn.inner below (and_first (holds_below names_quietly kd below) _ both) l.1.0,
        below_times p turn.scope turn.rest turn.past after (and_second (holds_below names_quietly kd below) _ both) l.1.1,
      )

  root_times : (k : AstType) (p : Place) → k ≡ kind.Program → declared_times x (declared_by k p) + opened_times x k p.node ≡ 0
  root_times k p e = rw e refl

  -- so it is in a program without a fault
  pub program_times : (p : Tree) → first_fault p ≡ None → step_times (steps p) ≤ node_times x p.root.children
  program_times p h =
      let root : Place = root_place p in
      let below : List Step = steps_below root None 0 (on_entering p.root.kind 0) p.root.children in
      omega (
        arith,
        steps_append below (leaving root ∷ []),
        root_times p.root.kind root (has_form p h).root,
        below_times root None 0 (on_entering p.root.kind 0) p.root.children (tree_quiet p h) (tree_lone p h),
      )
