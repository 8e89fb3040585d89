-- Each declaration that is made is written in a node that may declare a symbol.
use Rattle.std.proofs.Common.{ℕ, ◌+◌, ◌<◌, ◌≤◌, List, [], ◌∷◌, Option, None, refl, arith}
use Rattle.semantic_kinds.specs.declared.role.Role.{Role}
use Rattle.semantic_tree.specs.Forest.{Forest, nothing, tree}
use Rattle.semantic_tree.specs.Tree.{Tree}
use Rattle.semantic_tree.specs.declared.node.Node.{Node}
use Rattle.semantic_model.specs.Entries.{times}
use Rattle.semantic_model.specs.Place.{Place, OpenScope}
use Rattle.semantic_model.specs.ScopeKind.{opened_scope}
use Rattle.semantic_model.specs.Cursor.{on_entering}
use Rattle.semantic_model.specs.Step.{Step, leaving, opening_at, opening_last, steps_below, root_place, steps}
use Rattle.semantic_model.proofs.steps.Turn.{Turn, turn_at}
use Rattle.semantic_model.specs.Binder.{declared_on_entering}
use Rattle.semantic_model.specs.Event.{events}
use Rattle.semantic_model.specs.Fold.{start}
use Rattle.semantic_model.specs.Hoist.{run}
use Rattle.semantic_model.proofs.steps.TurnCases.{opening_case, last_case}
use Rattle.walk_model.proofs.once.NameTimes.{declared_times}
use Rattle.walk_model.proofs.once.DeclaredBelow.{step_times, steps_append, none_ending, turn_times}
use Rattle.walk_model.proofs.once.Weighing.{identifiers, identifier_times}
use Rattle.walk_model.proofs.sizes.SymbolNodes.{symbol_times, node_symbols}
use Rattle.walk_model.proofs.sizes.Declarers.{entered_within, opened_within}

module _ (x : ℕ) where
  opening_within : (p : Place) (r : Role) (own : Option OpenScope) (n : ℕ) → step_times x (opening_at p r own n) ≤ symbol_times x p.node.children
  opening_within p r own n = opening_case (λ ss. step_times x ss ≤ symbol_times x p.node.children) p r own n (omega arith) (omega (arith, opened_within x p.node.kind p (opened_scope p n)))

  last_within : (p : Place) (own : Option OpenScope) (n : ℕ) → step_times x (opening_last p own n) ≤ symbol_times x p.node.children
  last_within p own n = last_case (λ ss. step_times x ss ≤ symbol_times x p.node.children) p own n (omega arith) (omega (arith, opened_within x p.node.kind p (opened_scope p n)))

  -- one of some, with what each asks
  abbrev Leads : ℕ → ℕ → Type 0
  Leads a b = 0 < a → 0 < b

  one_leads : (a b c d m k : ℕ) → Leads a m → Leads b (m + k) → Leads c (m + k) → Leads d (m + k) → Leads (a + (b + c) + d) (m + k)
  one_leads ℕ.zero ℕ.zero ℕ.zero d m k f g h i l = i (omega (arith, l))
  one_leads (ℕ.suc a) b c d m k f g h i l = let q = f (omega arith) in omega (arith, q)
  one_leads ℕ.zero (ℕ.suc b) c d m k f g h i l = g (omega arith)
  one_leads ℕ.zero ℕ.zero (ℕ.suc c) d m k f g h i l = h (omega arith)

  below_within : (p : Place) (own : Option OpenScope) (n cursor : ℕ) (f : Forest) → Leads (step_times x (steps_below p own n cursor f)) (symbol_times x p.node.children + symbol_times x f)
  below_within p own n cursor nothing l = omega (arith, l, last_within p own n)
  below_within p own n cursor (tree r k span text marks below id after) l =
      let node : Node = record { kind = k; span = span; text = text; marks = marks; children = below; node_id = id } in
      let turn : Turn = turn_at p own n cursor r node after in
      let m : ℕ = symbol_times x p.node.children in
      let whole : ℕ = symbol_times x (tree r k span text marks below id after) in
      one_leads (step_times x turn.before) (declared_times x (declared_on_entering turn.child)) (step_times x turn.below) (step_times x turn.others) m whole
      (λ a. omega (arith, a, opening_within p r own n))
      (λ a. (let q = entered_within x k turn.child refl a in omega (arith, q)))
      (λ a. (let q = below_within turn.child None turn.next turn.inner below a in omega (arith, q)))
      (λ a. (let q = below_within p turn.scope turn.rest turn.past after a in omega (arith, q)))
      (omega (arith, l, turn_times x turn.before turn.below turn.behind turn.others turn.child, none_ending x p r turn.scope after))

  program_within : (p : Tree) → Leads (step_times x (steps p)) (node_symbols x p.root)
  program_within p l =
      let root : Place = root_place p in
      let below : List Step = steps_below root None 0 (on_entering p.root.kind 0) p.root.children in
      let q = one_leads 0 (declared_times x (declared_on_entering root)) (step_times x below) 0 (node_symbols x p.root) (symbol_times x p.root.children)
      (λ a. absurd (omega (arith, a)))
      (λ a. (let w = entered_within x p.root.kind root refl a in omega (arith, w)))
      (λ a. (let w = below_within root None 0 (on_entering p.root.kind 0) p.root.children a in omega (arith, w)))
      (λ a. absurd (omega (arith, a)))
      (omega (arith, l, steps_append x below (leaving root ∷ []))) in
      omega (arith, q)

  pub made_within : (p : Tree) → 0 < times x (identifiers (run start (events (steps p))).made) → 0 < node_symbols x p.root
  made_within p l = program_within p (omega (arith, l, identifier_times x p))
