-- What holds of each scope as it opens holds of all scopes in which a place stands.
use Rattle.std.proofs.Common.{◌≡◌, ℕ, List, [], ◌∷◌, Option, Some, None, Bool, true, false, cond, refl}
use Rattle.std.specs.List.{AllByRecursion}
use Rattle.semantic_syntax.specs.declared.source_type.SourceType.{SourceType}
use Rattle.semantic_tree.specs.Forest.{Forest, nothing, tree}
use Rattle.semantic_tree.specs.declared.node.Node.{Node}
use Rattle.semantic_kinds.specs.declared.role.Role.{Role}
use Rattle.semantic_model.specs.Place.{Place, OpenScope, outside}
use Rattle.semantic_model.specs.Inside.{is_inside, is_in_header, is_parameter_decorator}
use Rattle.semantic_model.specs.ScopeKind.{opened_scope}
use Rattle.semantic_model.specs.Cursor.{on_entering}
use Rattle.semantic_tree.specs.Tree.{Tree}
use Rattle.semantic_model.specs.Step.{Step, entering, opening, header_ending, closing, leaving, steps_below, steps, opening_at, ending_after, opening_last, scope_at, child_place, child_scopes, root_place}
use Rattle.semantic_model.proofs.steps.Turn.{Turn, turn_at}
use Rattle.semantic_model.proofs.steps.EachStep.{EachStep, EachOfTurn, each_left, each_of_node, each_of_turn, turn_of_each}
use Rattle.semantic_model.proofs.steps.TurnCases.{opening_case, ending_case, last_case}

module _ (P : OpenScope → Type 0) (t : SourceType) where
  -- a scope that opens in those has it, if they have it
  abbrev pub IsStepHanded : Step → Type 0
  IsStepHanded (opening p s) = p.source_type ≡ t → AllByRecursion P p.chain → P s
  IsStepHanded (entering p) = Unit {0}
  IsStepHanded (header_ending p s) = Unit {0}
  IsStepHanded (closing p s) = Unit {0}
  IsStepHanded (leaving p) = Unit {0}

  abbrev pub AllHanded : List Step → Type 0
  AllHanded = EachStep IsStepHanded

  -- the scopes of a place have it
  abbrev pub IsPlaceHeld : Place → Type 0
  IsPlaceHeld p = (p.source_type ≡ t) × AllByRecursion P p.chain

  abbrev pub IsStepHeld : Step → Type 0
  IsStepHeld (entering p) = IsPlaceHeld p
  IsStepHeld (opening p s) = IsPlaceHeld p × P s
  IsStepHeld (header_ending p s) = Unit {0}
  IsStepHeld (closing p s) = Unit {0}
  IsStepHeld (leaving p) = Unit {0}

  abbrev pub AllHeld : List Step → Type 0
  AllHeld = EachStep IsStepHeld

  abbrev OwnHeld : Option OpenScope → Type 0
  OwnHeld None = Unit {0}
  OwnHeld (Some s) = P s

  opening_held : (p : Place) (r : Role) (own : Option OpenScope) (n : ℕ) → IsPlaceHeld p → AllHanded (opening_at p r own n) → AllHeld (opening_at p r own n)
  opening_held p r own n h = opening_case (λ ss. AllHanded ss → AllHeld ss) p r own n (λ k. tt) (λ k. ((h, k.0 h.0 h.1), tt))

  own_held : (p : Place) (r : Role) (own : Option OpenScope) (n : ℕ) → IsPlaceHeld p → OwnHeld own → AllHanded (opening_at p r own n) → OwnHeld (scope_at p r own n)
  own_held p r (Some s) n h o k = o
  own_held p r None n h o k = go (is_inside p.node.kind r) k
    where
      go : (b : Bool) → AllHanded (cond b (opening p (opened_scope p n) ∷ []) []) → OwnHeld (cond b (Some (opened_scope p n)) None)
      go true k = k.0 h.0 h.1
      go false k = tt

  last_held : (p : Place) (own : Option OpenScope) (n : ℕ) → IsPlaceHeld p → AllHanded (opening_last p own n) → AllHeld (opening_last p own n)
  last_held p own n h = last_case (λ ss. AllHanded ss → AllHeld ss) p own n (λ k. tt) (λ k. ((h, k.0 h.0 h.1), (tt, tt)))

  ending_held : (p : Place) (r : Role) (own : Option OpenScope) (after : Forest) → AllHeld (ending_after p r own after)
  ending_held p r own after = ending_case AllHeld p r own after tt (λ s. (tt, tt)) (λ s. (tt, tt)) (λ s. (tt, (tt, tt)))

  outside_held : (chain : List OpenScope) → AllByRecursion P chain → AllByRecursion P (outside chain)
  outside_held [] h = tt
  outside_held (s ∷ ss) h = h.1

  -- whether a place stands in its header is no matter
  abbrev pub PassesHeaders : Type 0
  PassesHeaders = (s : OpenScope) (b : Bool) → P s → P (record s { in_header = b })

  child_held : PassesHeaders → (p : Place) (own : Option OpenScope) (cursor : ℕ) (r : Role) (node : Node) → IsPlaceHeld p → OwnHeld own → IsPlaceHeld (child_place p own cursor r node)
  child_held pass p own cursor r node h o = (h.0, go (is_parameter_decorator p.node.kind r))
    where
      within : (c : Option OpenScope) → OwnHeld c → AllByRecursion P (child_scopes p r c)
      within None k = h.1
      within (Some s) k = by (is_inside p.node.kind r)
        where
          by : (b : Bool) → AllByRecursion P (cond b (record s { in_header = is_in_header p.node.kind r } ∷ p.chain) p.chain)
          by true = (pass s (is_in_header p.node.kind r) k, h.1)
          by false = h.1

      go : (b : Bool) → AllByRecursion P (cond b (outside p.chain) (child_scopes p r own))
      go true = outside_held p.chain h.1
      go false = within own o

  -- so it is in what is left of a place
  held_below : PassesHeaders → (p : Place) (own : Option OpenScope) (n cursor : ℕ) (f : Forest) → IsPlaceHeld p → OwnHeld own → AllHanded (steps_below p own n cursor f) → AllHeld (steps_below p own n cursor f)
  held_below pass p own n cursor nothing h o k = last_held p own n h k
  held_below pass p own n cursor (tree r kd span text marks below id after) h o k =
      let node : Node = record { kind = kd; span = span; text = text; marks = marks; children = below; node_id = id } in
      let turn : Turn = turn_at p own n cursor r node after in
      let handed : EachOfTurn IsStepHanded turn = turn_of_each IsStepHanded turn k in
      let own_is : OwnHeld turn.scope = own_held p r own n h o handed.before in
      let child_is : IsPlaceHeld turn.child = child_held pass p turn.scope cursor r node h own_is in
      each_of_turn IsStepHeld turn (record {
        before = opening_held p r own n h handed.before;
        whole = each_of_node IsStepHeld turn.child turn.below child_is (held_below pass turn.child None turn.next turn.inner below child_is tt (each_left IsStepHanded turn.below (leaving turn.child ∷ []) handed.whole.1)) tt;
        behind = ending_held p r turn.scope after;
        others = held_below pass p turn.scope turn.rest turn.past after h own_is handed.others;
      })

pub program_held : (P : OpenScope → Type 0) (program : Tree) → PassesHeaders P program.source_type → AllHanded P program.source_type (steps program) → AllHeld P program.source_type (steps program)
program_held P program pass h =
    let below : List Step = steps_below (root_place program) None 0 (on_entering program.root.kind 0) program.root.children in
    each_of_node (IsStepHeld P program.source_type) (root_place program) below (refl, tt)
    (held_below P program.source_type pass (root_place program) None 0 (on_entering program.root.kind 0) program.root.children (refl, tt) tt (each_left (IsStepHanded P program.source_type) below (leaving (root_place program) ∷ []) h.1)) tt
