-- What a walk over the children of a place asks, one child at a time.
use Rattle.std.proofs.Common.{◌≡◌, ℕ, ◌+◌, ◌≤◌, List, ◌∷◌, Option, Some, None, cond, ◌&&◌, not, Result, Ok, Err, OnOk, refl, sym, ap, ◌∙◌, arith}
use Rattle.semantic_syntax.specs.Counts.{raised}
use Rattle.semantic_kinds.specs.declared.kind.AstType.{AstType}
use Rattle.semantic_kinds.specs.declared.role.Role.{Role}
use Rattle.semantic_tree.specs.Children.{forest_of}
use Rattle.semantic_tree.specs.Forest.{Forest, nothing}
use Rattle.semantic_tree.specs.declared.node.Node.{Node}
use Rattle.semantic_tree.specs.Views.{has_role}
use Rattle.semantic_model.specs.Place.{Place, OpenScope}
use Rattle.semantic_model.specs.Inside.{header_roles, is_in_header}
use Rattle.semantic_model.specs.Cursor.{cursor_behind}
use Rattle.semantic_model.specs.Declaration.{Declaration}
use Rattle.semantic_model.specs.Step.{steps_below, opening_at, ending_after, scope_at, next_at, cursor_past}
use Rattle.walk_model.specs.WalkState.{WalkState}
use Rattle.walk_model.specs.Walks.{after_all}
use Rattle.walk_model.specs.Waits.{HoldsAt}
use Rattle.walk_model.specs.Probes.{probes_of_steps}
use Rattle.walk_model.proofs.asking.StepSums.{raised_then, raised_none, raised_more}
use Rattle.walk_model.proofs.asking.TurnCosts.{ending_asks, turn_asks, last_asks_none}
use Rattle.table_building.specs.Settled.{probes_from}
use Rattle.semantic_walk.specs.Walker.{Walker}
use Rattle.semantic_walk.specs.AtPlace.{IsTurnAt, probes_over, walked_over}
use Rattle.semantic_walk.specs.declared.visit.Turn.{Turn}
use Rattle.semantic_walk.proofs.Visiting.{Rests, at_child, behind_child, place_of, next_past, made_past, made_behind}

-- behind a child
module _ (ds : List Declaration) (made : WalkState) (turn : Turn) (p : Place) (k : AstType) (same : p.node.kind ≡ k) (r : Role) (rest : Forest) (start : ℕ) where
  pub asked_some : (own : Option OpenScope) → IsTurnAt turn p own start → HoldsAt made own start → (s : ℕ) → turn.own ≡ Some s
      → cond (is_in_header k r && not (has_role (header_roles k) rest)) (probes_from made turn.header_start s) 0 ≡ probes_of_steps ds made (ending_after p r own rest)
  asked_some None h holds s there = let none : Some s ≡ None = sym there ∙ h.own_scope in absurd cc
  asked_some (Some own) h holds s there =
      let of_kind : k ≡ p.node.kind = sym same in
      let number : s ≡ own.number = let both : Some s ≡ Some own.number = sym there ∙ h.own_scope in cc in
      (λ i. cond (is_in_header (of_kind i) r && not (has_role (header_roles (of_kind i)) rest)) (probes_from made (h.header i) (number i)) 0)
      ∙ sym (ending_asks ds made p r own start rest holds)

  -- without a scope no header ends
  pub asked_none : (own : Option OpenScope) → IsTurnAt turn p own start → turn.own ≡ None → probes_of_steps ds made (ending_after p r own rest) ≡ 0
  asked_none None h none = refl
  asked_none (Some own) h none = let there : None ≡ Some own.number = sym none ∙ h.own_scope in absurd cc

module _ (ds : List Declaration) (p : Place) (own : Option OpenScope) (n cursor start : ℕ) (child : Role × Node) (rest : List (Role × Node)) (w v : Walker) where
  abbrev scope_here : Option OpenScope
  scope_here = scope_at p child.0 own n

  abbrev place_here : Place
  place_here = place_of p own n cursor child

  -- what the first child asks, and what all that are left do
  abbrev child_asks : ℕ
  child_asks = probes_over ds v place_here None (next_at p child.0 own n)

  abbrev all_ask : ℕ
  all_ask = probes_of_steps ds w.made (steps_below p own n cursor (forest_of (child ∷ rest)))

  module _ (past : Walker) (e : v ≡ at_child w (after_all ds w.made (opening_at p child.0 own n)) place_here) (k : past ≡ walked_over ds v place_here None (next_at p child.0 own n)) where
    -- what the header asks that may end behind the child
    abbrev ending_asked : ℕ
    ending_asked = probes_of_steps ds past.made (ending_after p child.0 scope_here (forest_of rest))

    abbrev rest_asks : Walker → ℕ
    rest_asks ended = probes_of_steps ds ended.made (steps_below p scope_here (next_past p own n child) (cursor_past p child.0 cursor place_here) (forest_of rest))

    all_is : (ended : Walker) → ended ≡ behind_child past (after_all ds past.made (ending_after p child.0 scope_here (forest_of rest))) p (cursor_behind p.node.kind child.0 w.cursor past.cursor)
        → all_ask ≡ child_asks + (ending_asked + rest_asks ended)
    all_is ended b = omega (
      arith,
      turn_asks ds w.made p own n cursor start child rest,
      ap (λ (u : Walker). probes_over ds u place_here None (next_at p child.0 own n)) e,
      ap (λ (made : WalkState). probes_of_steps ds made (ending_after p child.0 scope_here (forest_of rest))) (made_past ds p own n cursor start child rest w v past e k),
      ap (λ (made : WalkState). probes_of_steps ds made (steps_below p scope_here (next_past p own n child) (cursor_past p child.0 cursor place_here) (forest_of rest))) (made_behind ds p own n cursor start child rest w v past ended e k b),
    )

    -- behind the child the rest is left to ask
    pub left_past : (ended : Walker) (now later last : ℕ) → ended ≡ behind_child past (after_all ds past.made (ending_after p child.0 scope_here (forest_of rest))) p (cursor_behind p.node.kind child.0 w.cursor past.cursor)
        → later ≡ raised now child_asks → last ≡ raised later ending_asked → raised last (rest_asks ended) ≡ raised now all_ask
    left_past ended now later last b c d =
        ap (λ m. raised m (rest_asks ended)) (d ∙ ap (λ m. raised m ending_asked) c)
        ∙ raised_then (raised now child_asks) ending_asked (rest_asks ended)
        ∙ raised_then now child_asks (ending_asked + rest_asks ended)
        ∙ ap (raised now) (sym (all_is ended b))

    -- if the child's header gives up, no more than all is asked
    pub given_up_ending : (now later last : ℕ) → later ≡ raised now child_asks → last ≤ raised later ending_asked → last ≤ raised now all_ask
    given_up_ending now later last c d =
        let ended : Walker = behind_child past (after_all ds past.made (ending_after p child.0 scope_here (forest_of rest))) p (cursor_behind p.node.kind child.0 w.cursor past.cursor) in
        let both : raised later ending_asked ≡ raised now (child_asks + ending_asked) = ap (λ m. raised m ending_asked) c ∙ raised_then now child_asks ending_asked in
        let more : raised now (child_asks + ending_asked) ≤ raised now all_ask = raised_more now (child_asks + ending_asked) all_ask (omega (arith, all_is ended refl)) in
        omega (arith, d, both, more)

  -- and if the child itself does
  pub given_up_child : v ≡ at_child w (after_all ds w.made (opening_at p child.0 own n)) place_here → (now last : ℕ) → last ≤ raised now child_asks → last ≤ raised now all_ask
  given_up_child e now last d =
      let past : Walker = walked_over ds v place_here None (next_at p child.0 own n) in
      let ended : Walker = behind_child past (after_all ds past.made (ending_after p child.0 scope_here (forest_of rest))) p (cursor_behind p.node.kind child.0 w.cursor past.cursor) in
      let more : raised now child_asks ≤ raised now all_ask = raised_more now child_asks all_ask (omega (arith, all_is past e refl ended refl)) in
      omega (arith, d, more)

-- what an error leaves of a walk over the children of a place: no more is asked than all its steps do
module _ (ds : List Declaration) (first : Walker) (p : Place) (own : Option OpenScope) (n before now : ℕ) (w : Walker) (turn : Turn) where
  abbrev total : ℕ
  total = probes_over ds first p own n

  pub rests_so_far : (f : Forest) → Rests ds first p own n before now w turn f → now ≤ raised before total
  rests_so_far f h = omega (arith, h.asks)

  -- behind the last child nothing is left to ask
  pub rests_end : Rests ds first p own n before now w turn nothing → now ≡ raised before total
  rests_end h = sym (raised_none now) ∙ ap (raised now) (sym (last_asks_none ds w.made p h.scope h.next)) ∙ h.asks

  module _ (child : Role × Node) (rest : List (Role × Node)) (h : Rests ds first p own n before now w turn (forest_of (child ∷ rest))) (v : Walker)
      (e : v ≡ at_child w (after_all ds w.made (opening_at p child.0 h.scope h.next)) (place_of p h.scope h.next h.cursor child)) where
    abbrev place_of_child : Place
    place_of_child = place_of p h.scope h.next h.cursor child

    abbrev next_of_child : ℕ
    next_of_child = next_at p child.0 h.scope h.next

    pub rests_child : (last : ℕ) → last ≤ raised now (probes_over ds v place_of_child None next_of_child) → last ≤ raised before total
    rests_child last d = omega (arith, given_up_child ds p h.scope h.next h.cursor h.start child rest w v e now last d, h.asks)

    pub rests_ending : (past : Walker) (later last : ℕ) → past ≡ walked_over ds v place_of_child None next_of_child → later ≡ raised now (probes_over ds v place_of_child None next_of_child)
        → last ≤ raised later (probes_of_steps ds past.made (ending_after p child.0 (scope_at p child.0 h.scope h.next) (forest_of rest))) → last ≤ raised before total
    rests_ending past later last k c d = omega (arith, given_up_ending ds p h.scope h.next h.cursor h.start child rest w v past e k now later last c d, h.asks)

-- what holds in any case holds on a success
pub on_success : {T E P : Type 0} (r : Result T E) → P → OnOk r P
on_success (Ok x) p = p
on_success (Err e) p = tt
