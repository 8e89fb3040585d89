-- What a recursion over a program's tree asks, one child at a time.
use Rattle.std.proofs.Common.{◌≡◌, ℕ, zero, suc, ◌+◌, List, [], ◌∷◌, ◌++◌, Option, Some, None, Bool, true, false, cond, refl, sym, ap, ◌∙◌, take, drop, arith}
use Rattle.std.specs.List.{AllByRecursion, sum_by}
use Rattle.std.proofs.lemmas.List.Sums.{sum_by-cons}
use Rattle.semantic_kinds.specs.declared.kind.AstType.TheVariants as kind
use Rattle.semantic_kinds.specs.declared.role.Role.{Role}
use Rattle.semantic_tree.specs.Children.{forest_of}
use Rattle.semantic_tree.specs.Faults.{first_fault}
use Rattle.semantic_tree.specs.Forest.{Forest, nothing, tree}
use Rattle.semantic_tree.specs.Tree.{Tree}
use Rattle.semantic_tree.specs.declared.node.Node.{Node}
use Rattle.semantic_syntax.specs.Source.{Source}
use Rattle.semantic_syntax.specs.Told.{source_of}
use Rattle.semantic_model.specs.Cursor.{on_entering}
use Rattle.semantic_model.specs.Declaration.{Declaration}
use Rattle.semantic_model.specs.Event.{written_declarations}
use Rattle.semantic_syntax.specs.Outcome.{Pending, is_below, header_probes}
use Rattle.semantic_model.specs.Place.{Place, OpenScope}
use Rattle.semantic_model.specs.Step.{Step, entering, opening, header_ending, closing, leaving, steps_below, steps_of, opening_at, ending_after, opening_last, cursor_past, root_place, steps}
use Rattle.semantic_model.proofs.steps.TurnCases.{opening_case, last_case}
use Rattle.walk_model.specs.WalkState.{WalkState, nothing_made}
use Rattle.walk_model.specs.Waits.{HoldsAt}
use Rattle.walk_model.specs.Walks.{after, after_all}
use Rattle.walk_model.proofs.turns.RootSteps.{root_enters, root_scope, root_made, root_steps}
use Rattle.walk_model.proofs.turns.Seats.{root_is_program}
use Rattle.walk_model.proofs.turns.HeaderStarts.{first_outside}
use Rattle.walk_model.proofs.turns.TurnParts.{ends_header_at, closes_at}
use Rattle.walk_model.proofs.turns.ChildTurns.{after-append}
use Rattle.walk_model.proofs.turns.WalkTurns as turns
use Rattle.walk_model.specs.Probes.{probes, probes_of_steps, probes_in_end, probes_at_header}
use Rattle.walk_model.proofs.asking.StepSums.{probes-append}
use Rattle.walk_model.proofs.asking.StepCosts.{probes_once}

-- a scope that opens asks nothing
pub opening_asks : (ds : List Declaration) (w : WalkState) (p : Place) (r : Role) (own : Option OpenScope) (n : ℕ) → probes_of_steps ds w (opening_at p r own n) ≡ 0
opening_asks ds w p r own n = opening_case (λ ss. probes_of_steps ds w ss ≡ 0) p r own n refl refl

pub last_asks_none : (ds : List Declaration) (w : WalkState) (p : Place) (own : Option OpenScope) (n : ℕ) → probes_of_steps ds w (opening_last p own n) ≡ 0
last_asks_none ds w p own n = last_case (λ ss. probes_of_steps ds w ss ≡ 0) p own n refl refl

-- references that wait outside of a header ask nothing at its end
asks_nothing : (source : Source) (c start : ℕ) (es : List Pending) → AllByRecursion (λ e. is_below source c e ≡ false) (take start es) → sum_by (header_probes source c) es ≡ sum_by (header_probes source c) (drop start es)
asks_nothing source c zero es h = refl
asks_nothing source c (suc start) [] h = refl
asks_nothing source c (suc start) (e ∷ es) h =
    let none : header_probes source c e ≡ 0 = rw h.0 refl in
    omega (arith, sum_by-cons (header_probes source c) e es, none, asks_nothing source c start es h.1)

-- behind a child those that wait since the scope opened ask, where the header ends
pub ending_asks : (ds : List Declaration) (w : WalkState) (p : Place) (r : Role) (s : OpenScope) (start : ℕ) (rest : Forest) → HoldsAt w (Some s) start
    → probes_of_steps ds w (ending_after p r (Some s) rest) ≡ cond (ends_header_at p r rest) (sum_by (header_probes (source_of w.tables) s.number) (drop start w.waiting)) 0
ending_asks ds w p r s start rest h = by (ends_header_at p r rest) (closes_at p r rest)
  where
    since : probes_at_header w s.number ≡ sum_by (header_probes (source_of w.tables) s.number) (drop start w.waiting)
    since = asks_nothing (source_of w.tables) s.number start w.waiting (first_outside w s.number start h.sound h.header)

    by : (a b : Bool) → probes_of_steps ds w (cond a (header_ending p s ∷ []) [] ++ cond b (closing p s ∷ []) []) ≡ cond a (sum_by (header_probes (source_of w.tables) s.number) (drop start w.waiting)) 0
    by true true = omega (arith, since)
    by true false = omega (arith, since)
    by false true = refl
    by false false = refl

-- to enter a node and to leave it asks nothing
pub node_asks : (ds : List Declaration) (w : WalkState) (p : Place) (n : ℕ)
    → probes_of_steps ds w (steps_of p n) ≡ probes_of_steps ds (after ds w (entering p)) (steps_below p None n (on_entering p.node.kind p.cursor) p.node.children)
node_asks ds w p n = omega (arith, probes-append ds (after ds w (entering p)) (steps_below p None n (on_entering p.node.kind p.cursor) p.node.children) (leaving p ∷ []))

module _ (ds : List Declaration) (w : WalkState) (p : Place) (own : Option OpenScope) (n cursor start : ℕ) (child : Role × Node) (rest : List (Role × Node)) where
  abbrev here : List Step
  here = opening_at p child.0 own n

  abbrev scope_here : Option OpenScope
  scope_here = turns.scope_here ds w p own n cursor start child rest

  abbrev next_here : ℕ
  next_here = turns.next_here ds w p own n cursor start child rest

  abbrev place_here : Place
  place_here = turns.place_here ds w p own n cursor start child rest

  abbrev opened_here : WalkState
  opened_here = turns.opened_here ds w p own n cursor start child rest

  abbrev past_here : WalkState
  past_here = turns.past_here ds w p own n cursor start child rest

  abbrev ended_here : WalkState
  ended_here = turns.ended_here ds w p own n cursor start child rest

  abbrev next_past : ℕ
  next_past = turns.next_past ds w p own n cursor start child rest

  -- what the children that are left ask: the first of them, then the header that may end behind it, and then the rest
  pub turn_asks : probes_of_steps ds w (steps_below p own n cursor (forest_of (child ∷ rest)))
      ≡ probes_of_steps ds (after ds opened_here (entering place_here)) (steps_below place_here None next_here (on_entering child.1.kind place_here.cursor) child.1.children)
      + probes_of_steps ds past_here (ending_after p child.0 scope_here (forest_of rest))
      + probes_of_steps ds ended_here (steps_below p scope_here next_past (cursor_past p child.0 cursor place_here) (forest_of rest))
  turn_asks =
      let mine : List Step = steps_of place_here next_here in
      let ends : List Step = ending_after p child.0 scope_here (forest_of rest) in
      let more : List Step = steps_below p scope_here next_past (cursor_past p child.0 cursor place_here) (forest_of rest) in
      omega (
        arith,
        probes-append ds w (here ++ mine ++ ends) more,
        ap (λ v. probes_of_steps ds v more) (sym made),
        probes-append ds w (here ++ mine) ends,
        ap (λ v. probes_of_steps ds v ends) (sym past),
        probes-append ds w here mine,
        opening_asks ds w p child.0 own n,
        node_asks ds opened_here place_here next_here,
      )
    where
      past : past_here ≡ after_all ds w (here ++ steps_of place_here next_here)
      past = sym (after-append ds w here (steps_of place_here next_here))

      made : ended_here ≡ after_all ds w (here ++ steps_of place_here next_here ++ ending_after p child.0 scope_here (forest_of rest))
      made = ap (λ v. after_all ds v (ending_after p child.0 scope_here (forest_of rest))) past ∙ sym (after-append ds w (here ++ steps_of place_here next_here) (ending_after p child.0 scope_here (forest_of rest)))

-- all below the root asks as if the root's scope had been open before
root_below_asks : (ds : List Declaration) (p : Place) (cursor : ℕ) (f : Forest) → p.node.kind ≡ kind.Program
    → probes_of_steps ds nothing_made (steps_below p None 0 cursor f) ≡ probes_of_steps ds (root_made ds p) (steps_below p (Some (root_scope p)) 1 cursor f)
root_below_asks ds p cursor nothing e = rw e refl
root_below_asks ds p cursor (tree r k span text marks below id later) e = ap (probes_of_steps ds nothing_made) opens_first ∙ omega arith
  where
    opens_first : steps_below p None 0 cursor (tree r k span text marks below id later) ≡ opening p (root_scope p) ∷ steps_below p (Some (root_scope p)) 1 cursor (tree r k span text marks below id later)
    opens_first = rw e refl

-- so a walk that begins with the root's scope open, and settles in the end, asks what the look-ups of the program ask
pub root_asks : (program : Tree) → first_fault program ≡ None
    → probes_of_steps (written_declarations (steps program)) (root_made (written_declarations (steps program)) (root_place program)) (steps_below (root_place program) (Some (root_scope (root_place program))) 1 (on_entering program.root.kind 0) program.root.children)
    + probes_in_end (after_all (written_declarations (steps program)) (root_made (written_declarations (steps program)) (root_place program)) (steps_below (root_place program) (Some (root_scope (root_place program))) 1 (on_entering program.root.kind 0) program.root.children))
    ≡ probes program
root_asks program fits =
    let ds : List Declaration = written_declarations (steps program) in
    let p : Place = root_place program in
    let e : program.root.kind ≡ kind.Program = root_is_program program fits in
    let below : List Step = steps_below p None 0 (on_entering program.root.kind 0) program.root.children in
    omega (
      arith,
      probes_once program fits,
      node_asks ds nothing_made p 0,
      ap (λ v. probes_of_steps ds v below) (root_enters ds nothing_made p e),
      root_below_asks ds p (on_entering program.root.kind 0) program.root.children e,
      ap probes_in_end (root_steps ds program e),
    )
