-- The diagnostics of a program are tellable, and so are its nodes.
use Rattle.std.proofs.Common.{◌≡◌, ℕ, ◌+◌, ◌≤◌, Bool, true, false, cond, List, [], ◌∷◌, ◌++◌, Option, None, inl, inr, length, map, encode_utf8_all, refl, arith}
use Rattle.std.specs.List.{AllByRecursion}
use Rattle.semantic_syntax.proofs.Every.{every-more}
use Rattle.semantic_tree.specs.Children.{node_count}
use Rattle.semantic_tree.specs.Faults.{first_fault}
use Rattle.semantic_tree.specs.Forest.{Forest, nothing, tree}
use Rattle.semantic_tree.specs.Tree.{Tree, IsNumbered}
use Rattle.semantic_tree.specs.declared.node.Node.{Node}
use Rattle.semantic_tree.proofs.ShapedLaws.{no_fault-IsShaped}
use Rattle.semantic_model.specs.Cursor.{on_entering}
use Rattle.semantic_model.specs.Declaration.{Declaration}
use Rattle.semantic_model.specs.Entries.{Among}
use Rattle.semantic_model.specs.Event.{events_of, written_declarations}
use Rattle.semantic_model.specs.Fold.{State, Conflict, start}
use Rattle.semantic_model.specs.Hoist.{run}
use Rattle.semantic_model.specs.Inside.{opens, scopes_in}
use Rattle.semantic_model.specs.NodeTable.{nodes as entered_nodes}
use Rattle.semantic_model.specs.Place.{Place, OpenScope}
use Rattle.semantic_model.specs.Step.{Step, entering, opening, header_ending, closing, leaving, scope_at, next_at, opening_at, ending_after, child_place, cursor_past, steps_below, root_place, steps}
use Rattle.semantic_model.proofs.lists.Members.{among_left, among_right}
use Rattle.semantic_model.proofs.steps.EachStep.{EachStep, each-append, each_of_node}
use Rattle.semantic_model.proofs.steps.TurnCases.{opening_case, ending_case, last_case}
use Rattle.check_model.specs.DiagnosticsOf.{conflict_diagnostic, conflicts_since, rows_at, told_along, free_reference_nodes, diagnostics_of}
use Rattle.check_model.specs.SightOf.{sight_of}
use Rattle.program_laws.proofs.TreeNodes.{nodes_below}
use Rattle.program_laws.proofs.Walked.{steps_within}
use Rattle.table_bounds.specs.Tellable.{IsTellableNode, IsTellableDiagnostic}
use Rattle.table_bounds.proofs.Lists.{each_among}
use Rattle.table_bounds.proofs.Nodes.{IsBounded, IsShort, bounded_nodes, short_spans}
use Rattle.table_bounds.proofs.Chains.{IsBoundedPlace, IsBoundedStep, bounded_steps}
use Rattle.table_bounds.proofs.Declared.{innermost_bounded, IsBoundedEvent, events_bounded}
use Rattle.table_bounds.proofs.Symbols.{IsBoundedConflict, IsBoundedState, run_bounded, start_bounded}
use Rattle.report_bounds.proofs.ClassElements.{elements_fine, uses_fine}
use Rattle.report_bounds.proofs.Rows.{AreAll, AreShort, AllFine, Fine, both, all_dropped}
use Rattle.report_bounds.proofs.RowsByKind.{rows_fine}
use Rattle.report_bounds.proofs.Sights.{IsFine}

-- ---- the nodes of steps

-- a node is bounded and its span is short
record IsFineNode (x : Node) : Type 0 where
  bounded : IsBounded x
  short : IsShort x.span

record IsFinePlace (p : Place) : Type 0 where
  node : AreAll IsFineNode p.node
  path : AllByRecursion (AreAll IsFineNode) p.path

shorts : (x : Node) → AreAll IsFineNode x → AreShort x
shorts x h y a = (h y a).short

bounds : (x : Node) → AreAll IsFineNode x → AreAll IsBounded x
bounds x h y a = (h y a).bounded

abbrev IsFineStep : Step → Type 0
IsFineStep (entering p) = IsFinePlace p
IsFineStep (opening p s) = Unit {0}
IsFineStep (header_ending p s) = Unit {0}
IsFineStep (closing p s) = Unit {0}
IsFineStep (leaving p) = IsFinePlace p

steps_fine : (f : Forest) (p : Place) (own : Option OpenScope) (n cursor : ℕ) → IsFinePlace p → ((y : Node) → Among y (nodes_below f) → IsFineNode y) → EachStep IsFineStep (steps_below p own n cursor f)
steps_fine nothing p own n cursor h k = last_case (EachStep IsFineStep) p own n tt (tt, (tt, tt))
steps_fine (tree r kind span text marks below id after) p own n cursor h k =
    let node : Node = record { kind = kind; span = span; text = text; marks = marks; children = below; node_id = id } in
    let scope : Option OpenScope = scope_at p r own n in
    let next : ℕ = next_at p r own n in
    let child : Place = child_place p scope cursor r node in
    let entered : ℕ = on_entering kind child.cursor in
    let past : ℕ = cursor_past p r cursor child in
    let place : IsFinePlace child = record { node = node_fine; path = (h.node, h.path) } in
    let before : EachStep IsFineStep (opening_at p r own n) = opening_case (EachStep IsFineStep) p r own n tt (tt, tt) in
    let inner : EachStep IsFineStep (steps_below child None next entered below) = steps_fine below child None next entered place (λ y a. node_fine y (inr a)) in
    let whole : EachStep IsFineStep (entering child ∷ (steps_below child None next entered below ++ leaving child ∷ [])) = each_of_node IsFineStep child (steps_below child None next entered below) place inner place in
    let behind : EachStep IsFineStep (ending_after p r scope after) = ending_case (EachStep IsFineStep) p r scope after tt (λ s. (tt, tt)) (λ s. (tt, tt)) (λ s. (tt, (tt, tt))) in
    let others : EachStep IsFineStep (steps_below p scope (next + cond (opens kind) 1 0 + scopes_in below) past after) =
    steps_fine after p scope (next + cond (opens kind) 1 0 + scopes_in below) past h (λ y a. k y (inr (among_right y (nodes_below below) (nodes_below after) a))) in
    each-append IsFineStep (opening_at p r own n ++ (entering child ∷ (steps_below child None next entered below ++ leaving child ∷ [])) ++ ending_after p r scope after)
    (steps_below p scope (next + cond (opens kind) 1 0 + scopes_in below) past after)
    (each-append IsFineStep (opening_at p r own n ++ (entering child ∷ (steps_below child None next entered below ++ leaving child ∷ []))) (ending_after p r scope after)
    (each-append IsFineStep (opening_at p r own n) (entering child ∷ (steps_below child None next entered below ++ leaving child ∷ [])) before whole) behind)
    others
  where
    node_fine : AreAll IsFineNode (record { kind = kind; span = span; text = text; marks = marks; children = below; node_id = id })
    node_fine y (inl e) = k y (inl e)
    node_fine y (inr a) = k y (inr (among_left y (nodes_below below) (nodes_below after) a))

-- ---- what is told

conflict_fine : (c : Conflict) → IsBoundedConflict c → Fine (conflict_diagnostic c)
conflict_fine c h = record {
  code = tt;
  labels = (record { start = h.earlier_start; end = h.earlier_end }, (record { start = h.later_start; end = h.later_end }, tt));
}

conflicts_fine : (cs : List Conflict) → AllByRecursion IsBoundedConflict cs → AllFine (map conflict_diagnostic cs)
conflicts_fine [] h = tt
conflicts_fine (c ∷ cs) h = (conflict_fine c h.0, conflicts_fine cs h.1)

sight_fine : (source free : List ℕ) (st : State) (p : Place) → IsBoundedState st → IsFinePlace p → IsFine (sight_of source free st p)
sight_fine source free st p h k = record {
  node = shorts p.node k.node;
  path = every-more (AreAll IsFineNode) AreShort shorts p.path k.path;
  symbols = h.symbols;
  uses = uses_fine p.node (bounds p.node k.node);
  elements = elements_fine p.node (bounds p.node k.node);
}

rows_at_fine : (checks : Bool) (source free : List ℕ) (st : State) (s : Step) → IsBoundedState st → IsFineStep s → AllFine (rows_at checks source free st s)
rows_at_fine false source free st s h k = tt
rows_at_fine true source free st (entering p) h k = tt
rows_at_fine true source free st (opening p s) h k = tt
rows_at_fine true source free st (header_ending p s) h k = tt
rows_at_fine true source free st (closing p s) h k = tt
rows_at_fine true source free st (leaving p) h k = rows_fine (sight_of source free st p) (sight_fine source free st p h k)

along_fine : (checks : Bool) (source free : List ℕ) (ds : List Declaration) (st : State) (ss : List Step) → EachStep IsFineStep ss → ((s : Step) → Among s ss → AllByRecursion IsBoundedEvent (events_of ds s)) → IsBoundedState st → AllFine (told_along checks source free ds st ss)
along_fine checks source free ds st [] h k b = tt
along_fine checks source free ds st (s ∷ ss) h k b =
    let now : State = run st (events_of ds s) in
    let bounded : IsBoundedState now = run_bounded st (events_of ds s) (k s (inl refl)) b in
    both (map conflict_diagnostic (conflicts_since st now) ++ rows_at checks source free now s) (told_along checks source free ds now ss)
    (both (map conflict_diagnostic (conflicts_since st now)) (rows_at checks source free now s)
    (conflicts_fine (conflicts_since st now) (all_dropped IsBoundedConflict (length st.conflicts) now.conflicts bounded.conflicts)) (rows_at_fine checks source free now s bounded h.0))
    (along_fine checks source free ds now ss h.1 (λ t a. k t (inr a)) bounded)

-- ---- nodes

node_fine : (p : Place) (path : List Node) → IsBoundedPlace p → IsBounded p.node → AllByRecursion (AreAll IsFineNode) path → AllByRecursion IsTellableNode (entered_nodes (entering (record p { path = path }) ∷ []))
node_fine p [] h b k = (record { scope = (innermost_bounded p.chain h.chain).number; parent = b.id }, tt)
node_fine p (parent ∷ path) h b k = (record { scope = (innermost_bounded p.chain h.chain).number; parent = (k.0 parent (inl refl)).bounded.id }, tt)

nodes_fine : (ss : List Step) → EachStep IsFineStep ss → ((s : Step) → Among s ss → IsBoundedStep s) → AllByRecursion IsTellableNode (entered_nodes ss)
nodes_fine [] h k = tt
nodes_fine (entering p ∷ ss) h k = ((node_fine p p.path (k (entering p) (inl refl)) (h.0.node p.node (inl refl)).bounded h.0.path).0, nodes_fine ss h.1 (λ s a. k s (inr a)))
nodes_fine (opening p o ∷ ss) h k = nodes_fine ss h.1 (λ s a. k s (inr a))
nodes_fine (header_ending p o ∷ ss) h k = nodes_fine ss h.1 (λ s a. k s (inr a))
nodes_fine (closing p o ∷ ss) h k = nodes_fine ss h.1 (λ s a. k s (inr a))
nodes_fine (leaving p ∷ ss) h k = nodes_fine ss h.1 (λ s a. k s (inr a))

-- ---- a program

module _ (p : Tree) (faultless : first_fault p ≡ None) (numbered : IsNumbered p.root) where
  few : node_count p.root ≤ 4294967294
  few = (no_fault-IsShaped p faultless).nodes

  nodes : AreAll IsFineNode p.root
  nodes x a = record { bounded = bounded_nodes p faultless numbered x a; short = short_spans p faultless x a }

  root_fine : IsFinePlace (root_place p)
  root_fine = record { node = nodes; path = tt }

  each_fine : EachStep IsFineStep (steps p)
  each_fine =
      each_of_node IsFineStep (root_place p) (steps_below (root_place p) None 0 (on_entering p.root.kind 0) p.root.children) root_fine
      (steps_fine p.root.children (root_place p) None 0 (on_entering p.root.kind 0) root_fine (λ y a. nodes y (inr a))) root_fine

  step_bounded : (s : Step) → Among s (steps p) → IsBoundedStep s
  step_bounded s a = each_among IsBoundedStep (steps p) (bounded_steps p (omega (arith, few))) s a

  bounded_events : (ds : List Declaration) (s : Step) → Among s (steps p) → AllByRecursion IsBoundedEvent (events_of ds s)
  bounded_events ds s a =
      events_bounded ds s (step_bounded s a) (λ x b. bounded_nodes p faultless numbered x (steps_within p s a x b))

  pub diagnostics_tellable : (checks : Bool) → AllByRecursion IsTellableDiagnostic (diagnostics_of checks p)
  diagnostics_tellable checks =
      along_fine checks (encode_utf8_all p.source) (free_reference_nodes (steps p)) (written_declarations (steps p)) start (steps p) each_fine (bounded_events (written_declarations (steps p))) start_bounded

  pub nodes_tellable : AllByRecursion IsTellableNode (entered_nodes (steps p))
  nodes_tellable = nodes_fine (steps p) each_fine step_bounded
