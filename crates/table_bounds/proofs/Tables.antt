-- The tables of a program are tellable, and so are its unused labels and conflicts.
use Rattle.std.proofs.Common.{◌≡◌, ℕ, zero, suc, ◌+◌, ◌<◌, ◌≤◌, ◌^◌, ◌==◌, ◌&&◌, not, List, [], ◌∷◌, ◌++◌, Bool, true, false, cond, Option, Some, None, length, map, flat_map, get_or, inl, inr, refl, sym, ap, subst, ◌∙◌, lit<, eq-eqb, arith, IfSome}
use Rattle.std.specs.List.{AllByRecursion, filter_map, cons_option, range_with_len}
use Rattle.std.proofs.lemmas.List.{length-map}
use Rattle.std.proofs.lemmas.List.FromFn.{length-range_with_len}
use Rattle.std.proofs.lemmas.Option.{slice_get_within}
use Rattle.semantic_kinds.specs.declared.kind.AstType.TheVariants as kind
use Rattle.semantic_kinds.specs.declared.role.Role.TheVariants as role
use Rattle.semantic_syntax.proofs.Every.{every-append}
use Rattle.semantic_syntax.specs.declared.scope_flags.TheConstants.ScopeFlags as scope
use Rattle.semantic_syntax.specs.Lookup.{Lookup, tied, barred, unanswered, lookup}
use Rattle.semantic_syntax.specs.Reading.{bindings_of}
use Rattle.semantic_syntax.specs.Tables.{Name, FreeLists}
use Rattle.semantic_tree.specs.Children.{node_count, single}
use Rattle.semantic_tree.specs.Faults.{first_fault}
use Rattle.semantic_tree.specs.Forest.{Forest, nothing, tree}
use Rattle.semantic_tree.specs.Tree.{Tree, IsNumbered}
use Rattle.semantic_tree.specs.Views.{is}
use Rattle.semantic_tree.specs.declared.node.Node.{Node}
use Rattle.semantic_tree.proofs.ShapedLaws.{no_fault-IsShaped}
use Rattle.semantic_model.specs.Declaration.{Declaration}
use Rattle.semantic_model.specs.EachStep.{EachStep}
use Rattle.semantic_model.specs.Entries.{Among, times, times_in_all}
use Rattle.semantic_model.specs.Event.{Event, events, events_of, written_declarations}
use Rattle.semantic_model.specs.Fits.{StandOnce, stand_of, stand_in_tree}
use Rattle.semantic_model.specs.Fold.{State, start}
use Rattle.semantic_model.specs.Hoist.{run}
use Rattle.semantic_model.specs.Label.{label_of, is_labelled, is_used, unused_in, unused_labels}
use Rattle.semantic_model.specs.Moment.{BindingsAreSymbols}
use Rattle.semantic_model.specs.Place.{Place, OpenScope}
use Rattle.semantic_model.specs.Reference.{Occurrence, reference_at, entered_reference, references}
use Rattle.semantic_model.specs.Step.{Step, entering, opening, header_ending, closing, leaving, steps}
use Rattle.semantic_model.specs.TablesOf.{evals, any_holds, opened_entry, scopes, entry_of, any_pure, tables_of}
use Rattle.semantic_model.specs.Tie.{Tie, answers, ties, tied_symbol, final_flags}
use Rattle.semantic_model.proofs.bindings.Owned.{bindings_owned}
use Rattle.semantic_model.proofs.fits.TablesFit.{tables_fit}
use Rattle.semantic_model.proofs.form.Shape.{has_form}
use Rattle.semantic_model.proofs.lists.Members.{among_left, among_right}
use Rattle.semantic_model.proofs.once.StandOnce.{ties_below}
use Rattle.semantic_model.proofs.once.UseLists.{IsBelow}
use Rattle.walk_model.specs.Counted.{declares_symbol, is_reference}
use Rattle.walk_model.proofs.sizes.ProgramRoom.{passes_few}
use Rattle.walk_model.proofs.sizes.References.{references_counted}
use Rattle.walk_model.proofs.sizes.Scopes.{scopes_counted}
use Rattle.walk_model.proofs.sizes.Symbols.{symbols_counted}
use Rattle.program_laws.proofs.TreeNodes.{nodes_below, nodes_from}
use Rattle.program_laws.proofs.Walked.{node_at, steps_within}
use Rattle.table_bounds.specs.Tellable.{IsWrittenWhole, AreNumbers, IsTellableScope, IsTellableReference, AreTellable}
use Rattle.table_bounds.proofs.Lists.{all_among, all_filtered, each_among}
use Rattle.table_bounds.proofs.Nodes.{IsBounded, bounded_nodes}
use Rattle.table_bounds.proofs.Cursors.{IsWay, reference_way, settled_way}
use Rattle.table_bounds.proofs.Chains.{AreScopeFlags, IsBoundedChain, IsBoundedStep, bounded_steps, scopes_few, both, either}
use Rattle.table_bounds.proofs.Declared.{innermost_bounded, IsBoundedEvent, events_bounded}
use Rattle.table_bounds.proofs.Symbols.{IsBoundedState, run_bounded, start_bounded}

-- ---- lists

all_places : {A : Type 0} (P : A → Type 0) (none : A) (xs : List A) → ((i : ℕ) → P (get_or xs i none)) → AllByRecursion P xs
all_places P none [] h = tt
all_places P none (x ∷ xs) h = (h 0, all_places P none xs (λ i. h (suc i)))

module _ {A : Type 0} (P : A → Type 0) (f : Step → Option A) where
  all_found : (ss : List Step) → ((s : Step) → Among s ss → IfSome (f s) P) → AllByRecursion P (filter_map f ss)
  all_found [] h = tt
  all_found (s ∷ ss) h = by (f s) (h s (inl refl)) (all_found ss (λ t a. h t (inr a)))
    where
      by : (o : Option A) → IfSome o P → AllByRecursion P (filter_map f ss) → AllByRecursion P (cons_option o (filter_map f ss))
      by None k rest = rest
      by (Some x) k rest = (k, rest)

range_small : (from len : ℕ) → from + len ≤ 2 ^ 64 → AreNumbers (range_with_len from len)
range_small from zero h = tt
range_small from (suc len) h = (omega (arith, h), range_small (from + 1) len (omega (arith, h)))

-- numbers that stand in a list are small where those that stand there at all are
times_small : (xs : List ℕ) → ((n : ℕ) → 0 < times n xs → IsWrittenWhole n) → AreNumbers xs
times_small [] h = tt
times_small (x ∷ xs) h = (h x (own (eq-eqb x x refl)), times_small xs (λ n k. h n (omega (arith, k))))
  where
    own : (x == x) ≡ true → 0 < cond (x == x) 1 0 + times x xs
    own e = rw e (omega arith)

all_times_small : (xss : List (List ℕ)) → ((n : ℕ) → 0 < times_in_all n xss → IsWrittenWhole n) → AllByRecursion AreNumbers xss
all_times_small [] h = tt
all_times_small (xs ∷ xss) h = (times_small xs (λ n k. h n (omega (arith, k))), all_times_small xss (λ n k. h n (omega (arith, k))))

free_small : (free : FreeLists) → AllByRecursion AreNumbers (map (λ f. f.1) free) → AllByRecursion (λ (entry : Name × List ℕ). AreNumbers entry.1) free
free_small [] h = tt
free_small (f ∷ fs) h = (h.0, free_small fs h.1)

-- ---- labels

module _ (all : (x : Node) → IsBounded x → IsWrittenWhole x.node_id) where
  labels_small : (f : Forest) → ((x : Node) → Among x (nodes_below f) → IsBounded x) → AreNumbers (unused_in f)
  labels_small nothing h = tt
  labels_small (tree r k span text marks below id after) h =
      every-append IsWrittenWhole (unused_in below) (cond (is_labelled k && not (is_used (label_of below) below)) (id ∷ []) [] ++ unused_in after)
      (labels_small below (λ x a. h x (inr (among_left x (nodes_below below) (nodes_below after) a))))
      (every-append IsWrittenWhole (cond (is_labelled k && not (is_used (label_of below) below)) (id ∷ []) []) (unused_in after)
      (by (is_labelled k && not (is_used (label_of below) below)))
      (labels_small after (λ x a. h x (inr (among_right x (nodes_below below) (nodes_below after) a)))))
    where
      by : (b : Bool) → AreNumbers (cond b (id ∷ []) [])
      by true = (all (record { kind = k; span = span; text = text; marks = marks; children = below; node_id = id }) (h (record { kind = k; span = span; text = text; marks = marks; children = below; node_id = id }) (inl refl)), tt)
      by false = tt

-- ---- scopes

opened_by : (calls : List (List ℕ)) (p : Place) (s : OpenScope) (chain : List OpenScope) → IsBoundedChain chain → IsWrittenWhole s.opener → AreScopeFlags s.flags
    → IfSome (opened_entry calls (opening (record p { chain = chain }) s)) IsTellableScope
opened_by calls p s [] h opener flags = record {
  parent = tt;
  node = opener;
  flags = both s.flags (cond (any_holds calls s.number) scope.DirectEval.bits 0) flags (either (any_holds calls s.number) scope.DirectEval.bits 0 (lit< tt) (lit< tt));
}
opened_by calls p s (q ∷ qs) h opener flags = record {
  parent = h.0.number;
  node = opener;
  flags = both s.flags (cond (any_holds calls s.number) scope.DirectEval.bits 0) flags (either (any_holds calls s.number) scope.DirectEval.bits 0 (lit< tt) (lit< tt));
}

opened_small : (calls : List (List ℕ)) (s : Step) → IsBoundedStep s → IsBounded (node_at s) → IfSome (opened_entry calls s) IsTellableScope
opened_small calls (entering p) h k = tt
opened_small calls (opening p s) h k = opened_by calls p s p.chain h.0.chain (subst IsWrittenWhole (sym h.2) k.id) h.1.flags
opened_small calls (header_ending p s) h k = tt
opened_small calls (closing p s) h k = tt
opened_small calls (leaving p) h k = tt

-- ---- references

record IsBoundedOccurrence (r : Occurrence) : Type 0 where
  node : IsWrittenWhole r.node
  chain : IsBoundedChain r.chain
  way : IsWay r.way

occurrence_bounded : (s : Step) → IsBoundedStep s → IsBounded (node_at s) → IfSome (entered_reference s) IsBoundedOccurrence
occurrence_bounded (entering p) h k = by (is kind.IdentifierReference p.node)
  where
    by : (b : Bool) → IfSome (cond b (Some (reference_at p)) None) IsBoundedOccurrence
    by true = record { node = k.id; chain = h.chain; way = reference_way p.cursor h.cursor }
    by false = tt
occurrence_bounded (opening p s) h k = tt
occurrence_bounded (header_ending p s) h k = tt
occurrence_bounded (closing p s) h k = tt
occurrence_bounded (leaving p) h k = tt

final_way : (n : ℕ) (r : Occurrence) (l : Lookup) → IsWay r.way → IsWay (final_flags (record { number = n; reference = r; lookup = l }))
final_way n r (tied c s flags) h = settled_way r.way flags h
final_way n r (barred c) h = h
final_way n r unanswered h = h

symbol_small : (n : ℕ) (o : Option ℕ) → n ≤ 2 ^ 64 → IsBelow n o → IfSome o IsWrittenWhole
symbol_small n None few h = tt
symbol_small n (Some s) few h = omega (arith, few, h)

module _ (st : State) (es : List Event) (symbols : ℕ) (few : symbols ≤ 2 ^ 64) where
  references_small : (n : ℕ) (rs : List Occurrence) → AllByRecursion IsBoundedOccurrence rs → ((t : Tie) → Among t (ties st es n rs) → IsBelow symbols (tied_symbol t)) → AllByRecursion IsTellableReference (map entry_of (ties st es n rs))
  references_small n [] h below = tt
  references_small n (r ∷ rs) h below = (
    record {
      node = h.0.node;
      scope = (innermost_bounded r.chain h.0.chain).number;
      flags = final_way n r (lookup r.name r.way (answers st es r)) h.0.way;
      symbol = symbol_small symbols (tied_symbol (record { number = n; reference = r; lookup = lookup r.name r.way (answers st es r) })) few (below (record { number = n; reference = r; lookup = lookup r.name r.way (answers st es r) }) (inl refl));
    },
    references_small (suc n) rs h.1 (λ t a. below t (inr a)),
  )

-- ---- a program

module _ (p : Tree) (faultless : first_fault p ≡ None) (numbered : IsNumbered p.root) where
  nodes : (x : Node) → Among x (nodes_from p.root) → IsBounded x
  nodes = bounded_nodes p faultless numbered

  few_nodes : node_count p.root ≤ 4294967294
  few_nodes = (no_fault-IsShaped p faultless).nodes

  each : EachStep IsBoundedStep (steps p)
  each = bounded_steps p (omega (arith, few_nodes))

  step_bounded : (s : Step) → Among s (steps p) → IsBoundedStep s
  step_bounded s a = each_among IsBoundedStep (steps p) each s a

  node_bounded : (s : Step) → Among s (steps p) → IsBounded (node_at s)
  node_bounded s a = nodes (node_at s) (steps_within p s a (node_at s) (inl refl))

  step_events : (ds : List Declaration) (ss : List Step) → ((s : Step) → Among s ss → Among s (steps p)) → AllByRecursion IsBoundedEvent (flat_map (events_of ds) ss)
  step_events ds [] h = tt
  step_events ds (s ∷ ss) h =
      every-append IsBoundedEvent (events_of ds s) (flat_map (events_of ds) ss)
      (events_bounded ds s (step_bounded s (h s (inl refl))) (λ x a. nodes x (steps_within p s (h s (inl refl)) x a))) (step_events ds ss (λ t a. h t (inr a)))

  pub final_bounded : IsBoundedState (run start (events (steps p)))
  final_bounded = run_bounded start (events (steps p)) (step_events (written_declarations (steps p)) (steps p) (λ s a. a)) start_bounded

  scopes_small : AllByRecursion IsTellableScope (scopes (steps p))
  scopes_small = all_found IsTellableScope (opened_entry (evals (steps p))) (steps p) (λ s a. opened_small (evals (steps p)) s (step_bounded s a) (node_bounded s a))

  occurrences : AllByRecursion IsBoundedOccurrence (references (steps p))
  occurrences = all_found IsBoundedOccurrence entered_reference (steps p) (λ s a. occurrence_bounded s (step_bounded s a) (node_bounded s a))

  few_symbols : length (tables_of p).symbols ≤ 4294967294
  few_symbols = omega (arith, symbols_counted p faultless numbered, passes_few declares_symbol (single role.Root p.root), few_nodes)

  few_references : length (tables_of p).references ≤ 4294967294
  few_references = omega (arith, references_counted p, passes_few is_reference (single role.Root p.root), few_nodes)

  few_scopes : length (tables_of p).scopes ≤ 4294967294
  few_scopes = omega (arith, scopes_counted p, scopes_few (single role.Root p.root), few_nodes)

  once : StandOnce (tables_of p) (references (steps p))
  once = (tables_fit p faultless).references_stand_once

  as_many : length (references (steps p)) ≡ length (tables_of p).references
  as_many = sym (length-map (references (steps p)) stand_in_tree) ∙ ap length (sym once.same) ∙ length-map (tables_of p).references stand_of

  listed_small : (n : ℕ) → 0 < times_in_all n (tables_of p).uses + times_in_all n (map (λ f. f.1) (tables_of p).free) → IsWrittenWhole n
  listed_small n h = omega (arith, once.nothing_else n h, as_many, few_references)

  owned : BindingsAreSymbols (tables_of p)
  owned = bindings_owned p (has_form p faultless)

  bound_small : (c : ℕ) → AllByRecursion (λ (b : Name × ℕ). IsWrittenWhole b.1) (bindings_of (tables_of p) c)
  bound_small c =
      all_among (λ (b : Name × ℕ). IsWrittenWhole b.1) (bindings_of (tables_of p) c)
      (λ b a. let own = owned.owned c b a in
      let within : b.1 < length (tables_of p).symbols = slice_get_within (tables_of p).symbols b.1 own.symbol own.is_there in
      omega (arith, within, few_symbols))

  pub labels_tellable : AreNumbers (unused_labels p.root)
  labels_tellable = labels_small (λ x k. k.id) p.root.children (λ x a. nodes x (inr a))

  pub tables_tellable : AreTellable (tables_of p)
  tables_tellable = record {
    scopes_numbered = omega (arith, few_scopes);
    symbols_numbered = omega (arith, few_symbols);
    references_numbered = omega (arith, few_references);
    with_bindings = length-map (range_with_len 0 (length (tables_of p).scopes)) _ ∙ length-range_with_len 0 (length (tables_of p).scopes);
    with_uses = length-map (range_with_len 0 (length (tables_of p).symbols)) _ ∙ length-range_with_len 0 (length (tables_of p).symbols);
    scopes = scopes_small;
    bindings = all_places (AllByRecursion (λ (b : Name × ℕ). IsWrittenWhole b.1)) [] (tables_of p).bindings bound_small;
    symbols = final_bounded.symbols;
    references =
        references_small (run start (events (steps p))) (events (steps p)) (length (tables_of p).symbols) (omega (arith, few_symbols)) 0 (references (steps p)) occurrences
        (λ t a. ties_below (events (steps p)) 0 (references (steps p)) t a);
    uses = all_times_small (tables_of p).uses (λ n h. listed_small n (omega (arith, h)));
    free = free_small (tables_of p).free (all_times_small (map (λ f. f.1) (tables_of p).free) (λ n h. listed_small n (omega (arith, h))));
    pure_symbols = all_filtered IsWrittenWhole (any_pure (run start (events (steps p))).made) (range_with_len 0 (length (tables_of p).symbols)) (range_small 0 (length (tables_of p).symbols) (omega (arith, few_symbols)));
  }
