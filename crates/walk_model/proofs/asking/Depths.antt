-- No look-up asks more scopes than there are around its reference.
use Rattle.std.proofs.Common.{◌≡◌, ℕ, suc, ◌+◌, ◌≤◌, List, [], ◌∷◌, Some, None, Bool, true, false, cond, ap, subst, map, length, arith}
use Rattle.std.specs.List.{AllByRecursion, sum_by, cons_option}
use Rattle.std.proofs.lemmas.List.{length-map}
use Rattle.std.proofs.lemmas.List.Sums.{sum_by-cons}
use Rattle.semantic_kinds.specs.declared.kind.AstType.TheVariants as kind
use Rattle.semantic_syntax.specs.Tables.{Scope}
use Rattle.semantic_syntax.specs.Told.{source_of}
use Rattle.semantic_tree.specs.Tree.{Tree}
use Rattle.semantic_tree.specs.Faults.{first_fault}
use Rattle.semantic_tree.specs.Views.{is}
use Rattle.semantic_model.specs.Place.{OpenScope, innermost}
use Rattle.semantic_model.specs.Reference.{Occurrence, reference_at, references}
use Rattle.semantic_model.specs.Declaration.{Declaration}
use Rattle.semantic_model.specs.Step.{Step, entering, opening, header_ending, closing, leaving, steps}
use Rattle.semantic_model.specs.Event.{Event, events, written_declarations}
use Rattle.semantic_model.specs.Fold.{State, start}
use Rattle.semantic_model.specs.Hoist.{run}
use Rattle.semantic_syntax.specs.Lookup.{probes_in}
use Rattle.semantic_syntax.specs.Outcome.{last_outcome}
use Rattle.semantic_model.specs.Outward.{depth}
use Rattle.semantic_model.specs.TablesOf.{entry_of, tables_of, numbers}
use Rattle.semantic_model.specs.Tie.{ties, answer, answers}
use Rattle.walk_model.specs.WalkState.{WalkState, nothing_made}
use Rattle.walk_model.specs.Walks.{after_all, walked}
use Rattle.walk_model.proofs.refers.GivesTables.{gives_tables}
use Rattle.walk_model.proofs.places.Grounds.{all_grounded}
use Rattle.walk_model.proofs.places.Nested.{IsChain, AreNested, AreLinked, Descends, chain_more, open_past, open_after, seen_past, seen_after, seen_extends}
use Rattle.walk_model.proofs.opens.OpenedAll.{nothing_opened}
use Rattle.walk_model.proofs.opens.OpenedScopes.{ShowsScopes, bare_after, calls_after, settled_scopes, scopes_steps}
use Rattle.walk_model.proofs.declares.Simulated.{program_nested}
use Rattle.walk_model.proofs.refers.TrackedReferences.{tie_of}
use Rattle.walk_model.proofs.refers.Sources.{chain_is}
use Rattle.walk_model.specs.Probes.{probes, depths}
use Rattle.walk_model.proofs.asking.LookupCosts.{probes_at_most}

-- the scopes around the reference, once all scopes are opened
pub record IsAround (seen : List (List ℕ)) (r : Occurrence) : Type 0 where
  pub linked : AreLinked seen r.chain
  pub descends : Descends (length seen) r.chain

all_around : (stack : List ℕ) (seen : List (List ℕ)) (ss : List Step) → AreNested stack seen ss → AllByRecursion (IsAround (seen_after seen ss)) (references ss)
all_around stack seen [] h = tt
all_around stack seen (entering p ∷ ss) h = by (is kind.IdentifierReference p.node) (all_around (open_past stack (entering p)) seen ss h.1)
  where
    around : IsChain (open_past stack (entering p)) (seen_after seen ss) p.chain
    around = chain_more (open_past stack (entering p)) seen (seen_after seen ss) p.chain (seen_extends seen ss) (still_open stack h.0)
      where
        still_open : (opened : List ℕ) → IsChain opened seen p.chain → IsChain (open_past opened (entering p)) seen p.chain
        still_open [] k = k
        still_open (c ∷ cs) k = k

    by : (b : Bool) → AllByRecursion (IsAround (seen_after seen ss)) (references ss) → AllByRecursion (IsAround (seen_after seen ss)) (cons_option (cond b (Some (reference_at p)) None) (references ss))
    by true rest = (record { linked = around.are_linked; descends = around.descends }, rest)
    by false rest = rest
all_around stack seen (opening p s ∷ ss) h = all_around (open_past stack (opening p s)) (seen_past seen (opening p s)) ss h.1
all_around stack seen (header_ending p s ∷ ss) h = all_around (open_past stack (header_ending p s)) seen ss h.1
all_around stack seen (closing p s ∷ ss) h = all_around (open_past stack (closing p s)) seen ss h.1
all_around stack seen (leaving p ∷ ss) h = all_around (open_past stack (leaving p)) seen ss h.1

length_numbers : (ss : List OpenScope) → length (numbers ss) ≡ length ss
length_numbers ss = length-map ss (λ s. s.number)

abbrev probes_by : State → List Event → List Occurrence → ℕ
probes_by final es [] = 0
probes_by final es (r ∷ rs) = probes_in r.name r.way (answers final es r) + probes_by final es rs

module _ (stack : List ℕ) (seen calls : List (List ℕ)) (bare : List Scope) (w : WalkState) (shows : ShowsScopes stack seen calls bare w) (final : State) (es : List Event) where
  at_most : (r : Occurrence) → IsAround seen r → probes_in r.name r.way (answers final es r) ≤ depth w.tables (innermost r.chain).number
  at_most r h = by r.chain h.linked h.descends
    where
      by : (ss : List OpenScope) → AreLinked seen ss → Descends (length seen) ss → probes_in r.name r.way (map (answer final es r.name) ss) ≤ depth w.tables (innermost ss).number
      by [] l d = omega arith
      by (s ∷ ss) l d = omega (
        arith,
        probes_at_most r.name r.way (map (answer final es r.name) (s ∷ ss)),
        length-map (s ∷ ss) (answer final es r.name),
        ap length (chain_is stack seen calls bare w s ss shows l d),
        length_numbers (s ∷ ss),
      )

  all_at_most : (n : ℕ) (rs : List Occurrence) → AllByRecursion (IsAround seen) rs → probes_by final es rs ≤ sum_by (λ e. depth w.tables e.scope_id) (map entry_of (ties final es n rs))
  all_at_most n [] h = omega arith
  all_at_most n (r ∷ rs) h = omega (
    arith,
    at_most r h.0,
    all_at_most (suc n) rs h.1,
    sum_by-cons (λ e. depth w.tables e.scope_id) (entry_of (tie_of final es n r)) (map entry_of (ties final es (suc n) rs)),
  )

pub probes_within : (p : Tree) → first_fault p ≡ None → probes p ≤ depths (tables_of p)
probes_within p h =
    let ds : List Declaration = written_declarations (steps p) in
    let es : List Event = events (steps p) in
    let final : State = run start es in
    let before : WalkState = after_all ds nothing_made (steps p) in
    let stack : List ℕ = open_after [] (steps p) in
    let seen : List (List ℕ) = seen_after [] (steps p) in
    let calls : List (List ℕ) = calls_after [] (steps p) in
    let bare : List Scope = bare_after [] (steps p) in
    let shows : ShowsScopes stack seen calls bare (walked p) =
    settled_scopes stack seen calls bare before (last_outcome (source_of before.tables)) (scopes_steps ds nothing_made [] [] [] [] (steps p) (program_nested p) (all_grounded p h) nothing_opened) in
    subst (λ t. probes p ≤ sum_by (λ e. depth t e.scope_id) (tables_of p).references) (gives_tables p h)
    (all_at_most stack seen calls bare (walked p) shows final es 0 (references (steps p)) (all_around [] [] (steps p) (program_nested p)))
