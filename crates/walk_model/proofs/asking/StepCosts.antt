-- Step by step, what the walk asks and what is left to ask for the references that wait are what the look-ups ask.
use Rattle.std.proofs.Common.{◌≡◌, ℕ, ◌+◌, List, [], ◌∷◌, ◌++◌, Some, None, Bool, true, false, cond, inl, inr, refl, sym, ap, subst, ◌∙◌, flat_map, length, arith}
use Rattle.std.specs.Prelude.{slice_get}
use Rattle.std.specs.List.{AllByRecursion, sum_by, cons_option}
use Rattle.std.proofs.lemmas.Bool.Decides.{eqb_tells}
use Rattle.std.proofs.lemmas.List.{append_assoc, append-nil}
use Rattle.std.proofs.lemmas.List.Sums.{sum_by-cons, sum_by_push}
use Rattle.semantic_kinds.specs.declared.kind.AstType.TheVariants as kind
use Rattle.semantic_syntax.specs.Tables.{Scope}
use Rattle.semantic_syntax.specs.Told.{source_of}
use Rattle.semantic_syntax.specs.Reading.{way_of}
use Rattle.semantic_tree.specs.Tree.{Tree}
use Rattle.semantic_tree.specs.Faults.{first_fault}
use Rattle.semantic_tree.specs.Views.{is}
use Rattle.semantic_model.specs.Place.{Place, OpenScope, innermost, scope_of_place}
use Rattle.semantic_model.specs.Reference.{Occurrence, reference_at, references}
use Rattle.semantic_model.specs.Declaration.{Declaration}
use Rattle.semantic_model.specs.Step.{Step, entering, opening, header_ending, closing, leaving, steps}
use Rattle.semantic_model.specs.Event.{Event, ends_header, events_of, events, written_declarations}
use Rattle.semantic_model.specs.Fold.{State, start}
use Rattle.semantic_model.specs.Hoist.{run}
use Rattle.semantic_syntax.specs.Lookup.{probes_in}
use Rattle.semantic_model.specs.Tie.{Tie, ties, answers, until_end_of}
use Rattle.semantic_syntax.specs.Outcome.{Pending, header_outcome, header_probes, last_probes}
use Rattle.semantic_model.specs.TablesOf.{is_direct_eval}
use Rattle.semantic_model.proofs.steps.Compose.{run-append}
use Rattle.walk_model.specs.WalkState.{WalkState, nothing_made}
use Rattle.walk_model.specs.Opens.{note_reference, refer}
use Rattle.walk_model.specs.Walks as walk
use Rattle.walk_model.proofs.places.Nested.{AreNested, open_past, seen_past}
use Rattle.walk_model.proofs.places.Grounds.{AllGrounded, all_grounded}
use Rattle.walk_model.proofs.declares.Simulated.{program_nested}
use Rattle.walk_model.proofs.headers.TouchedScopes.{AllTouch}
use Rattle.walk_model.proofs.opens.LeftByDeclaring.{acts_untouched}
use Rattle.walk_model.proofs.opens.OpenedScopes.{bare_past, calls_past, entering_declares, opening_declares}
use Rattle.walk_model.proofs.headers.Headed.{awaiting_past, awaiting_after, flags_past, AreHeaded, first_most}
use Rattle.walk_model.proofs.headers.HeadedProgram.{program_headed, program_awaits}
use Rattle.walk_model.proofs.headers.Frozen.{Frozen, frozen, between, between_low, between_high, later_touch}
use Rattle.walk_model.proofs.refers.HeaderEnds.{At, Waits}
use Rattle.walk_model.proofs.refers.TrackedReferences.{numbered, with_ways, tracks_length, ties_length, IsDone, until_is}
use Rattle.walk_model.proofs.refers.Referred.{Inv, referred_past, referred_next, same_eval, same_closing}
use Rattle.walk_model.proofs.refers.ReferredSteps.{inv_step}
use Rattle.walk_model.proofs.refers.GivesTables.{same_count, inv_nothing}
use Rattle.walk_model.specs.Probes.{probes, probes_of_step, probes_of_steps, probes_in_end}
use Rattle.walk_model.proofs.asking.LeftToAsk.{scopes_from, cost, cost_of, left_for, left_of, all_pay, all_pay_last, HasTie, among_ties, each, reference_at_tie, more_at, next_at}
use Rattle.walk_model.proofs.asking.EndCosts.{pays_at_end, pays_last}

-- from its innermost scope a chain is whole
from_innermost : (ss : List OpenScope) → scopes_from (innermost ss).number ss ≡ ss
from_innermost [] = refl
from_innermost (s ∷ ss) = elim (eqb_tells s.number s.number) [ inl q ↦ rw q.0 refl | inr q ↦ absurd (q.1 refl) ]

module _ (ds : List Declaration) (final : State) (es : List Event) (final_is : final ≡ run start es) (whole : List Occurrence) where
  -- how many scopes are left to ask
  abbrev left : WalkState → ℕ
  left w = sum_by (left_for final es whole) w.waiting

  abbrev costs : List Occurrence → ℕ
  costs rs = sum_by (cost_of final es) rs

  -- what a reference that a step enters asks
  abbrev new_cost : Step → ℕ
  new_cost (entering p) = cond (is kind.IdentifierReference p.node) (cost_of final es (reference_at p)) 0
  new_cost (opening p s) = 0
  new_cost (header_ending p s) = 0
  new_cost (closing p s) = 0
  new_cost (leaving p) = 0

  costs_next : (step : Step) (ss : List Step) → costs (references (step ∷ ss)) ≡ new_cost step + costs (references ss)
  costs_next (entering p) ss = by (is kind.IdentifierReference p.node)
    where
      by : (b : Bool) → costs (cons_option (cond b (Some (reference_at p)) None) (references ss)) ≡ cond b (cost_of final es (reference_at p)) 0 + costs (references ss)
      by true = sum_by-cons (cost_of final es) (reference_at p) (references ss)
      by false = omega arith
  costs_next (opening p s) ss = omega arith
  costs_next (header_ending p s) ss = omega arith
  costs_next (closing p s) ss = omega arith
  costs_next (leaving p) ss = omega arith

  module _ (stack : List ℕ) (seen calls : List (List ℕ)) (bare : List Scope) (awaiting fs : List ℕ) (rs : List Occurrence) (done : List Event) (w : WalkState) (st : State)
      (i : Inv (ties final es 0 whole) final es stack seen calls bare awaiting fs rs done w st) where
    -- all of a new reference's scopes are left
    left_new : (p : Place) (ss : List Step) → whole ≡ rs ++ references (entering p ∷ ss) → is kind.IdentifierReference p.node ≡ true
        → left_for final es whole (record { name = p.node.text; reference = length w.tables.references; lookup_scope = scope_of_place p }) ≡ cost_of final es (reference_at p)
    left_new p ss e t =
        let count : length rs ≡ length w.tables.references =
        sym (tracks_length (IsDone awaiting (length seen)) (Waits awaiting seen fs final es) (ties final es 0 rs) w.tables.references w.waiting i.tracks ∙ ties_length final es 0 rs) in
        let listed : references (entering p ∷ ss) ≡ reference_at p ∷ references ss = ap (λ b. cons_option (cond b (Some (reference_at p)) None) (references ss)) t in
        let there : slice_get whole (length w.tables.references) ≡ Some (reference_at p) =
        ap (λ l. slice_get l (length w.tables.references)) (e ∙ ap (λ l. rs ++ l) listed) ∙ next_at rs (reference_at p) (references ss) (length w.tables.references) count in
        ap (λ o. left_of final es o (scope_of_place p)) there ∙ ap (cost final es (reference_at p)) (from_innermost p.chain)

    pays_entering : (p : Place) (ss : List Step) → whole ≡ rs ++ references (entering p ∷ ss) → 0 + left (walk.after ds w (entering p)) ≡ left w + new_cost (entering p)
    pays_entering p ss e =
        let v : WalkState = walk.prepare w (entering p) in
        let waited : (walk.after ds w (entering p)).waiting ≡ (note_reference w p).waiting =
        (acts_untouched v (events_of ds (entering p)) (entering_declares ds p)).waiting ∙ (same_eval (is_direct_eval p.node) (note_reference w p) (scope_of_place p)).waiting in
        omega (arith, ap (sum_by (left_for final es whole)) waited, by (is kind.IdentifierReference p.node) refl)
      where
        by : (b : Bool) → is kind.IdentifierReference p.node ≡ b → left (cond b (refer w p) w) ≡ left w + cond b (cost_of final es (reference_at p)) 0
        by true t = omega (
          arith,
          sum_by_push (left_for final es whole) w.waiting (record { name = p.node.text; reference = length w.tables.references; lookup_scope = scope_of_place p }),
          left_new p ss e t,
        )
        by false t = omega arith

    pays_opening : (p : Place) (s : OpenScope) → 0 + left (walk.after ds w (opening p s)) ≡ left w + 0
    pays_opening p s =
        omega (arith, ap (sum_by (left_for final es whole)) (acts_untouched (walk.prepare w (opening p s)) (events_of ds (opening p s)) (opening_declares ds p s)).waiting)

    pays_closing : (p : Place) (s : OpenScope) → 0 + left (walk.after ds w (closing p s)) ≡ left w + 0
    pays_closing p s = omega (arith, ap (sum_by (left_for final es whole)) (same_closing w s.number).waiting)

    -- each reference that waits, with its tie and its way
    abbrev WithWay : Tie → Pending → Type 0
    WithWay t x = Waits awaiting seen fs final es t x × (way_of w.tables t.number ≡ t.reference.way)

    tied : AllByRecursion (HasTie WithWay (ties final es 0 rs)) w.waiting
    tied = among_ties (IsDone awaiting (length seen)) WithWay (λ t x y. y.0.number) (ties final es 0 rs) w.tables.references w.waiting 0 []
        (with_ways (IsDone awaiting (length seen)) (Waits awaiting seen fs final es) w.tables.references (ties final es 0 rs) w.tables.references w.waiting 0 [] i.tracks (numbered final es 0 rs) refl refl)
        (numbered final es 0 rs) refl

    way_is : (x : Pending) (h : HasTie WithWay (ties final es 0 rs) x) → way_of w.tables x.reference ≡ h.tie.reference.way
    way_is x h = ap (way_of w.tables) h.waits_so.0.number ∙ h.waits_so.1

    stands_there : (x : Pending) (qs : List Occurrence) → whole ≡ rs ++ qs → (h : HasTie WithWay (ties final es 0 rs) x) → slice_get whole x.reference ≡ Some h.tie.reference
    stands_there x qs e h = ap (λ l. slice_get l x.reference) e ∙ more_at rs qs x.reference h.tie.reference (reference_at_tie final es 0 rs x.reference h.tie h.is_there)

    now_at : At w st stack seen calls bare fs
    now_at = record { shows = i.represents.shows; scopes = i.scopes; flags = i.flags; sound = i.sound }

    -- in the end
    pays_rest : whole ≡ rs ++ [] → final ≡ st → awaiting ≡ [] → left w ≡ probes_in_end w
    pays_rest e fin none_awaits =
        all_pay_last (left_for final es whole) (last_probes (source_of w.tables)) w.waiting
        (each (λ x h. pays_last w st final es whole stack seen calls bare fs now_at h.tie x fin (subst (λ l. Waits l seen fs final es h.tie x) none_awaits h.waits_so.0) (way_is x h) (stands_there x [] e h)) w.waiting tied)

  -- the end of a header
  pays_ending : (around aw : List ℕ) (seen calls : List (List ℕ)) (bare : List Scope) (fs : List ℕ) (rs : List Occurrence) (done : List Event) (w : WalkState) (st : State) (p : Place) (s : OpenScope) (ss : List Step)
      → whole ≡ rs ++ references ss → es ≡ done ++ ends_header s.number ∷ flat_map (events_of ds) ss → st ≡ run start done → AreNested (s.number ∷ around) seen ss → AllGrounded ss
      → Inv (ties final es 0 whole) final es (s.number ∷ around) seen calls bare (s.number ∷ aw) fs rs done w st
      → probes_of_step w (header_ending p s) + left (walk.after ds w (header_ending p s)) ≡ left w + 0
  pays_ending around aw seen calls bare fs rs done w st p s ss whole_is es_is st_is nested grounded i =
      let c : ℕ = s.number in
      let n : ℕ = length seen in
      let stack : List ℕ = c ∷ around in
      let evs : List Event = flat_map (events_of ds) ss in
      let final_run : final ≡ run st evs =
      final_is ∙ ap (run start) es_is ∙ run-append done (ends_header c ∷ evs) start ∙ ap (λ x. run x evs) (sym st_is) in
      let touch : AllTouch (between c n) false evs =
      later_touch (between c n) ds stack seen ss nested grounded (λ x h. between_low c n x (first_most c around x i.order.0 h)) (λ x l. between_high c n x l) in
      let still : Frozen c n st final = subst (Frozen c n st) (sym final_run) (frozen c n st evs i.sided.0 i.within i.sound touch) in
      let view_is : run start (until_end_of c es) ≡ st = ap (λ l. run start (until_end_of c l)) es_is ∙ ap (run start) (until_is aw n c done evs i.ends) ∙ sym st_is in
      let paid : left w ≡ probes_of_step w (header_ending p s) + left (walk.after ds w (header_ending p s)) =
      all_pay (left_for final es whole) (header_probes (source_of w.tables) c) (header_outcome (source_of w.tables) c) w.waiting
      (each (λ x h. pays_at_end w st final es whole stack seen calls bare fs (now_at stack seen calls bare (c ∷ aw) fs rs done w st i) c aw still view_is i.old.0 h.tie x h.waits_so.0
      (way_is stack seen calls bare (c ∷ aw) fs rs done w st i x h) (stands_there stack seen calls bare (c ∷ aw) fs rs done w st i x (references ss) whole_is h))
      w.waiting (tied stack seen calls bare (c ∷ aw) fs rs done w st i)) in
      omega (arith, paid)

  step_pays : (stack : List ℕ) (seen calls : List (List ℕ)) (bare : List Scope) (awaiting fs : List ℕ) (rs : List Occurrence) (done : List Event) (w : WalkState) (st : State) (step : Step) (ss : List Step)
      → whole ≡ rs ++ references (step ∷ ss) → es ≡ done ++ (events_of ds step ++ flat_map (events_of ds) ss) → st ≡ run start done → AreNested stack seen (step ∷ ss) → AllGrounded (step ∷ ss) → AreHeaded awaiting fs (step ∷ ss)
      → Inv (ties final es 0 whole) final es stack seen calls bare awaiting fs rs done w st
      → probes_of_step w step + left (walk.after ds w step) ≡ left w + new_cost step
  step_pays stack seen calls bare awaiting fs rs done w st (entering p) ss a b c k g h i = pays_entering stack seen calls bare awaiting fs rs done w st i p ss a
  step_pays stack seen calls bare awaiting fs rs done w st (opening p s) ss a b c k g h i = pays_opening stack seen calls bare awaiting fs rs done w st i p s
  step_pays stack seen calls bare awaiting fs rs done w st (header_ending p s) ss a b c k g h i =
      let nested : AreNested (s.number ∷ k.0.around) seen ss = subst (λ l. AreNested (open_past l (header_ending p s)) seen ss) k.0.is k.1 in
      let j : Inv (ties final es 0 whole) final es (s.number ∷ k.0.around) seen calls bare (s.number ∷ h.0.around) fs rs done w st =
      subst (λ l. Inv (ties final es 0 whole) final es (s.number ∷ k.0.around) seen calls bare l fs rs done w st) h.0.is (subst (λ l. Inv (ties final es 0 whole) final es l seen calls bare awaiting fs rs done w st) k.0.is i) in
      pays_ending k.0.around h.0.around seen calls bare fs rs done w st p s ss a b c nested g.1 j
  step_pays stack seen calls bare awaiting fs rs done w st (closing p s) ss a b c k g h i = pays_closing stack seen calls bare awaiting fs rs done w st i p s
  step_pays stack seen calls bare awaiting fs rs done w st (leaving p) ss a b c k g h i = omega arith

  -- what steps ask, and what is asked in the end, is what is left and what the references that follow ask
  steps_pay : (stack : List ℕ) (seen calls : List (List ℕ)) (bare : List Scope) (awaiting fs : List ℕ) (rs : List Occurrence) (done : List Event) (w : WalkState) (st : State) (ss : List Step)
      → whole ≡ rs ++ references ss → es ≡ done ++ flat_map (events_of ds) ss → st ≡ run start done → length fs ≡ length seen → AreNested stack seen ss → AllGrounded ss → AreHeaded awaiting fs ss → awaiting_after awaiting ss ≡ []
      → Inv (ties final es 0 whole) final es stack seen calls bare awaiting fs rs done w st
      → probes_of_steps ds w ss + probes_in_end (walk.after_all ds w ss) ≡ left w + costs (references ss)
  steps_pay stack seen calls bare awaiting fs rs done w st [] a b c e k g h none_awaits i =
      let fin : final ≡ st = final_is ∙ ap (run start) (b ∙ append-nil done) ∙ sym c in
      omega (arith, pays_rest stack seen calls bare awaiting fs rs done w st i a fin none_awaits)
  steps_pay stack seen calls bare awaiting fs rs done w st (step ∷ ss) a b c e k g h none_awaits i =
      let evs : List Event = events_of ds step in
      let rest : List Event = flat_map (events_of ds) ss in
      let next : Inv (ties final es 0 whole) final es (open_past stack step) (seen_past seen step) (calls_past calls step) (bare_past bare step) (awaiting_past awaiting step) (flags_past fs step) (referred_past rs step) (done ++ evs) (walk.after ds w step) (run st evs) =
      inv_step ds (ties final es 0 whole) final es stack seen calls bare awaiting fs rs done w st step ss (ap (ties final es 0) a) b c final_is e k g h i in
      let later : probes_of_steps ds (walk.after ds w step) ss + probes_in_end (walk.after_all ds w (step ∷ ss)) ≡ left (walk.after ds w step) + costs (references ss) =
      steps_pay (open_past stack step) (seen_past seen step) (calls_past calls step) (bare_past bare step) (awaiting_past awaiting step) (flags_past fs step) (referred_past rs step) (done ++ evs) (walk.after ds w step) (run st evs) ss
      (a ∙ referred_next rs step ss) (b ∙ sym (append_assoc done evs rest)) (ap (λ x. run x evs) c ∙ sym (run-append done evs start)) (same_count fs seen step e) k.1 g.1 h.1 none_awaits next in
      omega (arith, later, step_pays stack seen calls bare awaiting fs rs done w st step ss a b c k g h i, costs_next step ss)

abbrev probes_by : State → List Event → List Occurrence → ℕ
probes_by final es [] = 0
probes_by final es (r ∷ rs) = probes_in r.name r.way (answers final es r) + probes_by final es rs

probes_is : (final : State) (es : List Event) (rs : List Occurrence) → sum_by (cost_of final es) rs ≡ probes_by final es rs
probes_is final es [] = refl
probes_is final es (r ∷ rs) = omega (arith, sum_by-cons (cost_of final es) r rs, probes_is final es rs)

-- a walk asks what the look-ups of its program ask
pub probes_once : (p : Tree) → first_fault p ≡ None → probes_of_steps (written_declarations (steps p)) nothing_made (steps p) + probes_in_end (walk.after_all (written_declarations (steps p)) nothing_made (steps p)) ≡ probes p
probes_once p h =
    let ds : List Declaration = written_declarations (steps p) in
    let es : List Event = events (steps p) in
    let final : State = run start es in
    let rs : List Occurrence = references (steps p) in
    let paid : probes_of_steps ds nothing_made (steps p) + probes_in_end (walk.after_all ds nothing_made (steps p)) ≡ 0 + sum_by (cost_of final es) rs =
    steps_pay ds final es refl rs [] [] [] [] [] [] [] [] nothing_made start (steps p) refl refl refl refl (program_nested p) (all_grounded p h) (program_headed p h) (program_awaits p h) (inv_nothing ds (ties final es 0 rs) final es refl) in
    omega (arith, paid, probes_is final es rs)
