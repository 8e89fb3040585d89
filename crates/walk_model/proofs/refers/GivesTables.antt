-- The walk gives the tables of the definitions.
use Rattle.std.proofs.Common.{◌≡◌, ℕ, List, [], ◌∷◌, ◌++◌, None, Bool, refl, sym, ap, subst, ◌∙◌, map, flat_map, length, arith}
use Rattle.std.specs.Prelude.{filter}
use Rattle.std.proofs.lemmas.List.{length-append, append_assoc, append-nil}
use Rattle.semantic_syntax.specs.declared.references.Reference.{Reference}
use Rattle.semantic_syntax.specs.Tables.{Scope}
use Rattle.semantic_syntax.specs.Told.{source_of}
use Rattle.semantic_syntax.specs.Reading.{way_of}
use Rattle.semantic_tree.specs.Tree.{Tree}
use Rattle.semantic_tree.specs.Faults.{first_fault}
use Rattle.semantic_model.specs.Reference.{Occurrence, references}
use Rattle.semantic_model.specs.Declaration.{Declaration}
use Rattle.semantic_model.specs.Step.{Step, entering, opening, header_ending, closing, leaving, steps}
use Rattle.semantic_model.specs.Event.{Event, events_of, events, written_declarations}
use Rattle.semantic_model.specs.Fold.{State, start}
use Rattle.semantic_model.specs.Hoist.{run}
use Rattle.semantic_model.specs.Tie.{Tie, ties, moment, is_last, settled_at, in_order}
use Rattle.semantic_syntax.specs.Outcome.{Pending, last_outcome, staying}
use Rattle.semantic_model.specs.TablesOf.{entry_of, tables_of, numbers}
use Rattle.semantic_model.specs.NodeTable.{numbered_from}
use Rattle.semantic_model.proofs.lists.Growth.{start_is_sound}
use Rattle.semantic_model.proofs.steps.Compose.{run-append}
use Rattle.walk_model.specs.WalkState.{WalkState, nothing_made}
use Rattle.walk_model.specs.Settles.{settle}
use Rattle.walk_model.specs.Noted.{entries_of}
use Rattle.walk_model.specs.Agreement.{HasDeclared, HasOpened, HasReferred}
use Rattle.walk_model.specs.Walks as walk
use Rattle.walk_model.proofs.declares.Simulated.{nothing_as, program_nested}
use Rattle.walk_model.proofs.places.Nested.{AreNested, open_past, open_after, seen_past, seen_after}
use Rattle.walk_model.proofs.places.Grounds.{AllGrounded, all_grounded}
use Rattle.walk_model.proofs.opens.OpenedScopes.{bare_past, bare_after, calls_past, calls_after}
use Rattle.walk_model.proofs.opens.OpenedAll.{nothing_opened, has_opened}
use Rattle.walk_model.proofs.declares.DeclaredAll.{has_declared}
use Rattle.walk_model.proofs.headers.Headed.{awaiting_past, awaiting_after, flags_past, flags_after, AreHeaded}
use Rattle.walk_model.proofs.headers.HeadedProgram.{program_headed, program_awaits}
use Rattle.walk_model.proofs.refers.Settling.{Tracks, none, is_done, is_open, Lists, Settled, settle_tracks}
use Rattle.walk_model.proofs.refers.HeaderEnds.{At, Waits}
use Rattle.walk_model.proofs.refers.EndOutcomes.{right_last}
use Rattle.walk_model.proofs.refers.TrackedReferences.{numbered, with_ways, IsDone}
use Rattle.walk_model.proofs.refers.Referred.{Inv, referred_past, referred_after, referred_next}
use Rattle.walk_model.proofs.refers.ReferredSteps.{inv_step}

pub same_count : (fs : List ℕ) (seen : List (List ℕ)) (step : Step) → length fs ≡ length seen → length (flags_past fs step) ≡ length (seen_past seen step)
same_count fs seen (entering p) e = e
same_count fs seen (opening p s) e = omega (arith, e, length-append fs (s.flags ∷ []), length-append seen (numbers p.chain ∷ []))
same_count fs seen (header_ending p s) e = e
same_count fs seen (closing p s) e = e
same_count fs seen (leaving p) e = e

module _ (ds : List Declaration) (all : List Tie) (final : State) (es : List Event) (final_is : final ≡ run start es) where
  inv_steps : (stack : List ℕ) (seen calls : List (List ℕ)) (bare : List Scope) (awaiting fs : List ℕ) (rs : List Occurrence) (done : List Event) (w : WalkState) (st : State) (ss : List Step)
      → all ≡ ties final es 0 (rs ++ references ss) → es ≡ done ++ flat_map (events_of ds) ss → st ≡ run start done → length fs ≡ length seen → AreNested stack seen ss → AllGrounded ss → AreHeaded awaiting fs ss
      → Inv all final es stack seen calls bare awaiting fs rs done w st
      → Inv all final es (open_after stack ss) (seen_after seen ss) (calls_after calls ss) (bare_after bare ss) (awaiting_after awaiting ss) (flags_after fs ss) (referred_after rs ss) (done ++ flat_map (events_of ds) ss) (walk.after_all ds w ss) (run st (flat_map (events_of ds) ss))
  inv_steps stack seen calls bare awaiting fs rs done w st [] a b c e k g h i = subst (λ l. Inv all final es stack seen calls bare awaiting fs rs l w st) (sym (append-nil done)) i
  inv_steps stack seen calls bare awaiting fs rs done w st (step ∷ ss) a b c e k g h i =
      let evs : List Event = events_of ds step in
      let rest : List Event = flat_map (events_of ds) ss in
      let next : Inv all final es (open_past stack step) (seen_past seen step) (calls_past calls step) (bare_past bare step) (awaiting_past awaiting step) (flags_past fs step) (referred_past rs step) (done ++ evs) (walk.after ds w step) (run st evs) =
      inv_step ds all final es stack seen calls bare awaiting fs rs done w st step ss a b c final_is e k g h i in
      let ended : Inv all final es (open_after stack (step ∷ ss)) (seen_after seen (step ∷ ss)) (calls_after calls (step ∷ ss)) (bare_after bare (step ∷ ss)) (awaiting_after awaiting (step ∷ ss)) (flags_after fs (step ∷ ss)) (referred_after rs (step ∷ ss)) ((done ++ evs) ++ rest) (walk.after_all ds w (step ∷ ss)) (run (run st evs) rest) =
      inv_steps (open_past stack step) (seen_past seen step) (calls_past calls step) (bare_past bare step) (awaiting_past awaiting step) (flags_past fs step) (referred_past rs step) (done ++ evs) (walk.after ds w step) (run st evs) ss
      (a ∙ ap (ties final es 0) (referred_next rs step ss)) (b ∙ sym (append_assoc done evs rest)) (ap (λ x. run x evs) c ∙ sym (run-append done evs start)) (same_count fs seen step e) k.1 g.1 h.1 next in
      subst (λ l. Inv all final es (open_after stack (step ∷ ss)) (seen_after seen (step ∷ ss)) (calls_after calls (step ∷ ss)) (bare_after bare (step ∷ ss)) (awaiting_after awaiting (step ∷ ss)) (flags_after fs (step ∷ ss)) (referred_after rs (step ∷ ss)) l (walk.after_all ds w (step ∷ ss)) (run st (evs ++ rest))) (append_assoc done evs rest)
      (subst (λ x. Inv all final es (open_after stack (step ∷ ss)) (seen_after seen (step ∷ ss)) (calls_after calls (step ∷ ss)) (bare_after bare (step ∷ ss)) (awaiting_after awaiting (step ∷ ss)) (flags_after fs (step ∷ ss)) (referred_after rs (step ∷ ss)) ((done ++ evs) ++ rest) (walk.after_all ds w (step ∷ ss)) x) (sym (run-append evs rest st)) ended)

  pub inv_nothing : Inv all final es [] [] [] [] [] [] [] [] nothing_made start
  inv_nothing = record {
    represents = nothing_as;
    scopes = nothing_opened;
    flags = refl;
    sound = start_is_sound;
    within = record { bindings = λ e a. absurd a; remembered = λ e a. absurd a };
    sided = tt;
    order = tt;
    old = tt;
    less = tt;
    inner = tt;
    ends = tt;
    tracks = none;
    lists = record { uses = refl; beyond = λ s l. refl; free = refl };
    nodes = refl;
  }

pub referred_are : (rs : List Occurrence) (ss : List Step) → referred_after rs ss ≡ rs ++ references ss
referred_are rs [] = sym (append-nil rs)
referred_are rs (step ∷ ss) = referred_are (referred_past rs step) ss ∙ sym (referred_next rs step ss)

-- nothing waits any more
all_settled : (D : Tie → Type 0) (ts : List Tie) (rs : List Reference) (es : List Pending) → Tracks D (λ t e. ⊥) ts rs es → rs ≡ map entry_of ts
all_settled D ts rs es none = refl
all_settled D ts rs es (is_done {t = t} {ts = ts2} {rs = rs2} {es = es2} d h) = ap (λ l. entry_of t ∷ l) (all_settled D ts2 rs2 es2 h)
all_settled D ts rs es (is_open {t = t} {e = x} {ts = ts2} {rs = rs2} {es = es2} w h) = absurd w

pub has_referred : (p : Tree) → first_fault p ≡ None → HasReferred p (walk.walked p)
has_referred p h =
    let ds : List Declaration = written_declarations (steps p) in
    let es : List Event = events (steps p) in
    let final : State = run start es in
    let all : List Tie = ties final es 0 (references (steps p)) in
    let w : WalkState = walk.after_all ds nothing_made (steps p) in
    let stack : List ℕ = open_after [] (steps p) in
    let seen : List (List ℕ) = seen_after [] (steps p) in
    let calls : List (List ℕ) = calls_after [] (steps p) in
    let bare : List Scope = bare_after [] (steps p) in
    let fs : List ℕ = flags_after [] (steps p) in
    let rs : List Occurrence = referred_after [] (steps p) in
    let i1 : Inv all final es stack seen calls bare (awaiting_after [] (steps p)) fs rs es w final =
    inv_steps ds all final es refl [] [] [] [] [] [] [] [] nothing_made start (steps p) refl refl refl refl (program_nested p) (all_grounded p h) (program_headed p h) (inv_nothing ds all final es refl) in
    let i : Inv all final es stack seen calls bare [] fs rs es w final = subst (λ a. Inv all final es stack seen calls bare a fs rs es w final) (program_awaits p h) i1 in
    let here : List Tie = ties final es 0 rs in
    let here_is : here ≡ all = ap (ties final es 0) (referred_are [] (steps p)) in
    let now : Tie → Bool = λ t. is_last (moment t) in
    let NoWait : Tie → Pending → Type 0 = λ t x. ⊥ in
    let WithWay : Tie → Pending → Type 0 = λ t x. Waits [] seen fs final es t x × (way_of w.tables t.number ≡ t.reference.way) in
    let Anything : Tie → Type 0 = λ t. Unit {0} in
    let at_w : At w final stack seen calls bare fs = record { shows = i.represents.shows; scopes = i.scopes; flags = i.flags; sound = i.sound } in
    let ways : Tracks (IsDone [] (length seen)) WithWay here w.tables.references w.waiting = with_ways (IsDone [] (length seen)) (Waits [] seen fs final es) w.tables.references here w.tables.references w.waiting 0 [] i.tracks (numbered final es 0 rs) refl refl in
    let last : Settled Anything NoWait [] (flat_map (settled_at all) es) (filter now here) here (length final.symbols) (staying w.waiting (map (last_outcome (source_of w.tables)) w.waiting)) (settle w.tables w.waiting (map (last_outcome (source_of w.tables)) w.waiting)) =
    settle_tracks (IsDone [] (length seen)) Anything WithWay NoWait final.symbols now (last_outcome (source_of w.tables))
    (λ t d. tt) (λ t q. tt) (λ t d. ap is_last d.is) (λ t x y. (y.0.name, y.0.number))
    (λ t x y. right_last w final final es stack seen calls bare fs at_w t x refl NoWait y.0 (ap (way_of w.tables) y.0.number ∙ y.1))
    here w.tables.references w.waiting 0 (length final.symbols) [] (flat_map (settled_at all) es) w.tables ways (numbered final es 0 rs) refl refl refl i.represents.shows.symbols i.lists in
    let ordered : Lists (in_order es all) (length final.symbols) (walk.walked p).tables =
    subst (λ l. Lists (flat_map (settled_at all) es ++ filter now l) (length final.symbols) (walk.walked p).tables) here_is last.lists in
    record {
      references = last.references ∙ all_settled Anything here last.entries (staying w.waiting (map (last_outcome (source_of w.tables)) w.waiting)) last.tracks ∙ ap (map entry_of) here_is;
      uses = ordered.uses;
      free = ordered.free;
      nodes = i.nodes ∙ ap (λ (l : List Occurrence). entries_of (numbered_from 0 (map (λ r. r.node) l))) (referred_are [] (steps p));
    }

pub gives_tables : (p : Tree) → first_fault p ≡ None → (walk.walked p).tables ≡ tables_of p
gives_tables p h =
    let d : HasDeclared p (walk.walked p) = has_declared p h in
    let o : HasOpened p (walk.walked p) = has_opened p h in
    let r : HasReferred p (walk.walked p) = has_referred p h in
    λ i. record {
      scopes = o.scopes i;
      bindings = d.bindings i;
      symbols = d.symbols i;
      references = r.references i;
      uses = r.uses i;
      free = r.free i;
      pure_symbols = d.pure_symbols i;
    }
