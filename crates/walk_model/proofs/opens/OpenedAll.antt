-- The walk opens what the definitions say.
use Rattle.std.proofs.Common.{◌≡◌, ℕ, suc, List, [], ◌∷◌, ◌++◌, Some, None, Bool, true, false, cond, refl, sym, ap, ◌∙◌, length, map, arith}
use Rattle.std.specs.Prelude.{filter_map}
use Rattle.std.specs.List.{cons_option}
use Rattle.std.proofs.lemmas.List.{length-append, append_assoc, append-nil}
use Rattle.semantic_syntax.specs.Tables.{Scope}
use Rattle.semantic_syntax.specs.Told.{source_of}
use Rattle.semantic_tree.specs.Tree.{Tree}
use Rattle.semantic_tree.specs.Faults.{first_fault}
use Rattle.semantic_model.specs.Place.{Place, OpenScope}
use Rattle.semantic_model.specs.Step.{Step, entering, opening, header_ending, closing, leaving, steps, steps_below, root_place}
use Rattle.semantic_model.specs.Cursor.{on_entering}
use Rattle.semantic_model.specs.Declaration.{Declaration}
use Rattle.semantic_model.specs.Event.{written_declarations}
use Rattle.semantic_model.specs.TablesOf.{is_direct_eval, evals, opened_entry, scopes, any_holds, numbers}
use Rattle.semantic_model.specs.NodeTable.{numbered_from}
use Rattle.semantic_syntax.specs.Outcome.{last_outcome}
use Rattle.walk_model.specs.WalkState.{WalkState, nothing_made}
use Rattle.walk_model.specs.Noted.{entries_of}
use Rattle.walk_model.specs.Agreement.{HasOpened}
use Rattle.walk_model.specs.Walks as walk
use Rattle.walk_model.proofs.places.Nested.{IsChain, AreNested, open_past, open_after, seen_after, Leads, nested_below, opens-append}
use Rattle.walk_model.proofs.places.Grounds.{all_grounded}
use Rattle.walk_model.proofs.declares.Simulated.{program_nested}
use Rattle.walk_model.proofs.opens.EvalFlags.{flagged, with_flag, flagged_same}
use Rattle.walk_model.proofs.opens.EvalReach.{reached, reached_all}
use Rattle.walk_model.proofs.opens.OpenedScopes.{bare_entry, bare_after, calls_after, ShowsScopes, scopes_steps, settled_scopes}

-- the calls of a program
pub calls_are : (calls : List (List ℕ)) (ss : List Step) → calls_after calls ss ≡ calls ++ evals ss
calls_are calls [] = sym (append-nil calls)
calls_are calls (entering p ∷ ss) = go (is_direct_eval p.node) (λ c. calls_are c ss)
  where
    go : (b : Bool) → ((c : List (List ℕ)) → calls_after c ss ≡ c ++ evals ss) → calls_after (cond b (calls ++ numbers p.chain ∷ []) calls) ss ≡ calls ++ cons_option (cond b (Some (numbers p.chain)) None) (evals ss)
    go true rest = rest (calls ++ numbers p.chain ∷ []) ∙ append_assoc calls (numbers p.chain ∷ []) (evals ss)
    go false rest = rest calls
calls_are calls (opening p s ∷ ss) = calls_are calls ss
calls_are calls (header_ending p s ∷ ss) = calls_are calls ss
calls_are calls (closing p s ∷ ss) = calls_are calls ss
calls_are calls (leaving p ∷ ss) = calls_are calls ss

-- the scopes that steps open, without the flag
abbrev pub opened_bare : List Step → List Scope
opened_bare [] = []
opened_bare (opening p s ∷ ss) = bare_entry p s ∷ opened_bare ss
opened_bare (entering p ∷ ss) = opened_bare ss
opened_bare (header_ending p s ∷ ss) = opened_bare ss
opened_bare (closing p s ∷ ss) = opened_bare ss
opened_bare (leaving p ∷ ss) = opened_bare ss

pub bare_are : (bare : List Scope) (ss : List Step) → bare_after bare ss ≡ bare ++ opened_bare ss
bare_are bare [] = sym (append-nil bare)
bare_are bare (opening p s ∷ ss) = bare_are (bare ++ bare_entry p s ∷ []) ss ∙ append_assoc bare (bare_entry p s ∷ []) (opened_bare ss)
bare_are bare (entering p ∷ ss) = bare_are bare ss
bare_are bare (header_ending p s ∷ ss) = bare_are bare ss
bare_are bare (closing p s ∷ ss) = bare_are bare ss
bare_are bare (leaving p ∷ ss) = bare_are bare ss

head_parent : (calls : List (List ℕ)) (p : Place) (s : OpenScope) (n : ℕ) (rest : List Scope) → s.number ≡ n → cons_option (opened_entry calls (opening p s)) rest ≡ with_flag (any_holds calls n) (bare_entry p s) ∷ rest
head_parent calls p s n rest e = go p.chain refl
  where
    go : (chain : List OpenScope) → p.chain ≡ chain → cons_option (opened_entry calls (opening p s)) rest ≡ with_flag (any_holds calls n) (bare_entry p s) ∷ rest
    go [] q = rw (q, e) refl
    go (c ∷ cs) q = rw (q, e) refl

scopes_listed : (calls : List (List ℕ)) (stack : List ℕ) (seen : List (List ℕ)) (n : ℕ) (ss : List Step) → length seen ≡ n → AreNested stack seen ss → filter_map (opened_entry calls) ss ≡ flagged (any_holds calls) n (opened_bare ss)
scopes_listed calls stack seen n [] e h = refl
scopes_listed calls stack seen n (opening p s ∷ ss) e h =
    let longer : length (seen ++ numbers p.chain ∷ []) ≡ suc n = omega (arith, length-append seen (numbers p.chain ∷ []), e) in
    head_parent calls p s n (filter_map (opened_entry calls) ss) (ap (λ o. o.number) h.0.1 ∙ e)
    ∙ ap (λ l. with_flag (any_holds calls n) (bare_entry p s) ∷ l) (scopes_listed calls (s.number ∷ stack) (seen ++ numbers p.chain ∷ []) (suc n) ss longer h.1)
scopes_listed calls stack seen n (entering p ∷ ss) e h = scopes_listed calls (open_past stack (entering p)) seen n ss e h.1
scopes_listed calls stack seen n (header_ending p s ∷ ss) e h = scopes_listed calls (open_past stack (header_ending p s)) seen n ss e h.1
scopes_listed calls stack seen n (closing p s ∷ ss) e h = scopes_listed calls (open_past stack (closing p s)) seen n ss e h.1
scopes_listed calls stack seen n (leaving p ∷ ss) e h = scopes_listed calls (open_past stack (leaving p)) seen n ss e h.1

flagged_nodes : (f : ℕ → Bool) (k : ℕ) (es : List Scope) → map (λ e. e.node) es ≡ map (λ e. e.node) (flagged f k es)
flagged_nodes f k [] = refl
flagged_nodes f k (e ∷ es) = ap (λ l. e.node ∷ l) (flagged_nodes f (suc k) es)

pub nothing_opened : ShowsScopes [] [] [] [] nothing_made
nothing_opened = record { scopes = refl; parents = refl; clean = tt; linked = tt; frames = tt; nodes = refl }

-- in the end all scopes are closed
pub all_closed : (p : Tree) → open_after [] (steps p) ≡ []
all_closed p =
    let below : List Step = steps_below (root_place p) None 0 (on_entering p.root.kind 0) p.root.children in
    let chain : IsChain [] [] [] = record { are_open = tt; are_linked = tt; descends = tt } in
    let led : Leads [] [] [] below = nested_below (root_place p) None 0 (on_entering p.root.kind 0) p.root.children [] [] refl chain tt in
    opens-append [] below (leaving (root_place p) ∷ []) ∙ led.open_is

pub has_opened : (p : Tree) → first_fault p ≡ None → HasOpened p (walk.walked p)
has_opened p h =
    let ds : List Declaration = written_declarations (steps p) in
    let all : WalkState = walk.after_all ds nothing_made (steps p) in
    let calls : List (List ℕ) = evals (steps p) in
    let shown : ShowsScopes (open_after [] (steps p)) (seen_after [] (steps p)) (calls_after [] (steps p)) (bare_after [] (steps p)) all =
    scopes_steps ds nothing_made [] [] [] [] (steps p) (program_nested p) (all_grounded p h) nothing_opened in
    let done : ShowsScopes (open_after [] (steps p)) (seen_after [] (steps p)) (calls_after [] (steps p)) (bare_after [] (steps p)) (walk.walked p) =
    settled_scopes (open_after [] (steps p)) (seen_after [] (steps p)) (calls_after [] (steps p)) (bare_after [] (steps p)) all (last_outcome (source_of all.tables)) shown in
    let list : scopes (steps p) ≡ flagged (any_holds calls) 0 (opened_bare (steps p)) = scopes_listed calls [] [] 0 (steps p) refl (program_nested p) in
    let bare : bare_after [] (steps p) ≡ opened_bare (steps p) = bare_are [] (steps p) in
    record {
      scopes = done.scopes
          ∙ (λ i. flagged (reached (all_closed p i) (calls_are [] (steps p) i)) 0 (bare i))
          ∙ flagged_same (reached [] calls) (any_holds calls) 0 (opened_bare (steps p)) (λ c l. reached_all calls c)
          ∙ sym list;
      nodes = done.nodes
          ∙ ap (λ es. entries_of (numbered_from 0 (map (λ e. e.node) es))) bare
          ∙ ap (λ ns. entries_of (numbered_from 0 ns)) (flagged_nodes (any_holds calls) 0 (opened_bare (steps p)) ∙ ap (map (λ (e : Scope). e.node)) (sym list));
    }
