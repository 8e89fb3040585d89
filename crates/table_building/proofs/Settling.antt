-- Steps of settling references that wait.
use Rattle.std.proofs.Common.{◌≡◌, ℕ, ◌+◌, ◌<◌, ◌≤◌, List, [], ◌∷◌, ◌++◌, length, get_or, map, take, drop, slice_index_or, add-one, refl, sym, ap, ◌∙◌}
use Rattle.std.proofs.Math.ListN.{drop_of_length-le}
use Rattle.std.proofs.Math.Seq.{drop-cons}
use Rattle.semantic_syntax.specs.Tables.{Tables}
use Rattle.resolver.specs.declared.outcomes.Outcome.{Outcome}
use Rattle.resolver.specs.declared.pending.UnresolvedReference.{UnresolvedReference}
use Rattle.resolver.specs.Terms.{outcome_of, pending_of, staying}
use Rattle.semantic_syntax.specs.Outcome as model
use Rattle.semantic_syntax.proofs.Truth.{drop_here}
use Rattle.walk_model.specs.WalkState.{WalkState}
use Rattle.walk_model.specs.Settles.{settle, settle_one}
use Rattle.table_building.specs.Made.{walk_state}
use Rattle.table_building.specs.Settled.{no_pending, settled_from}
use Rattle.table_building.specs.declared.declared.Declared.TheInside.{Inside}
use Rattle.table_building.proofs.Waiting.{applied_same}

settle_none : (t : Tables) (es : List model.Pending) → settle t es [] ≡ t
settle_none t [] = refl
settle_none t (e ∷ es) = refl

module _ (w v whole : WalkState) (position i : ℕ) (os : List Outcome) (o : Outcome) where
  -- to settle what is left is to settle the first, and then the rest
  pub settle_turn : position < length w.waiting → i < length os → o ≡ get_or os i o
      → v ≡ record w { tables = settle_one w.tables (slice_index_or w.waiting position no_pending) (outcome_of o) }
      → ◌≡◌ {A = WalkState} (record w { tables = settle w.tables (drop position w.waiting) (map outcome_of (drop i os)) }) whole
      → ◌≡◌ {A = WalkState} (record v { tables = settle v.tables (drop (position + 1) v.waiting) (map outcome_of (drop (i + 1) os)) }) whole
  settle_turn within here is made rest =
      let first : drop position w.waiting ≡ slice_index_or w.waiting position no_pending ∷ drop (position + 1) w.waiting = rw (drop-cons w.waiting position no_pending within, add-one) refl in
      ap (λ (u : WalkState). record u { tables = settle u.tables (drop (position + 1) u.waiting) (map outcome_of (drop (i + 1) os)) }) made
      ∙ ap (λ (es : List model.Pending). record w { tables = settle w.tables es (map outcome_of (o ∷ drop (i + 1) os)) }) (sym first)
      ∙ ap (λ (ps : List Outcome). record w { tables = settle w.tables (drop position w.waiting) (map outcome_of ps) }) (sym (drop_here os i o here is))
      ∙ rest

pub settle_end : (w whole : WalkState) (position i : ℕ) (os : List Outcome) → length os ≤ i
    → ◌≡◌ {A = WalkState} (record w { tables = settle w.tables (drop position w.waiting) (map outcome_of (drop i os)) }) whole → w ≡ whole
settle_end w whole position i os over rest =
    ap (λ (t : Tables). record w { tables = t }) (sym (settle_none w.tables (drop position w.waiting)))
    ∙ ap (λ (ps : List Outcome). record w { tables = settle w.tables (drop position w.waiting) (map outcome_of ps) }) (sym (drop_of_length-le os over))
    ∙ rest

-- what waits on goes with what is settled
pub settled_made : (d : Inside) (w : WalkState) (start : ℕ) (os : List Outcome) (ps : List UnresolvedReference)
    → ◌≡◌ {A = WalkState} (walk_state d) (record w { tables = settle w.tables (drop start w.waiting) (map outcome_of os) })
    → ps ≡ take start d.pending ++ staying (drop start d.pending) os
    → ◌≡◌ {A = WalkState} (walk_state (record d { pending = ps })) (settled_from w start (map outcome_of os))
settled_made d w start os ps made is =
    let waited : map pending_of d.pending ≡ w.waiting = ap (λ (v : WalkState). v.waiting) made in
    let stays : map pending_of ps ≡ (settled_from w start (map outcome_of os)).waiting = rw (is, ← waited) (applied_same start d.pending os) in
    ap (λ (v : WalkState). record v { waiting = map pending_of ps }) made
    ∙ ap (λ (es : List model.Pending). record w { tables = settle w.tables (drop start w.waiting) (map outcome_of os); waiting = es }) stays
