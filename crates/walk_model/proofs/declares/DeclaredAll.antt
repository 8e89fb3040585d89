-- The walk declares what the definitions say.
use Rattle.std.proofs.Common.{◌≡◌, ℕ, suc, ◌+◌, List, [], ◌∷◌, ◌++◌, None, refl, ap, subst, ◌∙◌, length, map, fold, slice_index_or, arith}
use Rattle.std.specs.Prelude.{filter_map}
use Rattle.std.specs.List.{range_with_len}
use Rattle.std.proofs.lemmas.List.{length-append}
use Rattle.semantic_syntax.specs.Tables.{Bindings}
use Rattle.semantic_tree.specs.Tree.{Tree}
use Rattle.semantic_tree.specs.Faults.{first_fault}
use Rattle.semantic_model.specs.Binding.{Binding, bound_by}
use Rattle.semantic_model.specs.Step.{Step, entering, opening, header_ending, closing, leaving, steps}
use Rattle.semantic_model.specs.Event.{events}
use Rattle.semantic_model.specs.Fold.{State, Made, start}
use Rattle.semantic_model.specs.Hoist.{run}
use Rattle.semantic_model.specs.TablesOf.{evals, opened_entry, scopes, numbers}
use Rattle.semantic_model.proofs.fold.Changes.{Sound, HasName}
use Rattle.semantic_model.proofs.lists.SymbolLaws.{get_within}
use Rattle.semantic_model.proofs.fold.Orders.{sound_program}
use Rattle.semantic_model.proofs.form.Shape.{has_form}
use Rattle.walk_model.specs.WalkState.{WalkState}
use Rattle.walk_model.specs.Walks.{walked}
use Rattle.walk_model.specs.Noted.{with_entry}
use Rattle.walk_model.specs.Agreement.{HasDeclared}
use Rattle.walk_model.proofs.shows.Represents.{Represents, with_noted}
use Rattle.walk_model.proofs.places.Nested.{seen_after}
use Rattle.walk_model.proofs.declares.PureSymbols.{pures_ascend}
use Rattle.walk_model.proofs.declares.Simulated.{walk_as}

-- lists that show the bindings are those of the scopes in order
listed : (bss : List Bindings) (bs : List Binding) (i : ℕ) → ((c : ℕ) → slice_index_or bss c [] ≡ bound_by bs (i + c)) → bss ≡ map (bound_by bs) (range_with_len i (length bss))
listed [] bs i h = refl
listed (b ∷ bss) bs i h =
    let first : b ≡ bound_by bs i = subst (λ m. b ≡ bound_by bs m) (omega arith) (h 0) in
    let others : (c : ℕ) → slice_index_or bss c [] ≡ bound_by bs (i + 1 + c) = λ c. subst (λ m. slice_index_or bss c [] ≡ bound_by bs m) (omega arith) (h (suc c)) in
    λ j. first j ∷ listed bss bs (i + 1) others j

-- as many scopes as were opened
pub scopes_seen : (calls : List (List ℕ)) (seen : List (List ℕ)) (ss : List Step) → length (seen_after seen ss) ≡ length seen + length (filter_map (opened_entry calls) ss)
scopes_seen calls seen [] = omega arith
scopes_seen calls seen (opening p s ∷ ss) = omega (arith, scopes_seen calls (seen ++ numbers p.chain ∷ []) ss, length-append seen (numbers p.chain ∷ []))
scopes_seen calls seen (entering p ∷ ss) = scopes_seen calls seen ss
scopes_seen calls seen (header_ending p s ∷ ss) = scopes_seen calls seen ss
scopes_seen calls seen (closing p s ∷ ss) = scopes_seen calls seen ss
scopes_seen calls seen (leaving p ∷ ss) = scopes_seen calls seen ss

noted_from : (es : List (ℕ × ℕ)) (ms : List Made) → fold with_noted es ms ≡ fold with_entry es (map (λ m. record { node = m.declaration.naming.identifier; number = m.symbol }) ms)
noted_from es [] = refl
noted_from es (m ∷ ms) = noted_from (with_noted es m) ms

pub has_declared : (p : Tree) → first_fault p ≡ None → HasDeclared p (walked p)
has_declared p h =
    let w : WalkState = walked p in
    let st : State = run start (events (steps p)) in
    let n : ℕ = length (seen_after [] (steps p)) in
    let r : Represents n w st = walk_as p h in
    let sound : Sound _ st = sound_program p (has_form p h) in
    let all_seen : length (seen_after [] (steps p)) ≡ 0 + length (scopes (steps p)) = scopes_seen (evals (steps p)) [] (steps p) in
    let count : length w.tables.bindings ≡ length (scopes (steps p)) = omega (arith, r.shows.scopes, all_seen) in
    record {
      bindings = listed w.tables.bindings st.bindings 0 (λ c. subst (λ m. slice_index_or w.tables.bindings c [] ≡ bound_by st.bindings m) (omega arith) (r.shows.bindings c)) ∙ ap (λ k. map (bound_by st.bindings) (range_with_len 0 k)) count;
      symbols = r.shows.symbols;
      pure_symbols = r.notes.pure_is ∙ pures_ascend (length st.symbols) st.made (λ m a. let t : HasName st.symbols m.symbol m.declaration.naming.name = sound.has_name m a in get_within st.symbols m.symbol t.symbol t.is_there);
      conflicts = r.shows.conflicts;
      nodes = r.notes.nodes_are ∙ noted_from [] st.made;
    }
