-- In the end the entries of nodes tell the free references as the tables do.
use Rattle.std.proofs.Common.{◌≡◌, ℕ, suc, ◌<◌, List, [], ◌∷◌, ◌++◌, None, true, cond, refl, sym, ap, subst, ◌∙◌, map, length, nat_lt, slice_index_or, arith}
use Rattle.std.specs.Prelude.{filter_map}
use Rattle.std.specs.List.{cons_option}
use Rattle.std.proofs.lemmas.List.{length-append, append_assoc}
use Rattle.std.proofs.lemmas.Bool.{lt-ltb}
use Rattle.semantic_syntax.specs.declared.references.Reference.{Reference}
use Rattle.semantic_syntax.specs.Tables.{Tables}
use Rattle.semantic_tree.specs.Tree.{Tree, IsNumbered}
use Rattle.semantic_tree.specs.Faults.{first_fault}
use Rattle.semantic_syntax.specs.Reading.{no_reference}
use Rattle.semantic_model.specs.Event.{Event, events}
use Rattle.semantic_model.specs.Fold.{State, start}
use Rattle.semantic_model.specs.Hoist.{run}
use Rattle.semantic_model.specs.NodeTable.{numbered_from}
use Rattle.semantic_model.specs.Reference.{Occurrence, references}
use Rattle.semantic_model.specs.Step.{steps}
use Rattle.semantic_model.specs.TablesOf.{entry_of}
use Rattle.semantic_model.specs.Tie.{ties}
use Rattle.walk_model.specs.Noted.{pairs_of}
use Rattle.walk_model.specs.Walks.{walked}
use Rattle.walk_model.proofs.refers.GivesTables.{has_referred}
use Rattle.walk_model.proofs.once.NotedOnce.{notes_once}
use Rattle.check_model.specs.SightOf.{free_by}
use Rattle.check_walk.specs.WalkSight.{unresolved_in}
use Rattle.check_model.specs.Context.{free_entry, unresolved_by}

middle : (xs : List Reference) (x : Reference) (ys : List Reference) → slice_index_or (xs ++ x ∷ ys) (length xs) no_reference ≡ x
middle [] x ys = refl
middle (z ∷ xs) x ys = middle xs x ys

lt_true : (m n : ℕ) → m < n → nat_lt m n ≡ true
lt_true m n l = lt-ltb m n l

-- entries from a place on, and the references from there on
entries_from : (t : Tables) (before rs : List Reference) → t.references ≡ before ++ rs
    → filter_map (free_entry t) (pairs_of (numbered_from (length before) (map (λ (r : Reference). r.node_id) rs))) ≡ filter_map (λ (r : Reference). free_by r.symbol_id r.node_id) rs
entries_from t before [] e = refl
entries_from t before (r ∷ rs) e =
    let there : slice_index_or t.references (length before) no_reference ≡ r = ap (λ l. slice_index_or l (length before) no_reference) e ∙ middle before r rs in
    let within : nat_lt (length before) (length t.references) ≡ true = lt_true (length before) (length t.references) (omega (arith, ap length e, length-append before (r ∷ rs))) in
    let next : length (before ++ r ∷ []) ≡ suc (length before) = omega (arith, length-append before (r ∷ [])) in
    let first : free_entry t (r.node_id, length before) ≡ free_by r.symbol_id r.node_id =
    (λ i. cond (within i) (free_by (slice_index_or t.references (length before) no_reference).symbol_id r.node_id) None) ∙ ap (λ (y : Reference). free_by y.symbol_id r.node_id) there in
    let rest : filter_map (free_entry t) (pairs_of (numbered_from (suc (length before)) (map (λ (y : Reference). y.node_id) rs))) ≡ filter_map (λ (y : Reference). free_by y.symbol_id y.node_id) rs =
    subst (λ n. filter_map (free_entry t) (pairs_of (numbered_from n (map (λ (y : Reference). y.node_id) rs))) ≡ filter_map (λ (y : Reference). free_by y.symbol_id y.node_id) rs) next
    (entries_from t (before ++ r ∷ []) rs (e ∙ sym (append_assoc before (r ∷ []) rs))) in
    λ i. cons_option (first i) (rest i)

nodes_of_ties : (final : State) (es : List Event) (n : ℕ) (rs : List Occurrence) → map (λ (r : Reference). r.node_id) (map entry_of (ties final es n rs)) ≡ map (λ (r : Occurrence). r.node) rs
nodes_of_ties final es n [] = refl
nodes_of_ties final es n (r ∷ rs) = ap (λ l. r.node ∷ l) (nodes_of_ties final es (suc n) rs)

pub free_entries : (p : Tree) → first_fault p ≡ None → IsNumbered p.root → unresolved_by (walked p).nodes (walked p).tables ≡ unresolved_in (walked p).tables
free_entries p h e =
    let t : Tables = (walked p).tables in
    let ids : map (λ (r : Reference). r.node_id) t.references ≡ map (λ (r : Occurrence). r.node) (references (steps p)) =
    ap (map (λ (r : Reference). r.node_id)) (has_referred p h).references ∙ nodes_of_ties (run start (events (steps p))) (events (steps p)) 0 (references (steps p)) in
    let entries : (walked p).nodes.references ≡ pairs_of (numbered_from 0 (map (λ (r : Reference). r.node_id) t.references)) =
    (notes_once p h e).references ∙ ap (λ l. pairs_of (numbered_from 0 l)) (sym ids) in
    ap (filter_map (free_entry t)) entries ∙ entries_from t [] t.references refl
