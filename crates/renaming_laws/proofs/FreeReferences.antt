-- Where two programs mean the same, the same nodes are references without a symbol.
use Rattle.std.proofs.Common.{◌≡◌, ℕ, zero, suc, ◌+◌, ◌<◌, ◌==◌, List, [], ◌∷◌, Bool, true, false, if◌then◌else◌, cond, Some, None, inl, inr, nat_eq, refl, sym, ap, subst, ◌∙◌, map, arith, eq-eqb}
use Rattle.std.specs.Prelude.{slice_get, filter_map, fold, option_and_then, option_map}
use Rattle.std.specs.List.{cons_option}
use Rattle.std.proofs.lemmas.Bool.{eqb-false, ne_eqb}
use Rattle.std.proofs.lemmas.Option.{slice_get-map}
use Rattle.indexmap.specs.IndexMap.{insert_entry}
use Rattle.semantic_kinds.specs.declared.kind.AstType.TheVariants as kind
use Rattle.semantic_syntax.specs.declared.references.Reference.{Reference}
use Rattle.semantic_tree.specs.Children.{node_count}
use Rattle.semantic_tree.specs.Tree.{Tree, IsNumbered}
use Rattle.semantic_tree.specs.Views.{is}
use Rattle.semantic_model.specs.Analysis.{analysis_of, tied_at}
use Rattle.semantic_model.specs.Entries.{Among}
use Rattle.semantic_model.specs.Event.{Event, events}
use Rattle.semantic_model.specs.Fold.{State, start}
use Rattle.semantic_model.specs.Hoist.{run}
use Rattle.semantic_model.specs.NodeTable.{Belongs, number_of, numbered_from, node_tables}
use Rattle.semantic_model.specs.Reference.{Occurrence, reference_at, references}
use Rattle.semantic_model.specs.Step.{Step, entering, opening, header_ending, closing, leaving, steps}
use Rattle.semantic_model.specs.TablesOf.{entry_of, tables_of}
use Rattle.semantic_model.specs.Tie.{Tie, tied_symbol, ties}
use Rattle.walk_model.specs.Noted.{with_entry, pairs_of}
use Rattle.walk_model.proofs.once.NodeIds.{references_noted_once}
use Rattle.check_model.specs.DiagnosticsOf.{free_reference_nodes}
use Rattle.check_model.specs.SightOf.{free_by, free_nodes}
use Rattle.program_laws.proofs.Walked.{steps_within}
use Rattle.rename_model.specs.Same.{Same}
use Rattle.rename_model.proofs.NamedNodes.{some_is}
use Rattle.renaming_laws.proofs.SameSymbols.{id_within}

-- ---- the entries of a map stand apart

abbrev Without : ℕ → List (ℕ × ℕ) → Type 0
Without q [] = Unit {0}
Without q (e ∷ es) = (nat_eq q e.0 ≡ false) × Without q es

abbrev StandApart : List (ℕ × ℕ) → Type 0
StandApart [] = Unit {0}
StandApart (e ∷ es) = Without e.0 es × StandApart es

without_one : (q k v : ℕ) (es : List (ℕ × ℕ)) → nat_eq q k ≡ false → Without q es → Without q (insert_entry nat_eq es k v)
without_one q k v [] h w = (h, tt)
without_one q k v (e ∷ es) h w = by (nat_eq k e.0) (without_one q k v es h w.1)
  where
    by : (b : Bool) → Without q (insert_entry nat_eq es k v) → Without q (if b then (e.0, v) ∷ es else e ∷ insert_entry nat_eq es k v)
    by true rest = w
    by false rest = (w.0, rest)

one_apart : (k v : ℕ) (es : List (ℕ × ℕ)) → StandApart es → StandApart (insert_entry nat_eq es k v)
one_apart k v [] d = (tt, tt)
one_apart k v (e ∷ es) d = by (nat_eq k e.0) (λ h. (without_one e.0 k v es (ne_eqb e.0 k (λ same. eqb-false k e.0 h (sym same))) d.0, one_apart k v es d.1)) refl
  where
    by : (b : Bool) → (nat_eq k e.0 ≡ false → StandApart (e ∷ insert_entry nat_eq es k v)) → nat_eq k e.0 ≡ b → StandApart (if b then (e.0, v) ∷ es else e ∷ insert_entry nat_eq es k v)
    by true new is = d
    by false new is = new is

all_apart : (es : List (ℕ × ℕ)) (bs : List Belongs) → StandApart es → StandApart (fold with_entry es bs)
all_apart es [] d = d
all_apart es (b ∷ bs) d = all_apart (with_entry es b) bs (one_apart b.node b.number es d)

-- ---- so the number of a node leads to its entry

off_at : (q i : ℕ) (ns : List ℕ) (k id : ℕ) → Without q (pairs_of (numbered_from i ns)) → slice_get ns k ≡ Some id → (q == id) ≡ false
off_at q i [] k id w e = absurd cc
off_at q i (n ∷ ns) zero id w e = ap (λ m. q == m) (sym (some_is n id e)) ∙ w.0
off_at q i (n ∷ ns) (suc k) id w e = off_at q (suc i) ns k id w.1 e

number_at : (i : ℕ) (ns : List ℕ) (k id : ℕ) → StandApart (pairs_of (numbered_from i ns)) → slice_get ns k ≡ Some id → number_of (numbered_from i ns) id ≡ Some (i + k)
number_at i [] k id d e = absurd cc
number_at i (n ∷ ns) zero id d e = ap (λ t. cond t (Some i) (number_of (numbered_from (suc i) ns) id)) (eq-eqb n id (some_is n id e)) ∙ ap Some (omega arith)
number_at i (n ∷ ns) (suc k) id d e =
    ap (λ t. cond t (Some i) (number_of (numbered_from (suc i) ns) id)) (off_at n (suc i) ns k id d.0 e)
    ∙ number_at (suc i) ns k id d.1 e ∙ ap Some (omega arith)

nodes_of_ties : (final : State) (es : List Event) (n : ℕ) (rs : List Occurrence) → map (λ (r : Reference). r.node_id) (map entry_of (ties final es n rs)) ≡ map (λ (r : Occurrence). r.node) rs
nodes_of_ties final es n [] = refl
nodes_of_ties final es n (r ∷ rs) = ap (λ l. r.node ∷ l) (nodes_of_ties final es (suc n) rs)

module _ (p : Tree) (numbered : IsNumbered p.root) where
  abbrev entries : List Reference
  entries = (tables_of p).references

  abbrev nodes : List ℕ
  nodes = map (λ (r : Occurrence). r.node) (references (steps p))

  same_nodes : map (λ (r : Reference). r.node_id) entries ≡ nodes
  same_nodes = nodes_of_ties (run start (events (steps p))) (events (steps p)) 0 (references (steps p))

  node_at : (k : ℕ) (r : Reference) → slice_get entries k ≡ Some r → slice_get nodes k ≡ Some r.node_id
  node_at k r e = ap (λ ns. slice_get ns k) (sym same_nodes) ∙ slice_get-map (λ (x : Reference). x.node_id) entries k ∙ ap (option_map (λ (x : Reference). x.node_id)) e

  apart : StandApart (pairs_of (numbered_from 0 nodes))
  apart = subst StandApart (references_noted_once p numbered) (all_apart [] (node_tables (steps p)).references tt)

  -- what a node is tied to is what its entry has
  tied_by : (k : ℕ) (r : Reference) → slice_get entries k ≡ Some r → tied_at (analysis_of p) r.node_id ≡ r.symbol_id
  tied_by k r e =
      let number : number_of (numbered_from 0 nodes) r.node_id ≡ Some (0 + k) = number_at 0 nodes k r.node_id apart (node_at k r e) in
      let there : number_of (numbered_from 0 nodes) r.node_id ≡ Some k = number ∙ ap Some (omega arith) in
      ap (option_and_then (λ n. option_and_then (λ (x : Reference). x.symbol_id) (slice_get entries n))) there
      ∙ ap (option_and_then (λ (x : Reference). x.symbol_id)) e

  -- it is a node of the program
  inside_steps : (ss : List Step) → ((t : Step) → Among t ss → Among t (steps p)) → (k id : ℕ) → slice_get (map (λ (r : Occurrence). r.node) (references ss)) k ≡ Some id → id < node_count p.root
  inside_steps [] h k id e = absurd cc
  inside_steps (entering x ∷ ss) h k id e = by (is kind.IdentifierReference x.node) k e (λ m f. inside_steps ss (λ t a. h t (inr a)) m id f)
    where
      by : (b : Bool) (k : ℕ) → slice_get (map (λ (r : Occurrence). r.node) (cons_option (cond b (Some (reference_at x)) None) (references ss))) k ≡ Some id → ((m : ℕ) → slice_get (map (λ (r : Occurrence). r.node) (references ss)) m ≡ Some id → id < node_count p.root) → id < node_count p.root
      by false k f rest = rest k f
      by true (suc k) f rest = rest k f
      by true zero f rest = subst (λ n. n < node_count p.root) (some_is x.node.node_id id f) (id_within p numbered x.node (steps_within p (entering x) (h (entering x) (inl refl)) x.node (inl refl)))
  inside_steps (opening x o ∷ ss) h k id e = inside_steps ss (λ t a. h t (inr a)) k id e
  inside_steps (header_ending x o ∷ ss) h k id e = inside_steps ss (λ t a. h t (inr a)) k id e
  inside_steps (closing x o ∷ ss) h k id e = inside_steps ss (λ t a. h t (inr a)) k id e
  inside_steps (leaving x ∷ ss) h k id e = inside_steps ss (λ t a. h t (inr a)) k id e

  inside : (k : ℕ) (r : Reference) → slice_get entries k ≡ Some r → r.node_id < node_count p.root
  inside k r e = inside_steps (steps p) (λ t a. a) k r.node_id (node_at k r e)

-- ---- the same lists

abbrev pub free_in : List Reference → List ℕ
free_in rs = filter_map (λ (r : Reference). free_by r.symbol_id r.node_id) rs

free_entries : (ts : List Tie) → free_nodes ts ≡ free_in (map entry_of ts)
free_entries [] = refl
free_entries (t ∷ ts) = ap (cons_option (free_by (tied_symbol t) t.reference.node)) (free_entries ts)

pub free_by_tables : (p : Tree) → free_reference_nodes (steps p) ≡ free_in (tables_of p).references
free_by_tables p = free_entries (ties (run start (events (steps p))) (events (steps p)) 0 (references (steps p)))

same_free : (rs qs : List Reference) → map (λ (r : Reference). r.node_id) rs ≡ map (λ (r : Reference). r.node_id) qs → ((k : ℕ) (r q : Reference) → slice_get rs k ≡ Some r → slice_get qs k ≡ Some q → r.node_id ≡ q.node_id → r.symbol_id ≡ q.symbol_id) → free_in rs ≡ free_in qs
same_free [] [] e h = refl
same_free [] (q ∷ qs) e h = absurd cc
same_free (r ∷ rs) [] e h = absurd cc
same_free (r ∷ rs) (q ∷ qs) e h =
    let first : r.node_id ≡ q.node_id = head r q rs qs e in
    λ i. cons_option (free_by (h 0 r q refl refl first i) (first i)) (same_free rs qs (tail r q rs qs e) (λ k x y a b c. h (suc k) x y a b c) i)
  where
    head : (r q : Reference) (rs qs : List Reference) → map (λ (x : Reference). x.node_id) (r ∷ rs) ≡ map (λ (x : Reference). x.node_id) (q ∷ qs) → r.node_id ≡ q.node_id
    head r q rs qs k = cc

    tail : (r q : Reference) (rs qs : List Reference) → map (λ (x : Reference). x.node_id) (r ∷ rs) ≡ map (λ (x : Reference). x.node_id) (q ∷ qs) → map (λ (x : Reference). x.node_id) rs ≡ map (λ (x : Reference). x.node_id) qs
    tail r q rs qs k = cc

pub free_alike : (p q : Tree) → IsNumbered p.root → IsNumbered q.root → Same p q → map (λ (r : Occurrence). r.node) (references (steps p)) ≡ map (λ (r : Occurrence). r.node) (references (steps q)) → free_reference_nodes (steps p) ≡ free_reference_nodes (steps q)
free_alike p q n m same e =
    free_by_tables p
    ∙ same_free (tables_of p).references (tables_of q).references (same_nodes p n ∙ e ∙ sym (same_nodes q m))
    (λ k r w a b c. sym (tied_by p n k r a) ∙ (same r.node_id (inside p n k r a)).tied ∙ ap (tied_at (analysis_of q)) c ∙ tied_by q m k w b)
    ∙ sym (free_by_tables q)
