-- Which nodes bear the name of a symbol.
use Rattle.std.proofs.Common.{◌≡◌, ℕ, zero, suc, ◌+◌, ◌≤◌, ◌==◌, List, [], ◌∷◌, Option, Some, None, cond, Bool, true, false, ◌||◌, inl, inr, refl, sym, ap, subst, ◌∙◌, map, option_map, arith, eq-eqb}
use Rattle.std.specs.Prelude.{slice_get, option_and_then}
use Rattle.std.proofs.lemmas.Bool.{eqb-true}
use Rattle.std.proofs.lemmas.Bool.Decides.{eqb_tells}
use Rattle.std.proofs.lemmas.Option.{slice_get-map}
use Rattle.semantic_syntax.specs.declared.references.Reference.{Reference}
use Rattle.semantic_tree.specs.Faults.{first_fault}
use Rattle.semantic_tree.specs.Tree.{Tree, IsNumbered}
use Rattle.semantic_model.specs.Entries.{Among, times}
use Rattle.semantic_model.specs.Event.{events}
use Rattle.semantic_model.specs.Fits.{Stand, stand_of, stand_in_tree}
use Rattle.semantic_model.specs.Fold.{start}
use Rattle.semantic_model.specs.Hoist.{run}
use Rattle.semantic_model.specs.NodeTable.{Belongs, number_of, numbered_from}
use Rattle.semantic_model.specs.Reference.{Occurrence, references}
use Rattle.semantic_model.specs.Step.{steps}
use Rattle.semantic_model.specs.TablesOf.{is_symbol, tables_of}
use Rattle.semantic_model.proofs.fits.FitParts.{stands}
use Rattle.semantic_model.proofs.lists.Members.{among_at}
use Rattle.walk_model.proofs.once.SymbolsOnce.{symbols_times}
use Rattle.semantic_model.specs.Analysis.{Analysis, symbol_at, tied_at, analysis_of}
use Rattle.rename_model.specs.Renamed.{bears_name}

pub some_is : {A : Type 0} → (x y : A) → ◌≡◌ {A = Option A} (Some x) (Some y) → x ≡ y
some_is x y e = cc

-- ---- what bears the name

pub symbol_named : (a : Analysis) (s id : ℕ) → symbol_at a id ≡ Some s → bears_name a s id ≡ true
symbol_named a s id e = ap (λ o. is_symbol s o || is_symbol s (tied_at a id)) e ∙ ap (λ b. b || is_symbol s (tied_at a id)) (eq-eqb s s refl)

pub tie_named : (a : Analysis) (s id : ℕ) → tied_at a id ≡ Some s → bears_name a s id ≡ true
tie_named a s id e = ap (λ o. is_symbol s (symbol_at a id) || is_symbol s o) e ∙ ap (λ b. is_symbol s (symbol_at a id) || b) (eq-eqb s s refl) ∙ or_true (is_symbol s (symbol_at a id))
  where
    or_true : (b : Bool) → (b || true) ≡ true
    or_true true = refl
    or_true false = refl

among_times : (bs : List Belongs) (id s : ℕ) → Among (record { node = id; number = s }) bs → 1 ≤ times id (map (λ b. b.node) bs)
among_times [] id s a = absurd a
among_times (b ∷ bs) id s (inl e) = let first : cond {A = ℕ} (b.node == id) 1 0 ≡ 1 = ap (λ t. cond t 1 0) (eq-eqb b.node id (ap (λ x. x.node) e)) in omega (arith, first)
among_times (b ∷ bs) id s (inr a) = omega (arith, among_times bs id s a)

-- of a node that stands there once
number_from_among : (bs : List Belongs) (id s : ℕ) → times id (map (λ b. b.node) bs) ≤ 1 → Among (record { node = id; number = s }) bs → number_of bs id ≡ Some s
number_from_among [] id s h a = absurd a
number_from_among (b ∷ bs) id s h (inl e) =
    ap (λ (x : Belongs). cond (x.node == id) (Some x.number) (number_of bs id)) e ∙ ap (λ t. cond t (Some s) (number_of bs id)) (eq-eqb id id refl)
number_from_among (b ∷ bs) id s h (inr a) = elim (eqb_tells b.node id) [
  | inl q ↦ (let first : cond {A = ℕ} (b.node == id) 1 0 ≡ 1 = rw q.0 refl in absurd (omega (arith, first, among_times bs id s a, h)))
  | inr q ↦ (let first : cond {A = ℕ} (b.node == id) 1 0 ≡ 0 = rw q.0 refl in ap (λ t. cond t (Some b.number) (number_of bs id)) q.0 ∙ number_from_among bs id s (omega (arith, first, h)) a)
]

pub owner_named : (p : Tree) → first_fault p ≡ None → IsNumbered p.root → (s id : ℕ) → Among {A = Belongs} (record { node = id; number = s }) (analysis_of p).owns.symbols → bears_name (analysis_of p) s id ≡ true
owner_named p h n s id a = symbol_named (analysis_of p) s id (number_from_among (analysis_of p).owns.symbols id s (symbols_times id p h n) a)

-- ---- what a node with the name tells

-- it declares symbol s or is tied to it
pub data Tells (a : Analysis) (s id : ℕ) : Type 0 where
  declares : Among {A = Belongs} (record { node = id; number = s }) a.owns.symbols → Tells a s id
  is_tied : (r : Reference) → Among r a.tables.references → r.node_id ≡ id → r.symbol_id ≡ Some s → Tells a s id

symbol_is : (s : ℕ) (o : Option ℕ) → is_symbol s o ≡ true → o ≡ Some s
symbol_is s None h = absurd cc
symbol_is s (Some r) h = ap Some (eqb-true r s h)

found_owner : (bs : List Belongs) (id s : ℕ) → number_of bs id ≡ Some s → Among (record { node = id; number = s }) bs
found_owner [] id s e = absurd cc
found_owner (b ∷ bs) id s e = go (b.node == id) refl e (λ k. found_owner bs id s k)
  where
    go : (t : Bool) → (b.node == id) ≡ t → cond t (Some b.number) (number_of bs id) ≡ Some s → (number_of bs id ≡ Some s → Among {A = Belongs} (record { node = id; number = s }) bs) → Among {A = Belongs} (record { node = id; number = s }) (b ∷ bs)
    go true t k more = inl (λ i. record { node = eqb-true b.node id t i; number = some_is b.number s k i })
    go false t k more = inr (more k)

-- the number of a reference leads to its node
found_number : (i : ℕ) (ns : List ℕ) (id n : ℕ) → number_of (numbered_from i ns) id ≡ Some n → (k : ℕ) × (i + k ≡ n) × (slice_get ns k ≡ Some id)
found_number i [] id n e = absurd cc
found_number i (m ∷ ns) id n e = go (m == id) refl e (λ f. found_number (suc i) ns id n f)
  where
    go : (t : Bool) → (m == id) ≡ t → cond t (Some i) (number_of (numbered_from (suc i) ns) id) ≡ Some n → (number_of (numbered_from (suc i) ns) id ≡ Some n → (k : ℕ) × (suc i + k ≡ n) × (slice_get ns k ≡ Some id)) → (k : ℕ) × (i + k ≡ n) × (slice_get (m ∷ ns) k ≡ Some id)
    go true t k more = (zero, (let e : i ≡ n = some_is i n k in omega (arith, e)), ap Some (eqb-true m id t))
    go false t k more = let (j, f, g) = more k in (suc j, omega (arith, f), g)

module _ (p : Tree) where
  abbrev entries : List Reference
  entries = (tables_of p).references

  abbrev rs : List Occurrence
  rs = references (steps p)

  same_stand : map stand_of entries ≡ map stand_in_tree rs
  same_stand = stands (run start (events (steps p))) (events (steps p)) 0 rs

  same_node : (n : ℕ) → option_map (λ (w : Stand). w.node) (slice_get (map stand_of entries) n) ≡ option_map (λ (w : Stand). w.node) (slice_get (map stand_in_tree rs) n)
  same_node n = ap (λ ws. option_map (λ (w : Stand). w.node) (slice_get ws n)) same_stand

  by_entry : (n : ℕ) (r : Reference) → slice_get entries n ≡ Some r → option_map (λ (w : Stand). w.node) (slice_get (map stand_of entries) n) ≡ Some r.node_id
  by_entry n r e = ap (option_map (λ (w : Stand). w.node)) (slice_get-map stand_of entries n ∙ ap (option_map stand_of) e)

  by_reference : (n id : ℕ) → slice_get (map (λ r. r.node) rs) n ≡ Some id → option_map (λ (w : Stand). w.node) (slice_get (map stand_in_tree rs) n) ≡ Some id
  by_reference n id e = ap (option_map (λ (w : Stand). w.node)) (slice_get-map stand_in_tree rs n) ∙ twice (slice_get rs n) ∙ sym (slice_get-map (λ (r : Occurrence). r.node) rs n) ∙ e
    where
      twice : (o : Option Occurrence) → option_map (λ (w : Stand). w.node) (option_map stand_in_tree o) ≡ option_map (λ (r : Occurrence). r.node) o
      twice None = refl
      twice (Some r) = refl

  -- the node of the reference to which the tie belongs
  tie_tells : (s id : ℕ) → tied_at (analysis_of p) id ≡ Some s → Tells (analysis_of p) s id
  tie_tells s id e = go (number_of (analysis_of p).owns.references id) refl e
    where
      at : (n : ℕ) → number_of (analysis_of p).owns.references id ≡ Some n → (o : Option Reference) → slice_get (tables_of p).references n ≡ o → option_and_then (λ (r : Reference). r.symbol_id) o ≡ Some s → Tells (analysis_of p) s id
      at n f None g h = absurd cc
      at n f (Some r) g h =
          let (k, i, j) = found_number 0 (map (λ r. r.node) (references (steps p))) id n f in
          let same : k ≡ n = omega (arith, i) in
          let node : Some r.node_id ≡ Some id = sym (by_entry n r g) ∙ same_node n ∙ by_reference n id (subst (λ m. slice_get (map (λ r. r.node) (references (steps p))) m ≡ Some id) same j) in
          is_tied r (among_at (tables_of p).references n r g) (some_is r.node_id id node) h

      go : (o : Option ℕ) → number_of (analysis_of p).owns.references id ≡ o → option_and_then (λ n. option_and_then (λ (r : Reference). r.symbol_id) (slice_get (tables_of p).references n)) o ≡ Some s → Tells (analysis_of p) s id
      go None f h = absurd cc
      go (Some n) f h = at n f (slice_get (tables_of p).references n) refl h

  pub tells : (s id : ℕ) → bears_name (analysis_of p) s id ≡ true → Tells (analysis_of p) s id
  tells s id h = go (is_symbol s (symbol_at (analysis_of p) id)) refl h
    where
      go : (b : Bool) → is_symbol s (symbol_at (analysis_of p) id) ≡ b → (b || is_symbol s (tied_at (analysis_of p) id)) ≡ true → Tells (analysis_of p) s id
      go true e k = declares (found_owner (analysis_of p).owns.symbols id s (symbol_is s (symbol_at (analysis_of p) id) e))
      go false e k = tie_tells s id (symbol_is s (tied_at (analysis_of p) id) k)
