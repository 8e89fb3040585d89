-- The reference of a node that refers, and what that is tied to.
use Rattle.std.proofs.Common.{◌≡◌, ℕ, zero, suc, ◌+◌, List, [], ◌∷◌, Some, None, Bool, true, false, cond, map, inl, inr, option_map, refl, sym, ap, subst, ◌∙◌, arith, zero-add}
use Rattle.std.specs.List.{cons_option}
use Rattle.std.specs.Prelude.{slice_get}
use Rattle.std.proofs.lemmas.Bool.Decides.{eqb_tells}
use Rattle.std.proofs.lemmas.Option.{slice_get-map}
use Rattle.semantic_kinds.specs.declared.kind.AstType.TheVariants as kind
use Rattle.semantic_syntax.specs.declared.references.Reference.{Reference}
use Rattle.semantic_tree.specs.Tree.{Tree, IsNumbered}
use Rattle.semantic_tree.specs.Views.{is}
use Rattle.semantic_model.specs.Analysis.{analysis_of, tied_at}
use Rattle.semantic_model.specs.Entries.{Among}
use Rattle.semantic_model.specs.Event.{events}
use Rattle.semantic_model.specs.Fold.{State, start}
use Rattle.semantic_model.specs.Hoist.{run}
use Rattle.semantic_model.specs.NodeTable.{numbered_from, number_of, node_tables}
use Rattle.semantic_model.specs.Place.{Place}
use Rattle.semantic_model.specs.Reference.{Occurrence, reference_at, references}
use Rattle.semantic_model.specs.Step.{Step, entering, opening, header_ending, closing, leaving, steps}
use Rattle.semantic_model.specs.TablesOf.{tables_of, entry_of}
use Rattle.semantic_model.specs.Tie.{Tie, ties}
use Rattle.semantic_model.proofs.lists.Members.{among_at}
use Rattle.semantic_model.proofs.once.HeadersEndOnce.{IsEntered}
use Rattle.semantic_model.proofs.once.ListedUnder.{tie_for, nth_tie}
use Rattle.binding_laws.proofs.EnteredOnce.{entered_once}

-- the place where a reference is entered
pub record ReadAt (r : Occurrence) (ss : List Step) : Type 0 where
  pub place : Place
  pub entered : IsEntered place ss
  pub refers : is kind.IdentifierReference place.node ≡ true
  pub is_it : reference_at place ≡ r

read_later : (r : Occurrence) (step : Step) (more : List Step) → ((q : Place) → IsEntered q more → IsEntered q (step ∷ more)) → ReadAt r more → ReadAt r (step ∷ more)
read_later r step more f h = record { place = h.place; entered = f h.place h.entered; refers = h.refers; is_it = h.is_it }

pub read_at : (r : Occurrence) (ss : List Step) → Among r (references ss) → ReadAt r ss
read_at r [] a = absurd a
read_at r (entering p ∷ more) a = go (is kind.IdentifierReference p.node) refl a (read_at r more)
  where
    go : (b : Bool) → is kind.IdentifierReference p.node ≡ b → Among r (cons_option (cond b (Some (reference_at p)) None) (references more)) → (Among r (references more) → ReadAt r more) → ReadAt r (entering p ∷ more)
    go true e (inl q) later = record { place = p; entered = inl refl; refers = e; is_it = q }
    go true e (inr q) later = read_later r (entering p) more (λ z k. inr k) (later q)
    go false e q later = read_later r (entering p) more (λ z k. inr k) (later q)
read_at r (opening p s ∷ more) a = read_later r (opening p s) more (λ q k. k) (read_at r more a)
read_at r (header_ending p s ∷ more) a = read_later r (header_ending p s) more (λ q k. k) (read_at r more a)
read_at r (closing p s ∷ more) a = read_later r (closing p s) more (λ q k. k) (read_at r more a)
read_at r (leaving p ∷ more) a = read_later r (leaving p) more (λ q k. k) (read_at r more a)

-- ---- the reference of a node

-- a node of a list has a number, and stands there
record HasNumber (xs : List ℕ) (node i : ℕ) : Type 0 where
  position : ℕ
  number : number_of (numbered_from i xs) node ≡ Some (i + position)
  there : slice_get xs position ≡ Some node

has_number : (xs : List ℕ) (node i : ℕ) → Among node xs → HasNumber xs node i
has_number [] node i a = absurd a
has_number (x ∷ xs) node i a = elim (eqb_tells x node) [
  | inl e ↦ record { position = 0; number = rw e.0 (ap Some (omega arith)); there = ap Some e.1 }
  | inr e ↦ elim a [
    | inl q ↦ absurd (e.1 q)
    | inr b ↦ (let w : HasNumber xs node (suc i) = has_number xs node (suc i) b in
        record { position = suc w.position; number = rw e.0 (w.number ∙ ap Some (omega arith)); there = w.there })
  ]
]

abbrev node_of : Occurrence → ℕ
node_of r = r.node

-- what stands in a list of nodes stands there by its reference
there_too : (rs : List Occurrence) (n node : ℕ) → slice_get (map (λ r. r.node) rs) n ≡ Some node → (r : Occurrence) × (slice_get rs n ≡ Some r) × (r.node ≡ node)
there_too [] n node q = absurd cc
there_too (r ∷ rs) zero node q = (r, refl, cc)
there_too (r ∷ rs) (suc n) node q = there_too rs n node q

-- a node that is entered as a reference stands in the list of references
listed : (q : Place) (ss : List Step) → Among (entering q) ss → is kind.IdentifierReference q.node ≡ true → Among (reference_at q) (references ss)
listed q [] a k = absurd a
listed q (entering z ∷ ss) (inl i) k = subst (λ w. Among (reference_at q) (references (w ∷ ss))) (sym i) (here_listed k)
  where
    here_listed : is kind.IdentifierReference q.node ≡ true → Among (reference_at q) (references (entering q ∷ ss))
    here_listed w = rw w (inl refl)
listed q (entering z ∷ ss) (inr a) k = past (is kind.IdentifierReference z.node) (listed q ss a k)
  where
    past : (b : Bool) → Among (reference_at q) (references ss) → Among (reference_at q) (cons_option (cond b (Some (reference_at z)) None) (references ss))
    past true w = inr w
    past false w = w
listed q (opening z s ∷ ss) (inl i) k = absurd cc
listed q (opening z s ∷ ss) (inr a) k = listed q ss a k
listed q (header_ending z s ∷ ss) (inl i) k = absurd cc
listed q (header_ending z s ∷ ss) (inr a) k = listed q ss a k
listed q (closing z s ∷ ss) (inl i) k = absurd cc
listed q (closing z s ∷ ss) (inr a) k = listed q ss a k
listed q (leaving z ∷ ss) (inl i) k = absurd cc
listed q (leaving z ∷ ss) (inr a) k = listed q ss a k

entered_among : (q : Place) (ss : List Step) → IsEntered q ss → Among (entering q) ss
entered_among q [] a = absurd a
entered_among q (entering z ∷ ss) (inl i) = inl (ap entering i)
entered_among q (entering z ∷ ss) (inr a) = inr (entered_among q ss a)
entered_among q (opening z s ∷ ss) a = inr (entered_among q ss a)
entered_among q (header_ending z s ∷ ss) a = inr (entered_among q ss a)
entered_among q (closing z s ∷ ss) a = inr (entered_among q ss a)
entered_among q (leaving z ∷ ss) a = inr (entered_among q ss a)

module _ (p : Tree) where
  abbrev rs : List Occurrence
  rs = references (steps p)

  -- the entry of a reference
  entry_at : (n : ℕ) (r : Occurrence) → slice_get rs n ≡ Some r → slice_get (tables_of p).references n ≡ Some (entry_of (tie_for (run start (events (steps p))) (events (steps p)) n r))
  entry_at n r q =
      let final : State = run start (events (steps p)) in
      let ts : List Tie = ties final (events (steps p)) 0 rs in
      let at : slice_get ts n ≡ Some (tie_for final (events (steps p)) n r) = subst (λ k. slice_get ts n ≡ Some (tie_for final (events (steps p)) k r)) (zero-add n) (nth_tie final (events (steps p)) 0 rs n r q) in
      slice_get-map entry_of ts n ∙ ap (option_map entry_of) at

  -- what a node is tied to, by its number
  tied_by_number : (node n : ℕ) (t : Reference) → number_of (node_tables (steps p)).references node ≡ Some n → slice_get (tables_of p).references n ≡ Some t → tied_at (analysis_of p) node ≡ t.symbol_id
  tied_by_number node n t i j = rw (i, j) refl

  -- of a node that refers
  pub record IsReferred (q : Place) : Type 0 where
    pub number : ℕ
    pub entry : Reference
    pub reference : slice_get rs number ≡ Some (reference_at q)
    pub row : slice_get (tables_of p).references number ≡ Some entry
    pub tied : tied_at (analysis_of p) q.node.node_id ≡ entry.symbol_id

  of_map_among : (xs : List Occurrence) (r : Occurrence) → Among r xs → Among r.node (map node_of xs)
  of_map_among [] r a = absurd a
  of_map_among (y ∷ xs) r (inl e) = inl (ap node_of e)
  of_map_among (y ∷ xs) r (inr a) = inr (of_map_among xs r a)

  pub is_referred : IsNumbered p.root → (q : Place) → Among (entering q) (steps p) → is kind.IdentifierReference q.node ≡ true → IsReferred q
  is_referred numbered q a k =
      let w : HasNumber (map node_of rs) q.node.node_id 0 = has_number (map node_of rs) q.node.node_id 0 (of_map_among rs (reference_at q) (listed q (steps p) a k)) in
      let (r, at, same) = there_too rs w.position q.node.node_id w.there in
      let read : ReadAt r (steps p) = read_at r (steps p) (among_at rs w.position r at) in
      let place : read.place ≡ q = entered_once p numbered read.place q (entered_among read.place (steps p) read.entered) a (ap node_of read.is_it ∙ same) in
      let is_q : r ≡ reference_at q = sym read.is_it ∙ ap reference_at place in
      let t : Reference = entry_of (tie_for (run start (events (steps p))) (events (steps p)) w.position r) in
      record {
        number = w.position;
        entry = t;
        reference = subst (λ z. slice_get rs w.position ≡ Some z) is_q at;
        row = entry_at w.position r at;
        tied = tied_by_number q.node.node_id w.position t (w.number ∙ ap Some (zero-add w.position)) (entry_at w.position r at);
      }
