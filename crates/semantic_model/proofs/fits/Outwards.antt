-- Outside headers a reference is tied to the first usable binding outward over the final bindings.
use Rattle.std.proofs.Common.{◌≡◌, ℕ, zero, suc, ◌+◌, ◌<◌, List, [], ◌∷◌, length, map, Option, Some, None, Bool, true, false, cond, ◌&&◌, inl, inr, refl, sym, ap, subst, ◌∙◌, arith, bytes_eq, codes, zero-add, slice_index_or}
use Rattle.std.specs.Prelude.{filter_map, slice_get}
use Rattle.std.specs.List.{range_with_len}
use Rattle.std.specs.Map.{lookup as lookup_in}
use Rattle.std.proofs.lemmas.Option.{slice_get_within}
use Rattle.std.proofs.lemmas.Bool.Decides.{eqb_tells}
use Rattle.semantic_syntax.specs.Usable.{is_usable}
use Rattle.semantic_syntax.specs.Tables.{Name, Symbol}
use Rattle.semantic_syntax.specs.Reading.{no_symbol, bound_in}
use Rattle.semantic_tree.specs.Tree.{Tree}
use Rattle.semantic_model.specs.Entries.{Among}
use Rattle.semantic_model.specs.Place.{Place, OpenScope}
use Rattle.semantic_model.specs.Step.{Step, entering, opening, header_ending, closing, leaving, steps}
use Rattle.semantic_model.specs.Reference.{Occurrence, references}
use Rattle.semantic_model.specs.Binding.{Binding, get, bound_by}
use Rattle.semantic_model.specs.Event.{events}
use Rattle.semantic_model.specs.Fold.{State, start, flags_of, flags_or_none}
use Rattle.semantic_model.specs.Hoist.{run}
use Rattle.semantic_syntax.specs.Lookup.{Lookup, tied, barred, lookup, tied_by, or_lookup, is_arguments, fits, ends_after}
use Rattle.semantic_model.specs.Tie.{seen_as, answer, symbol_by}
use Rattle.semantic_model.specs.TablesOf.{tables_of, scopes, opened_entry, evals}
use Rattle.semantic_model.specs.Outward.{usable_or, first_outward}
use Rattle.semantic_model.specs.Fits.{InNoHeader, TieOutward}
use Rattle.semantic_model.proofs.once.ListedUnder.{name_tells}
use Rattle.semantic_model.proofs.once.SettledOnce.{Stands, reference_stands}
use Rattle.semantic_model.proofs.once.HeadersEndOnce.{IsEntered}
use Rattle.semantic_model.proofs.lists.Members.{among_at}
use Rattle.semantic_model.proofs.fold.BodyChains.{AllInTable, AllStepsIn}
use Rattle.semantic_model.proofs.fold.Orders.{HasForm, table_of, bodies, steps_in}
use Rattle.semantic_model.proofs.once.ReferencesStand.{entry_is}

-- what a scope binds, by its list
pub lookup-bound_by : (bs : List Binding) (c : ℕ) (x : Name) → lookup_in (bytes_eq x) (bound_by bs c) ≡ get bs c x
lookup-bound_by [] c x = refl
lookup-bound_by (b ∷ bs) c x = grind (arith, lookup-bound_by bs c x, eqb_tells b.scope c, name_tells b.name x, name_tells x b.name)

-- a symbol's flags, by its row
pub flags_at : (ys : List Symbol) (n : ℕ) → (slice_index_or ys n no_symbol).flags.bits ≡ flags_or_none (slice_get ys n)
flags_at [] n = refl
flags_at (y ∷ ys) zero = refl
flags_at (y ∷ ys) (suc n) = flags_at ys n

list_of : (bs : List Binding) (i k c : ℕ) → c < k → slice_index_or (map (bound_by bs) (range_with_len i k)) c [] ≡ bound_by bs (i + c)
list_of bs i zero c h = absurd (omega arith)
list_of bs i (suc k) zero h = ap (bound_by bs) (omega arith)
list_of bs i (suc k) (suc c) h = list_of bs (i + 1) k c (omega arith) ∙ ap (bound_by bs) (omega arith)

-- as many scopes as bodies
pub scopes_length : (calls : List (List ℕ)) (ss : List Step) → length (filter_map (opened_entry calls) ss) ≡ length (bodies ss)
scopes_length calls [] = refl
scopes_length calls (opening p s ∷ more) = omega (arith, scopes_length calls more)
scopes_length calls (entering p ∷ more) = scopes_length calls more
scopes_length calls (header_ending p s ∷ more) = scopes_length calls more
scopes_length calls (closing p s ∷ more) = scopes_length calls more
scopes_length calls (leaving p ∷ more) = scopes_length calls more

-- the bindings that the tables tell are those of the fold
pub bound_as : (p : Tree) (c : ℕ) (x : Name) → c < length (scopes (steps p)) → bound_in (tables_of p) c x ≡ get (run start (events (steps p))).bindings c x
bound_as p c x h =
    let bs : List Binding = (run start (events (steps p))).bindings in
    ap (lookup_in (bytes_eq x)) (list_of bs 0 (length (scopes (steps p))) c h ∙ ap (bound_by bs) (zero-add c)) ∙ lookup-bound_by bs c x

-- a scope of an entered place's chain is one of the program's
chain_of_entered : (table : List (Option ℕ)) (q : Place) (ss : List Step) → AllStepsIn table ss → IsEntered q ss → AllInTable table q.chain
chain_of_entered table q [] h e = absurd e
chain_of_entered table q (entering p ∷ more) h (inl e) = subst (λ x. AllInTable table x.chain) e h.0
chain_of_entered table q (entering p ∷ more) h (inr e) = chain_of_entered table q more h.1 e
chain_of_entered table q (opening p s ∷ more) h e = chain_of_entered table q more h.1 e
chain_of_entered table q (header_ending p s ∷ more) h e = chain_of_entered table q more h.1 e
chain_of_entered table q (closing p s ∷ more) h e = chain_of_entered table q more h.1 e
chain_of_entered table q (leaving p ∷ more) h e = chain_of_entered table q more h.1 e

pub reference_chain : (p : Tree) (r : Occurrence) → HasForm p → Among r (references (steps p)) → AllInTable (table_of p) r.chain
reference_chain p r f a =
    let w : Stands r (steps p) = reference_stands r (steps p) a in
    subst (AllInTable (table_of p)) (sym w.chain) (chain_of_entered (table_of p) w.place (steps p) (steps_in p f) w.entered)

not_arguments : (x : Name) (w : ℕ) → bytes_eq x (codes "arguments") ≡ false → is_arguments x w ≡ false
not_arguments x w e = rw e refl

fits_usable : (x : Name) (w flags : ℕ) → is_arguments x w ≡ false → fits x w flags ≡ is_usable w flags
fits_usable x w flags e = rw e (elim (is_usable w flags) as (λ b. (b && true) ≡ b) [ true ↦ refl | false ↦ refl ])

module _ (p : Tree) where
  abbrev end : State
  end = run start (events (steps p))

  -- one scope of the look-up
  one_scope : (x : Name) (w c : ℕ) (flags : ℕ) (o : Option ℕ) (later : Lookup) (later' : Option ℕ) → is_arguments x w ≡ false → symbol_by later ≡ later' → symbol_by (or_lookup (tied_by x w c (seen_as end o)) (cond (ends_after x w flags) (barred c) later)) ≡ usable_or (tables_of p) w o later'
  one_scope x w c flags None later later' a e = rw a e
  one_scope x w c flags (Some s) later later' a e = rw (flags_at end.symbols s, fits_usable x w (flags_of end s) a) (go (is_usable w (flags_of end s)))
    where
      go : (b : Bool) → symbol_by (or_lookup (cond b (Some (tied c s (flags_of end s))) None) (cond (ends_after x w flags) (barred c) later)) ≡ cond b (Some s) later'
      go true = refl
      go false = rw a e

  outward : (x : Name) (w : ℕ) (chain : List OpenScope) → is_arguments x w ≡ false → InNoHeader chain → AllInTable (table_of p) chain → symbol_by (lookup x w (map (answer end (events (steps p)) x) chain)) ≡ first_outward (tables_of p) (map (λ s. s.number) chain) x w
  outward x w [] a h t = refl
  outward x w (s ∷ ss) a h t =
      let below : s.number < length (scopes (steps p)) = omega (arith, slice_get_within (table_of p) s.number s.body t.0.entry, scopes_length (evals (steps p)) (steps p)) in
      rw (h.0, bound_as p s.number x below)
      (one_scope x w s.number s.flags (get end.bindings s.number x) (lookup x w (map (answer end (events (steps p)) x) ss)) (first_outward (tables_of p) (map (λ c. c.number) ss) x w) a (outward x w ss a h.1 t.1))

  pub tie_outward : HasForm p → TieOutward (tables_of p) (references (steps p))
  tie_outward f = record {
    tied = λ n r e h k i j. sym (entry_is p n r e h k) ∙ outward r.name r.way r.chain (not_arguments r.name r.way j) i (reference_chain p r f (among_at (references (steps p)) n r h));
  }
