-- The references of a program stand as its tables tell.
use Rattle.std.proofs.Common.{◌≡◌, ℕ, suc, ◌+◌, ◌<◌, ◌≤◌, List, [], ◌∷◌, length, map, Option, Some, None, inl, inr, refl, sym, ap, subst, ◌∙◌, arith, option_map, zero-add}
use Rattle.std.specs.Prelude.{slice_get}
use Rattle.std.proofs.lemmas.Option.{slice_get-map, slice_get_within}
use Rattle.std.proofs.lemmas.Bool.Decides.{eqb_tells}
use Rattle.semantic_syntax.specs.declared.references.Reference.{Reference}
use Rattle.semantic_tree.specs.Tree.{Tree}
use Rattle.semantic_model.specs.Entries.{Among, times, times_in_all, or_empty}
use Rattle.semantic_model.specs.Step.{steps}
use Rattle.semantic_model.specs.Reference.{Occurrence, references}
use Rattle.semantic_model.specs.Event.{Event, events}
use Rattle.semantic_model.specs.Fold.{State, start}
use Rattle.semantic_model.specs.Hoist.{run}
use Rattle.semantic_model.specs.Tie.{Tie, ties, tied_symbol, in_order}
use Rattle.semantic_model.specs.TablesOf.{tables_of, entry_of, uses_of}
use Rattle.semantic_model.specs.Fits.{StandsUnder, StandOnce}
use Rattle.semantic_model.proofs.lists.Members.{among_at}
use Rattle.semantic_model.proofs.once.HeadersEndOnce.{less_or}
use Rattle.semantic_model.proofs.fits.FitParts.{stands}
use Rattle.semantic_model.proofs.once.UseLists.{IsBelow, lists_hold}
use Rattle.semantic_model.proofs.once.SettledOnce.{tie_times, in_order_keeps, tie_reference, once, settled_once}
use Rattle.semantic_model.proofs.once.StandOnce.{references_stand_once, ties_below, among_order}
use Rattle.semantic_model.proofs.once.ListedUnder.{uses_times, free_times, nth_use, tie_for, nth_tie, tie_of_number}
use Rattle.semantic_model.proofs.once.TiedByName.{tied_name}
use Rattle.semantic_model.proofs.fold.Orders.{HasForm, table_of, orderly_events}

not_after : (n : ℕ) (final : State) (es : List Event) (m : ℕ) (rs : List Occurrence) → m + length rs ≤ n → tie_times n (ties final es m rs) ≡ 0
not_after n final es m [] h = refl
not_after n final es m (r ∷ rs) h = elim (eqb_tells m n) [
  | inl e ↦ absurd (omega (arith, e.1))
  | inr e ↦ rw e.0 (omega (arith, not_after n final es (suc m) rs (omega arith)))
]

module _ (p : Tree) where
  abbrev es : List Event
  es = events (steps p)

  abbrev final : State
  final = run start es

  abbrev rs : List Occurrence
  rs = references (steps p)

  abbrev ts : List Tie
  ts = ties final es 0 rs

  abbrev ordered : List Tie
  ordered = in_order es ts

  -- a tie in the order of settling with the number is the reference's
  ordered_tie : (n : ℕ) (r : Occurrence) (t : Tie) → slice_get rs n ≡ Some r → Among t ordered → t.number ≡ n → tie_for final es n r ≡ t
  ordered_tie n r t h a e = subst (λ k. tie_for final es k r ≡ t) (zero-add n) (tie_of_number final es 0 rs n r t h (among_order t es ts a) (omega (arith, e)))

  tie_at : (n : ℕ) (r : Occurrence) → slice_get rs n ≡ Some r → slice_get ts n ≡ Some (tie_for final es n r)
  tie_at n r h = subst (λ k. slice_get ts n ≡ Some (tie_for final es k r)) (zero-add n) (nth_tie final es 0 rs n r h)

  under_by : (n : ℕ) (r : Occurrence) (o : Option ℕ) → HasForm p → slice_get rs n ≡ Some r → n < length rs → tied_symbol (tie_for final es n r) ≡ o → StandsUnder (tables_of p) n r.name o
  under_by n r None f h l e =
      free_times n r.name ordered (λ t a k. let q : tie_for final es n r ≡ t = ordered_tie n r t h a k in (sym (ap tied_symbol q) ∙ e, sym (ap (λ x. x.reference.name) q)))
      ∙ settled_once p final n l
  under_by n r (Some s) f h l e = (
    ap (λ x. times n (or_empty x)) (nth_use ordered 0 (length final.symbols) s below)
        ∙ ap (λ i. times n (uses_of ordered i)) (zero-add s)
        ∙ uses_times n s ordered (λ t a k. sym (ap tied_symbol (ordered_tie n r t h a k)) ∙ e)
        ∙ settled_once p final n l,
    λ y k. tied_name (table_of p) es r.name r.way r.chain s y (orderly_events p f) e k,
  )
    where
      below : s < length final.symbols
      below = subst (IsBelow (length final.symbols)) e (ties_below es 0 rs (tie_for final es n r) (among_at ts n (tie_for final es n r) (tie_at n r h)))

  pub entry_is : (n : ℕ) (r : Occurrence) (e : Reference) → slice_get rs n ≡ Some r → slice_get (map entry_of ts) n ≡ Some e → tied_symbol (tie_for final es n r) ≡ e.symbol_id
  entry_is n r e h k =
      let q : Some (entry_of (tie_for final es n r)) ≡ Some e = sym (slice_get-map entry_of ts n ∙ ap (option_map entry_of) (tie_at n r h)) ∙ k in
      let w : entry_of (tie_for final es n r) ≡ e = cc in
      ap (λ x. x.symbol_id) w

  -- how often a number stands in all lists
  in_lists : (n : ℕ) → times_in_all n (tables_of p).uses + times_in_all n (map (λ f. f.1) (tables_of p).free) ≡ tie_times n ts
  in_lists n =
      omega (
        arith,
        lists_hold n (length final.symbols) ordered (λ t a. ties_below es 0 rs t (among_order t es ts a)),
        in_order_keeps n es ts (λ t a. once p t (tie_reference final es 0 rs t a)),
      )

  within : (n : ℕ) → 0 < tie_times n ts → n < length rs
  within n h = elim (less_or n (length rs)) [ inl l ↦ l | inr l ↦ absurd (let q : tie_times n ts ≡ 0 = not_after n final es 0 rs (omega (arith, l)) in omega arith) ]

  pub stand_once : HasForm p → StandOnce (tables_of p) rs
  stand_once f = record {
    same = stands final es 0 rs;
    once = λ n h. references_stand_once p n h;
    under = λ n r e h k. subst (StandsUnder (tables_of p) n r.name) (entry_is n r e h k) (under_by n r (tied_symbol (tie_for final es n r)) f h (slice_get_within rs n r h) refl);
    nothing_else = λ n h. within n (omega (arith, in_lists n, h));
  }
