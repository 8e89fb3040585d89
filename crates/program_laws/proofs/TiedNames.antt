-- Ties and declarations have the names of their symbols.
use Rattle.std.proofs.Common.{◌≡◌, ℕ, zero, suc, ◌<◌, List, [], ◌∷◌, Some, length, refl, sym, ap, subst, ◌∙◌, inl, inr, arith, zero-add}
use Rattle.std.specs.Prelude.{slice_get}
use Rattle.semantic_tree.specs.Tree.{Tree}
use Rattle.semantic_model.specs.Entries.{Among}
use Rattle.semantic_model.specs.Event.{Event, events}
use Rattle.semantic_model.specs.Fold.{State, start}
use Rattle.semantic_model.specs.Hoist.{run}
use Rattle.semantic_syntax.specs.Lookup.{lookup}
use Rattle.semantic_model.specs.Reference.{Occurrence, references}
use Rattle.semantic_model.specs.Step.{steps}
use Rattle.semantic_model.specs.TablesOf.{tables_of}
use Rattle.semantic_model.specs.Tie.{Tie, ties, answers, tied_symbol, symbol_by}
use Rattle.semantic_model.proofs.fold.Changes.{HasName}
use Rattle.semantic_model.proofs.once.UseLists.{IsBelow}
use Rattle.semantic_model.proofs.lists.Members.{among_at}
use Rattle.semantic_model.proofs.once.TiedByName.{tied_name}
use Rattle.semantic_model.proofs.fold.Orders.{HasForm, table_of, orderly_events, sound_program}
use Rattle.semantic_model.proofs.once.StandOnce.{ties_below}
use Rattle.semantic_model.proofs.once.ReferencesStand.{entry_is}
use Rattle.semantic_model.proofs.once.ListedUnder.{tie_for, nth_tie}
use Rattle.program_laws.specs.SymbolNames.{IsNamed, TiesHaveNames, DeclarationsHaveNames}

-- below the length there is an entry
entry_below : {A : Type 0} → (xs : List A) (n : ℕ) → n < length xs → (x : A) × (slice_get xs n ≡ Some x)
entry_below [] n h = absurd (omega (arith, h))
entry_below (x ∷ xs) zero h = (x, refl)
entry_below (x ∷ xs) (suc n) h = entry_below xs n (omega (arith, h))

-- a tie is by the lookup of its reference
looked_up : (final : State) (es : List Event) (m : ℕ) (rs : List Occurrence) (t : Tie) → Among t (ties final es m rs) → t.lookup ≡ lookup t.reference.name t.reference.way (answers final es t.reference)
looked_up final es m [] t a = absurd a
looked_up final es m (r ∷ rs) t (inl e) = subst (λ (x : Tie). x.lookup ≡ lookup x.reference.name x.reference.way (answers final es x.reference)) e refl
looked_up final es m (r ∷ rs) t (inr a) = looked_up final es (suc m) rs t a

module _ (p : Tree) where
  abbrev es : List Event
  es = events (steps p)

  abbrev final : State
  final = run start es

  abbrev pub all_ties : List Tie
  all_ties = ties final es 0 (references (steps p))

  pub tie_named : HasForm p → (t : Tie) (s : ℕ) → Among t all_ties → tied_symbol t ≡ Some s → IsNamed (tables_of p) s t.reference.name
  tie_named f t s a e =
      let below : s < length final.symbols = subst (IsBelow (length final.symbols)) e (ties_below es 0 (references (steps p)) t a) in
      let (y, there) = entry_below final.symbols s below in
      let r : Occurrence = t.reference in
      record {
        symbol = y;
        is_there = there;
        named = tied_name (table_of p) es r.name r.way r.chain s y (orderly_events p f) (ap symbol_by (sym (looked_up final es 0 (references (steps p)) t a)) ∙ e) there;
      }

  pub ties_have_names : HasForm p → TiesHaveNames p
  ties_have_names f n s r e h k q =
      let t : Tie = tie_for final es n r in
      let at : slice_get all_ties n ≡ Some t = subst (λ i. slice_get all_ties n ≡ Some (tie_for final es i r)) (zero-add n) (nth_tie final es 0 (references (steps p)) n r h) in
      tie_named f t s (among_at all_ties n t at) (entry_is p n r e h k ∙ q)

  pub declarations_have_names : HasForm p → DeclarationsHaveNames p
  declarations_have_names f m a =
      let n : HasName final.symbols m.symbol m.declaration.naming.name = (sound_program p f).has_name m a in
      record { symbol = n.symbol; is_there = n.is_there; named = n.named }
