-- In a program of ECMAScript each reference is tied to what the nearest scope binds to its name.
use Rattle.std.proofs.Common.{◌≡◌, ℕ, ◌∷◌, [], List, Option, Some, None, Bool, true, false, cond, map, inl, inr, refl, sym, ap, subst, ◌∙◌, bytes_eq, codes}
use Rattle.std.specs.Prelude.{slice_get}
use Rattle.semantic_syntax.specs.Lookup.{Lookup, barred, lookup, tied_by, or_lookup, is_arguments, ends_after}
use Rattle.semantic_syntax.specs.Tables.{Name}
use Rattle.semantic_syntax.specs.Usable.{is_usable}
use Rattle.semantic_tree.specs.Faults.{first_fault}
use Rattle.semantic_tree.specs.Tree.{Tree}
use Rattle.semantic_model.specs.Binding.{get}
use Rattle.semantic_model.specs.Cursor.{way_or_read}
use Rattle.semantic_model.specs.EachStep.{EachStep}
use Rattle.semantic_model.specs.Event.{Event, declares, takes_over, ends_header, events, written_declarations}
use Rattle.semantic_model.specs.Fold.{State, start, flags_of, flags_or_none, or_else}
use Rattle.semantic_model.specs.Hoist.{act, run}
use Rattle.semantic_model.specs.Place.{Place, OpenScope}
use Rattle.semantic_model.specs.Reference.{references}
use Rattle.semantic_model.specs.Step.{Step, entering, opening, header_ending, closing, leaving, steps}
use Rattle.semantic_model.specs.Tie.{seen_as, answer, symbol_by, view, view_by, until_end_of, is_end_of}
use Rattle.semantic_model.proofs.fold.Changes.{Sound, Holds, HasName, sound_start}
use Rattle.semantic_model.proofs.fold.Orders.{HasForm, table_of, orderly_events, sound_program}
use Rattle.semantic_model.proofs.fold.TakeOvers.{Orderly, sound_run}
use Rattle.semantic_model.proofs.form.Shape.{has_form}
use Rattle.semantic_model.proofs.lists.BindingLaws.{get_among}
use Rattle.semantic_model.proofs.lists.Members.{among_at}
use Rattle.semantic_model.proofs.once.HeadersEndOnce.{IsEntered}
use Rattle.semantic_model.proofs.once.ReferencesStand.{entry_is}
use Rattle.binding_laws.proofs.ReferredNodes.{ReadAt, read_at}
use Rattle.language_ties.specs.EcmaScript.{is_ecmascript}
use Rattle.language_ties.specs.NearestScopes.{nearest_symbol, AreTiedNearest}
use Rattle.language_ties.proofs.shared.PlainNodes.{ecmascript_program}
use Rattle.language_ties.proofs.nearest.ValueSymbols.{IsValue, AllValues, value_at, AllDeclareValues, values_run, values_of_steps}
use Rattle.language_ties.proofs.nearest.ValueWays.{IsPlainCursor, empty, reads, writes, reads_and_writes, exports, reads_member, IsPlainAt, plain_program}

-- such a way fits a value
usable : (c flags : ℕ) → IsPlainCursor c → IsValue flags → is_usable (way_or_read c) flags ≡ true
usable _ flags empty v = rw v refl
usable _ flags reads v = rw v refl
usable _ flags writes v = rw v refl
usable _ flags reads_and_writes v = rw v refl
usable _ flags exports v = rw v refl
usable _ flags reads_member v = rw v refl

-- the place of an entered reference
plain_of_entered : (q : Place) (ss : List Step) → EachStep IsPlainAt ss → IsEntered q ss → IsPlainCursor q.cursor
plain_of_entered q [] h e = absurd e
plain_of_entered q (entering p ∷ more) h (inl e) = subst (λ x. IsPlainCursor x.cursor) e h.0
plain_of_entered q (entering p ∷ more) h (inr e) = plain_of_entered q more h.1 e
plain_of_entered q (opening p s ∷ more) h e = plain_of_entered q more h.1 e
plain_of_entered q (header_ending p s ∷ more) h e = plain_of_entered q more h.1 e
plain_of_entered q (closing p s ∷ more) h e = plain_of_entered q more h.1 e
plain_of_entered q (leaving p ∷ more) h e = plain_of_entered q more h.1 e

-- the events before the end of a header
orderly_until : (table : List (Option ℕ)) (c : ℕ) (st : State) (es : List Event) → Orderly table st es → Orderly table st (until_end_of c es)
orderly_until table c st [] h = tt
orderly_until table c st (e ∷ es) h = go (is_end_of c e) (orderly_until table c (act st e) es h.1)
  where
    go : (b : Bool) → Orderly table (act st e) (until_end_of c es) → Orderly table st (cond b [] (e ∷ until_end_of c es))
    go true k = tt
    go false k = (h.0, k)

values_until : (c : ℕ) (es : List Event) → AllDeclareValues es → AllDeclareValues (until_end_of c es)
values_until c [] h = tt
values_until c (declares d ∷ es) h = (h.0, values_until c es h.1)
values_until c (takes_over d b ∷ es) h = values_until c es h
values_until c (ends_header d ∷ es) h = go (is_end_of c (ends_header d)) (values_until c es h)
  where
    go : (b : Bool) → AllDeclareValues (until_end_of c es) → AllDeclareValues (cond b [] (ends_header d ∷ until_end_of c es))
    go true k = tt
    go false k = k

module _ (p : Tree) (h : first_fault p ≡ None) (e : is_ecmascript p ≡ true) where
  abbrev f : HasForm p
  f = has_form p h

  abbrev table : List (Option ℕ)
  table = table_of p

  abbrev es : List Event
  es = events (steps p)

  abbrev final : State
  final = run start es

  values : AllDeclareValues es
  values = values_of_steps (written_declarations (steps p)) (steps p) (ecmascript_program p h f.root e)

  -- what is bound in a state is a value
  bound_value : (st : State) → Sound table st → AllValues st.symbols → (c s : ℕ) (x : Name) → get st.bindings c x ≡ Some s → IsValue (flags_of st s)
  bound_value st sound all c s x g =
      let w : Holds table st.made c x s = sound.bound (record { scope = c; name = x; symbol = s }) (get_among st.bindings c x s g) in
      let n : HasName st.symbols w.made.symbol w.made.declaration.naming.name = sound.has_name w.made w.among in
      let at : slice_get st.symbols s ≡ Some n.symbol = subst (λ r. slice_get st.symbols r ≡ Some n.symbol) w.symbol n.is_there in
      subst (λ o. IsValue (flags_or_none o)) (sym at) (value_at st.symbols s n.symbol all at)

  seen_value : (b : Bool) (c s : ℕ) (x : Name) → get (view_by b final es c).bindings c x ≡ Some s → IsValue (flags_of (view_by b final es c) s)
  seen_value false c s x g = bound_value final (sound_program p f) (values_run start es values tt) c s x g
  seen_value true c s x g = bound_value (run start (until_end_of c es)) (sound_run table start (until_end_of c es) (orderly_until table c start es (orderly_events p f)) (sound_start table)) (values_run start (until_end_of c es) (values_until c es values) tt) c s x g

  -- one scope of the look-up
  one_scope : (st : State) (x : Name) (cursor c flags : ℕ) (o : Option ℕ) (later : Lookup) (later' : Option ℕ) → IsPlainCursor cursor → is_arguments x (way_or_read cursor) ≡ false → ((s : ℕ) → o ≡ Some s → IsValue (flags_of st s)) → symbol_by later ≡ later'
      → symbol_by (or_lookup (tied_by x (way_or_read cursor) c (seen_as st o)) (cond (ends_after x (way_or_read cursor) flags) (barred c) later)) ≡ or_else o later'
  one_scope st x cursor c flags None later later' k a v q = rw a q
  one_scope st x cursor c flags (Some s) later later' k a v q = rw (a, usable cursor (flags_of st s) k (v s refl)) refl

  nearest : (x : Name) (cursor : ℕ) (chain : List OpenScope) → IsPlainCursor cursor → is_arguments x (way_or_read cursor) ≡ false → symbol_by (lookup x (way_or_read cursor) (map (answer final es x) chain)) ≡ nearest_symbol final es x chain
  nearest x cursor [] k a = refl
  nearest x cursor (s ∷ ss) k a =
      one_scope (view final es s) x cursor s.number s.flags (get (view final es s).bindings s.number x) (lookup x (way_or_read cursor) (map (answer final es x) ss)) (nearest_symbol final es x ss) k a
      (λ r g. seen_value s.in_header s.number r x g) (nearest x cursor ss k a)

  not_arguments : (x : Name) (w : ℕ) → bytes_eq x (codes "arguments") ≡ false → is_arguments x w ≡ false
  not_arguments x w q = rw q refl

  pub tied_nearest : AreTiedNearest p
  tied_nearest n r t i j k =
      let w : ReadAt r (steps p) = read_at r (steps p) (among_at (references (steps p)) n r i) in
      let plain : IsPlainCursor w.place.cursor = plain_of_entered w.place (steps p) (plain_program p h f.root e) w.entered in
      sym (entry_is p n r t i j)
      ∙ subst (λ v. symbol_by (lookup r.name v (map (answer final es r.name) r.chain)) ≡ nearest_symbol final es r.name r.chain) (ap (λ o. o.way) w.is_it)
      (nearest r.name w.place.cursor r.chain plain (not_arguments r.name (way_or_read w.place.cursor) k))
