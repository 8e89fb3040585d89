-- The symbol of a tied reference has the reference's name.
use Rattle.std.proofs.Common.{◌≡◌, ℕ, List, [], ◌∷◌, ◌++◌, Option, Some, None, Bool, true, false, cond, refl, sym, ap, subst, subst₂, ◌∙◌, map}
use Rattle.std.specs.Prelude.{slice_get}
use Rattle.semantic_syntax.specs.Tables.{Name, Symbol}
use Rattle.semantic_model.specs.Entries.{Among}
use Rattle.semantic_model.specs.Binding.{get}
use Rattle.semantic_model.specs.Place.{OpenScope}
use Rattle.semantic_model.specs.Event.{Event, declares, takes_over, ends_header}
use Rattle.semantic_model.specs.Fold.{State, Made, start}
use Rattle.semantic_model.specs.Hoist.{act, run}
use Rattle.semantic_syntax.specs.Lookup.{Seen, Asked, tied, barred, lookup, tied_by, or_lookup, fits, ends_after}
use Rattle.semantic_model.specs.Tie.{view, view_by, seen_as, answer, until_end_of, symbol_by}
use Rattle.semantic_model.proofs.lists.Members.{among_left}
use Rattle.semantic_model.proofs.lists.BindingLaws.{get_among}
use Rattle.semantic_model.proofs.steps.Compose.{run-append}
use Rattle.semantic_model.proofs.fold.Changes.{Holds, HasName, sound_start}
use Rattle.semantic_model.proofs.fold.TakeOvers.{Orderly, sound_run}
use Rattle.semantic_model.proofs.fold.Orders.{Adds, adds}
use Rattle.semantic_model.proofs.once.StandOnce.{split, from_end_of}

pub orderly_left : (table : List (Option ℕ)) (st : State) (es fs : List Event) → Orderly table st (es ++ fs) → Orderly table st es
orderly_left table st [] fs r = tt
orderly_left table st (e ∷ es) fs r = (r.0, orderly_left table (act st e) es fs r.1)

pub orderly_right : (table : List (Option ℕ)) (st : State) (es fs : List Event) → Orderly table st (es ++ fs) → Orderly table (run st es) fs
orderly_right table st [] fs r = r
orderly_right table st (e ∷ es) fs r = orderly_right table (act st e) es fs r.1

made_stays : (m : Made) (st : State) (e : Event) → Among m st.made → Among m (act st e).made
made_stays m st (declares d) a = let w : Adds st.made d (act st (declares d)).made = adds st d in
    subst (Among m) (sym w.adds) (among_left m st.made (record { declaration = d; symbol = w.symbol } ∷ []) a)
made_stays m st (takes_over c b) a = a
made_stays m st (ends_header c) a = a

-- what was made stays made
pub made_kept : (m : Made) (st : State) (es : List Event) → Among m st.made → Among m (run st es).made
made_kept m st [] a = a
made_kept m st (e ∷ es) a = made_kept m (act st e) es (made_stays m st e a)

-- a symbol with its declaration among those of a state
record IsMade (st : State) (x : Name) (s : ℕ) : Type 0 where
  made : Made
  among : Among made st.made
  named : made.declaration.naming.name ≡ x
  symbol : made.symbol ≡ s

-- what a state saw before the end of a header was made in the end
seen_made : (table : List (Option ℕ)) (es : List Event) (b : Bool) (c n : ℕ) (x : Name) (s : ℕ) → Orderly table start es → get (view_by b (run start es) es n).bindings c x ≡ Some s → IsMade (run start es) x s
seen_made table es true c n x s o e =
    let gs : List Event = until_end_of n es in
    let fs : List Event = from_end_of n es in
    let st : State = run start gs in
    let q : Orderly table start (gs ++ fs) = subst (Orderly table start) (sym (split n es)) o in
    let h : Holds table st.made c x s = (sound_run table start gs (orderly_left table start gs fs q) (sound_start table)).bound (record { scope = c; name = x; symbol = s }) (get_among st.bindings c x s e) in
    record {
      made = h.made;
      among = subst (λ es'. Among h.made (run start es').made) (split n es) (subst (λ st'. Among h.made st'.made) (sym (run-append gs fs start)) (made_kept h.made st fs h.among));
      named = h.named;
      symbol = h.symbol;
    }
seen_made table es false c n x s o e =
    let h : Holds table (run start es).made c x s = (sound_run table start es o (sound_start table)).bound (record { scope = c; name = x; symbol = s }) (get_among (run start es).bindings c x s e) in
    record { made = h.made; among = h.among; named = h.named; symbol = h.symbol }

abbrev SeenMade : State → Name → Option Seen → Type 0
SeenMade final x None = Unit {0}
SeenMade final x (Some s) = IsMade final x s.symbol

abbrev AllSeen : State → Name → List Asked → Type 0
AllSeen final x [] = Unit {0}
AllSeen final x (a ∷ more) = SeenMade final x a.bound × AllSeen final x more

abbrev Ties : State → Name → Option ℕ → Type 0
Ties final x None = Unit {0}
Ties final x (Some s) = IsMade final x s

seen_by : (final st : State) (x : Name) (o : Option ℕ) → ((s : ℕ) → o ≡ Some s → IsMade final x s) → SeenMade final x (seen_as st o)
seen_by final st x None h = tt
seen_by final st x (Some s) h = h s refl

answers_made : (table : List (Option ℕ)) (es : List Event) (x : Name) (chain : List OpenScope) → Orderly table start es → AllSeen (run start es) x (map (answer (run start es) es x) chain)
answers_made table es x [] o = tt
answers_made table es x (c ∷ cs) o =
    (seen_by (run start es) (view (run start es) es c) x (get (view (run start es) es c).bindings c.number x) (λ s e. seen_made table es c.in_header c.number c.number x s o e), answers_made table es x cs o)

lookup_made : (final : State) (x : Name) (w : ℕ) (asks : List Asked) → AllSeen final x asks → Ties final x (symbol_by (lookup x w asks))
lookup_made final x w [] h = tt
lookup_made final x w (a ∷ more) h = bound a.bound h.0 (lookup_made final x w more h.1)
  where
    ending : (b : Bool) → Ties final x (symbol_by (lookup x w more)) → Ties final x (symbol_by (cond b (barred a.scope) (lookup x w more)))
    ending true l = tt
    ending false l = l

    fitting : (s : Seen) (b : Bool) → IsMade final x s.symbol → Ties final x (symbol_by (lookup x w more)) → Ties final x (symbol_by (or_lookup (cond b (Some (tied a.scope s.symbol s.flags)) None) (cond (ends_after x w a.flags) (barred a.scope) (lookup x w more))))
    fitting s true h l = h
    fitting s false h l = ending (ends_after x w a.flags) l

    bound : (o : Option Seen) → SeenMade final x o → Ties final x (symbol_by (lookup x w more)) → Ties final x (symbol_by (or_lookup (tied_by x w a.scope o) (cond (ends_after x w a.flags) (barred a.scope) (lookup x w more))))
    bound None h l = ending (ends_after x w a.flags) l
    bound (Some s) h l = fitting s (fits x w s.flags) h l

-- the symbol that a lookup gives has the name in the end
pub tied_name : (table : List (Option ℕ)) (es : List Event) (x : Name) (w : ℕ) (chain : List OpenScope) (s : ℕ) (y : Symbol) → Orderly table start es → symbol_by (lookup x w (map (answer (run start es) es x) chain)) ≡ Some s → slice_get (run start es).symbols s ≡ Some y → y.name ≡ x
tied_name table es x w chain s y o e k =
    let m : IsMade (run start es) x s = subst (Ties (run start es) x) e (lookup_made (run start es) x w (map (answer (run start es) es x) chain) (answers_made table es x chain o)) in
    let n : HasName (run start es).symbols s x = subst₂ (λ (r : ℕ) (z : Name). HasName (run start es).symbols r z) m.symbol m.named ((sound_run table start es o (sound_start table)).has_name m.made m.among) in
    let q : Some n.symbol ≡ Some y = sym n.is_there ∙ k in
    let r : n.symbol ≡ y = cc in
    sym (ap (λ z. z.name) r) ∙ n.named
