-- In the tables of a program each reference stands exactly once, in a use list or in a free list.
use Rattle.std.proofs.Common.{◌≡◌, ℕ, suc, ◌+◌, ◌<◌, ◌≤◌, List, [], ◌∷◌, ◌++◌, length, Option, Some, None, Bool, true, false, cond, map, inl, inr, ◌⊎◌, refl, ap, sym, subst, arith}
use Rattle.std.specs.Prelude.{flat_map, filter}
use Rattle.semantic_syntax.specs.Tables.{Name}
use Rattle.semantic_tree.specs.Tree.{Tree}
use Rattle.semantic_model.specs.Place.{OpenScope}
use Rattle.semantic_model.specs.Step.{steps}
use Rattle.semantic_model.specs.Reference.{Occurrence, references}
use Rattle.semantic_model.specs.Binding.{get}
use Rattle.semantic_model.specs.Event.{Event, declares, takes_over, ends_header, events}
use Rattle.semantic_model.specs.Fold.{State, start}
use Rattle.semantic_model.specs.Hoist.{run}
use Rattle.semantic_syntax.specs.Lookup.{Seen, Asked, tied, barred, lookup, tied_by, or_lookup, fits, ends_after}
use Rattle.semantic_model.specs.Tie.{Tie, ties, view, view_by, seen_as, answer, answers, is_end_of, until_end_of, symbol_by, tied_symbol, settled_at, in_order, moment, is_at, is_last}
use Rattle.semantic_model.specs.TablesOf.{tables_of}
use Rattle.semantic_model.proofs.steps.Compose.{run-append}
use Rattle.semantic_model.proofs.once.UseLists.{IsBelow, lists_hold}
use Rattle.semantic_model.proofs.lists.Bounds.{Bounded, Grows, more_below, get_below}
use Rattle.semantic_model.proofs.lists.Growth.{run_grows, start_is_sound}
use Rattle.semantic_model.proofs.once.SettledOnce.{settled_once}
use Rattle.semantic_model.specs.Entries.{Among, times_in_all}

-- the events from the end of the header on
abbrev pub from_end_of : ℕ → List Event → List Event
from_end_of c [] = []
from_end_of c (e ∷ es) = cond (is_end_of c e) (e ∷ es) (from_end_of c es)

pub split : (c : ℕ) (es : List Event) → until_end_of c es ++ from_end_of c es ≡ es
split c [] = refl
split c (e ∷ es) = by (is_end_of c e) (split c es)
  where
    by : (b : Bool) → until_end_of c es ++ from_end_of c es ≡ es → cond b [] (e ∷ until_end_of c es) ++ cond b (e ∷ es) (from_end_of c es) ≡ e ∷ es
    by true h = refl
    by false h = λ i. e ∷ h i

-- an earlier state has no more symbols
earlier : (c : ℕ) (es : List Event) → length (run start (until_end_of c es)).symbols ≤ length (run start es).symbols
earlier c es =
    let st : State = run start (until_end_of c es) in
    let g : Grows st (run st (from_end_of c es)) = run_grows st (from_end_of c es) (run_grows start (until_end_of c es) start_is_sound).sound in
    subst (λ x. length st.symbols ≤ length x.symbols) (ap (run start) (split c es)) (subst (λ x. length st.symbols ≤ length x.symbols) (sym (run-append (until_end_of c es) (from_end_of c es) start)) g.longer)

pub view_bounded : (es : List Event) (b : Bool) (c : ℕ) → Bounded (length (run start es).symbols) (view_by b (run start es) es c)
view_bounded es true c =
    let st : State = run start (until_end_of c es) in
    let g : Grows start st = run_grows start (until_end_of c es) start_is_sound in
    record {
      bindings = more_below (length st.symbols) (length (run start es).symbols) st.bindings (earlier c es) g.sound.bindings;
      remembered = more_below (length st.symbols) (length (run start es).symbols) st.remembered (earlier c es) g.sound.remembered;
    }
view_bounded es false c = (run_grows start es start_is_sound).sound

abbrev IsSeenBelow : ℕ → Option Seen → Type 0
IsSeenBelow k None = Unit {0}
IsSeenBelow k (Some s) = s.symbol < k

abbrev AllAskedBelow : ℕ → List Asked → Type 0
AllAskedBelow k [] = Unit {0}
AllAskedBelow k (a ∷ more) = IsSeenBelow k a.bound × AllAskedBelow k more

seen_below : (k : ℕ) (st : State) (o : Option ℕ) → IsBelow k o → IsSeenBelow k (seen_as st o)
seen_below k st None h = tt
seen_below k st (Some s) h = h

answers_below : (es : List Event) (x : Name) (chain : List OpenScope) → AllAskedBelow (length (run start es).symbols) (map (answer (run start es) es x) chain)
answers_below es x [] = tt
answers_below es x (s ∷ ss) =
    let k : ℕ = length (run start es).symbols in
    let st : State = view (run start es) es s in
    (seen_below k st (get st.bindings s.number x) (get_below k st.bindings s.number x (view_bounded es s.in_header s.number).bindings), answers_below es x ss)

lookup_below : (k : ℕ) (x : Name) (w : ℕ) (asks : List Asked) → AllAskedBelow k asks → IsBelow k (symbol_by (lookup x w asks))
lookup_below k x w [] h = tt
lookup_below k x w (a ∷ more) h = bound a.bound h.0 (lookup_below k x w more h.1)
  where
    ending : (b : Bool) → IsBelow k (symbol_by (lookup x w more)) → IsBelow k (symbol_by (cond b (barred a.scope) (lookup x w more)))
    ending true l = tt
    ending false l = l

    fitting : (s : Seen) (b : Bool) → s.symbol < k → IsBelow k (symbol_by (lookup x w more)) → IsBelow k (symbol_by (or_lookup (cond b (Some (tied a.scope s.symbol s.flags)) None) (cond (ends_after x w a.flags) (barred a.scope) (lookup x w more))))
    fitting s true h l = h
    fitting s false h l = ending (ends_after x w a.flags) l

    bound : (o : Option Seen) → IsSeenBelow k o → IsBelow k (symbol_by (lookup x w more)) → IsBelow k (symbol_by (or_lookup (tied_by x w a.scope o) (cond (ends_after x w a.flags) (barred a.scope) (lookup x w more))))
    bound None h l = ending (ends_after x w a.flags) l
    bound (Some s) h l = fitting s (fits x w s.flags) h l

-- the symbol of each tie exists
pub ties_below : (es : List Event) (m : ℕ) (rs : List Occurrence) (t : Tie) → Among t (ties (run start es) es m rs) → IsBelow (length (run start es).symbols) (tied_symbol t)
ties_below es m [] t h = absurd h
ties_below es m (r ∷ rs) t (inl e) =
    subst (λ x. IsBelow (length (run start es).symbols) (tied_symbol x)) e
    (lookup_below (length (run start es).symbols) r.name r.way (answers (run start es) es r) (answers_below es r.name r.chain))
ties_below es m (r ∷ rs) t (inr h) = ties_below es (suc m) rs t h

among-append : (t : Tie) (xs ys : List Tie) → Among t (xs ++ ys) → Among t xs ⊎ Among t ys
among-append t [] ys h = inr h
among-append t (x ∷ xs) ys (inl e) = inl (inl e)
among-append t (x ∷ xs) ys (inr h) = elim (among-append t xs ys h) [ inl l ↦ inl (inr l) | inr l ↦ inr l ]

among_filter : (f : Tie → Bool) (t : Tie) (ts : List Tie) → Among t (filter f ts) → Among t ts
among_filter f t [] h = absurd h
among_filter f t (x ∷ xs) h = by (f x) h (among_filter f t xs)
  where
    by : (b : Bool) → Among t (cond b (x ∷ filter f xs) (filter f xs)) → (Among t (filter f xs) → Among t xs) → (x ≡ t) ⊎ Among t xs
    by true (inl e) more = inl e
    by true (inr h) more = inr (more h)
    by false h more = inr (more h)

among_settled : (t : Tie) (ts : List Tie) (es : List Event) → Among t (flat_map (settled_at ts) es) → Among t ts
among_settled t ts [] h = absurd h
among_settled t ts (declares d ∷ es) h = among_settled t ts es h
among_settled t ts (takes_over c b ∷ es) h = among_settled t ts es h
among_settled t ts (ends_header c ∷ es) h =
    elim (among-append t (settled_at ts (ends_header c)) (flat_map (settled_at ts) es) h) [
      | inl l ↦ among_filter (λ x. is_at c (moment x)) t ts l
      | inr l ↦ among_settled t ts es l
    ]

pub among_order : (t : Tie) (es : List Event) (ts : List Tie) → Among t (in_order es ts) → Among t ts
among_order t es ts h =
    elim (among-append t (flat_map (settled_at ts) es) (filter (λ x. is_last (moment x)) ts) h) [
      | inl l ↦ among_settled t ts es l
      | inr l ↦ among_filter (λ x. is_last (moment x)) t ts l
    ]

-- each reference of a program stands exactly once in all lists of its tables
pub references_stand_once : (program : Tree) (n : ℕ) → n < length (references (steps program)) → times_in_all n (tables_of program).uses + times_in_all n (map (λ f. f.1) (tables_of program).free) ≡ 1
references_stand_once program n h =
    let es : List Event = events (steps program) in
    let final : State = run start es in
    let ts : List Tie = ties final es 0 (references (steps program)) in
    omega (
      arith,
      lists_hold n (length final.symbols) (in_order es ts) (λ t at. ties_below es 0 (references (steps program)) t (among_order t es ts at)),
      settled_once program final n h,
    )
