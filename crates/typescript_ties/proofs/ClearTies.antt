-- References of a name whose declarations keep clear are tied to the first scope outward whose declarations together fit, be it a clause round its body.
use Rattle.std.proofs.Common.{◌≡◌, ℕ, ◌<◌, List, [], ◌∷◌, Option, Some, None, Bool, true, false, cond, refl, sym, ap, subst, ◌∙◌, map, filter, option_map, length, arith, inl, inr, ◌⊎◌, ◌==◌, bytes_eq}
use Rattle.std.specs.Prelude.{slice_get}
use Rattle.std.proofs.lemmas.Bool.{and_left, and_right}
use Rattle.std.proofs.lemmas.Bool.Decides.{eqb_tells}
use Rattle.std.proofs.lemmas.Option.{slice_get_within}
use Rattle.semantic_syntax.specs.Lookup.{Seen, Asked, tied, barred, is_arguments, fits, ends_after, tied_by, or_lookup, lookup}
use Rattle.semantic_syntax.specs.declared.references.Reference.{Reference}
use Rattle.semantic_syntax.specs.Tables.{Name}
use Rattle.semantic_tree.specs.Faults.{first_fault}
use Rattle.semantic_tree.specs.Tree.{Tree, IsNumbered}
use Rattle.semantic_model.specs.Binding.{get}
use Rattle.semantic_model.specs.Declaration.{Declaration}
use Rattle.semantic_model.specs.Entries.{Among}
use Rattle.semantic_model.specs.Event.{Event, declares, takes_over, ends_header, events, declarations, written_declarations}
use Rattle.semantic_model.specs.Fold.{State, Made, start, or_else}
use Rattle.semantic_model.specs.Hoist.{run}
use Rattle.semantic_model.specs.Place.{OpenScope}
use Rattle.semantic_model.specs.Reference.{Occurrence, references}
use Rattle.semantic_model.specs.Step.{steps}
use Rattle.semantic_model.specs.TablesOf.{tables_of, scopes, evals, made_of}
use Rattle.semantic_model.specs.Tie.{seen_as, symbol_by}
use Rattle.semantic_model.proofs.bindings.NearestVar.{nearest, nearest_root, places_near}
use Rattle.semantic_model.proofs.bindings.VarTargets.{AllEventsLed, events_led}
use Rattle.semantic_model.proofs.fits.Outwards.{bound_as, flags_at, scopes_length, reference_chain}
use Rattle.semantic_model.proofs.fold.BodyChains.{InTable, AllInTable}
use Rattle.semantic_model.proofs.fold.Changes.{sound_start}
use Rattle.semantic_model.proofs.fold.Declared.{AllEventsIn}
use Rattle.semantic_model.proofs.fold.Orders.{HasForm, table_of, root_body, steps_in, events_in, orderly_events}
use Rattle.semantic_model.proofs.form.Shape.{has_form}
use Rattle.semantic_model.proofs.lists.Members.{among_at}
use Rattle.semantic_model.proofs.once.ListedUnder.{name_tells}
use Rattle.binding_laws.specs.SeenDeclarations.{is_before_body, bound_by_all, bound_before_body, seen_with_flags, bound_in_end, asked_of}
use Rattle.binding_laws.proofs.TiedOutward.{ties_are_outward}
use Rattle.typescript_ties.specs.SeenTogether.{is_in_scope, bound_together, asked_together}
use Rattle.binding_laws.proofs.SmallLaws.{never}
use Rattle.typescript_ties.proofs.ClearNames.{AllClear, AllKnown, Free, none_some, caught_apart}
use Rattle.typescript_ties.proofs.HeldNames.{IsHeld}
use Rattle.typescript_ties.proofs.PlainFold.{filter_none}
use Rattle.typescript_ties.proofs.ClearFold.{ClearState, clear_in_end}
use Rattle.typescript_ties.proofs.MadeOnce.{made_once}
use Rattle.typescript_ties.proofs.LikeFlags.{SeenAlike, alike_self, fit_alike}

-- the table tells the bodies of what is declared
known_events : (table : List (Option ℕ)) (root : slice_get table 0 ≡ Some None) (es : List Event) → AllEventsIn table root es → AllKnown table (declarations es)
known_events table root [] h d a = absurd a
known_events table root (declares e ∷ es) h d (inl q) = subst (λ (z : Declaration). slice_get table z.route.target.number ≡ Some z.route.target.body) q h.0.target.entry
known_events table root (declares e ∷ es) h d (inr a) = known_events table root es h.1 d a
known_events table root (takes_over c b ∷ es) h d a = known_events table root es h.1 d a
known_events table root (ends_header c ∷ es) h d a = known_events table root es h.1 d a

pub all_known : (p : Tree) → first_fault p ≡ None → AllKnown (table_of p) (declarations (events (steps p)))
all_known p h = let f : HasForm p = has_form p h in known_events (table_of p) (root_body p f) (events (steps p)) (events_in p f)

-- the body of a clause that declares the name, and the clause round it, past its header
pub record IsTaken (ds : List Declaration) (x : Name) (b c : OpenScope) : Type 0 where
  pub declaration : Declaration
  pub among : Among declaration ds
  pub named : declaration.naming.name ≡ x
  pub number : declaration.route.target.number ≡ c.number
  pub body : declaration.route.target.body ≡ Some b.number
  pub no_header : b.in_header ≡ false
  pub past_header : c.in_header ≡ false

-- scopes of which those that share what a clause declares stand beside each other
pub data AllSeen (ds : List Declaration) (x : Name) : List OpenScope → Type 0 where
  outermost : AllSeen ds x []
  past : (s : OpenScope) (ss : List OpenScope) → Free ds x s.number ⊎ (s.in_header ≡ true) → AllSeen ds x ss → AllSeen ds x (s ∷ ss)
  within : (b c : OpenScope) (ss : List OpenScope) → IsTaken ds x b c → AllSeen ds x ss → AllSeen ds x (b ∷ c ∷ ss)

-- ---- one scope of a look-up

abbrev answered : Name → ℕ → Option Seen → Option ℕ → Option ℕ
answered x w None r = r
answered x w (Some s) r = cond (fits x w s.flags) (Some s.symbol) r

step : (x : Name) (w : ℕ) → is_arguments x w ≡ false → (a : Asked) (ls : List Asked) → symbol_by (lookup x w (a ∷ ls)) ≡ answered x w a.bound (symbol_by (lookup x w ls))
step x w no_arguments a ls = by a.bound
  where
    by : (o : Option Seen) → symbol_by (or_lookup (tied_by x w a.scope o) (cond (ends_after x w a.flags) (barred a.scope) (lookup x w ls))) ≡ answered x w o (symbol_by (lookup x w ls))
    by None = rw no_arguments refl
    by (Some s) = go (fits x w s.flags)
      where
        go : (t : Bool) → symbol_by (or_lookup (cond t (Some (tied a.scope s.symbol s.flags)) None) (cond (ends_after x w a.flags) (barred a.scope) (lookup x w ls))) ≡ cond t (Some s.symbol) (symbol_by (lookup x w ls))
        go true = refl
        go false = rw no_arguments refl

answered_alike : (x : Name) (w : ℕ) (a b : Option Seen) (r q : Option ℕ) → SeenAlike a b → r ≡ q → answered x w a r ≡ answered x w b q
answered_alike x w None None r q h e = e
answered_alike x w None (Some b) r q h e = absurd h
answered_alike x w (Some a) None r q h e = absurd h
answered_alike x w (Some a) (Some b) r q h e = λ i. cond (fit_alike x w a.flags b.flags h.1 i) (Some (h.0 i)) (e i)

module _ (p : Tree) (h : first_fault p ≡ None) (numbered : IsNumbered p.root) (x : Name) (clear : AllClear (table_of p) (declarations (events (steps p))) x) where
  abbrev ds : List Declaration
  ds = declarations (events (steps p))

  abbrev final : State
  final = run start (events (steps p))

  abbrev f : HasForm p
  f = has_form p h

  led : AllEventsLed (nearest p) (table_of p) (events (steps p))
  led = events_led (nearest p) (table_of p) (nearest_root p f.root) (root_body p f) (written_declarations (steps p)) (steps p) (steps_in p f) (places_near p)

  pub clear_at_last : ClearState (table_of p) (nearest p) (declarations (events (steps p))) x final
  clear_at_last = clear_in_end (table_of p) (nearest p) (declarations (events (steps p))) x (events (steps p)) (orderly_events p f) (sound_start (table_of p)) (all_known p h) clear (λ d a. a) led (made_once p h numbered)

  -- what the tables say in the end is what the fold binds
  end_is : (c : ℕ) → c < length (scopes (steps p)) → bound_in_end p c x ≡ seen_as final (get final.bindings c x)
  end_is c l = ap (option_map (seen_with_flags (tables_of p))) (bound_as p c x l) ∙ by (get final.bindings c x)
    where
      by : (o : Option ℕ) → option_map (seen_with_flags (tables_of p)) o ≡ seen_as final o
      by None = refl
      by (Some s) = ap (λ flags. Some (record { symbol = s; flags = flags })) (flags_at final.symbols s)

  end_alike : (c : ℕ) → Free ds x c → c < length (scopes (steps p)) → SeenAlike (bound_in_end p c x) (bound_by_all (filter (is_in_scope c x) (made_of p)))
  end_alike c free l = subst (λ o. SeenAlike o (bound_by_all (filter (is_in_scope c x) (made_of p)))) (sym (end_is c l)) (clear_at_last.counted c free)

  asked_alike : (s : OpenScope) (b : Bool) → s.in_header ≡ b → Free ds x s.number ⊎ (s.in_header ≡ true) → s.number < length (scopes (steps p)) → SeenAlike (cond b (bound_before_body p s.number x) (bound_in_end p s.number x)) (bound_together p x s)
  asked_alike s true e o l = rw e (alike_self (bound_before_body p s.number x))
  asked_alike s false e o l = elim o [ inl free ↦ rw e (end_alike s.number free l) | inr i ↦ absurd (never (sym i ∙ e)) ]

  below_all : (s : OpenScope) → InTable (table_of p) s → s.number < length (scopes (steps p))
  below_all s t = omega (arith, slice_get_within (table_of p) s.number s.body t.entry, scopes_length (evals (steps p)) (steps p))

  -- ---- a clause round its body

  module _ (b c : OpenScope) (k : IsTaken ds x b c) (b_in : InTable (table_of p) b) (c_in : InTable (table_of p) c) where
    held : IsHeld x final c.number b.number
    held = subst (λ z. IsHeld x final z b.number) k.number (clear_at_last.held k.declaration k.among k.named b.number k.body)

    asked_body : (asked_of p x b).bound ≡ seen_as final (get final.bindings b.number x)
    asked_body = ap (λ t. cond t (bound_before_body p b.number x) (bound_in_end p b.number x)) k.no_header ∙ end_is b.number (below_all b b_in)

    asked_clause : (asked_of p x c).bound ≡ seen_as final (get final.bindings c.number x)
    asked_clause = ap (λ t. cond t (bound_before_body p c.number x) (bound_in_end p c.number x)) k.past_header ∙ end_is c.number (below_all c c_in)

    -- of the body nothing is declared
    none_of_body : bound_together p x b ≡ None
    none_of_body = ap (λ t. bound_by_all (filter (λ m. cond t (is_before_body b.number x m) (is_in_scope b.number x m)) (made_of p))) k.no_header ∙ ap bound_by_all (filter_none (is_in_scope b.number x) (made_of p) nowhere)
      where
        nowhere : (m : Made) → Among m (made_of p) → is_in_scope b.number x m ≡ false
        nowhere m a = elim (eqb_tells m.declaration.route.target.number b.number) [
          | inr q ↦ and_left (m.declaration.route.target.number == b.number) (bytes_eq m.declaration.naming.name x) q.0
          | inl q ↦ elim (name_tells m.declaration.naming.name x) [
            | inr n ↦ and_right (m.declaration.route.target.number == b.number) (bytes_eq m.declaration.naming.name x) n.0
            | inl n ↦ absurd (caught_apart (table_of p) ds x (all_known p h) clear m.declaration k.declaration (clear_at_last.declared m a) k.among n.1 k.named b.number k.body q.1)
          ]
        ]

    of_clause : bound_together p x c ≡ bound_by_all (filter (is_in_scope c.number x) (made_of p))
    of_clause = ap (λ t. bound_by_all (filter (λ m. cond t (is_before_body c.number x m) (is_in_scope c.number x m)) (made_of p))) k.past_header

    -- one of them answers what the clause declares
    both_answer : (w : ℕ) (r q : Option ℕ) → r ≡ q → answered x w (asked_of p x b).bound (answered x w (asked_of p x c).bound r) ≡ answered x w (bound_together p x b) (answered x w (bound_together p x c) q)
    both_answer w r q e = (λ i. answered x w (asked_body i) (answered x w (asked_clause i) r)) ∙ by (get final.bindings c.number x) (get final.bindings b.number x) held.either held.counted ∙ sym (λ i. answered x w (none_of_body i) (answered x w (of_clause i) q))
      where
        declared : Option Seen
        declared = bound_by_all (filter (is_in_scope c.number x) (made_of p))

        by : (o u : Option ℕ) → (o ≡ None) ⊎ (u ≡ None) → SeenAlike (seen_as final (or_else o u)) declared → answered x w (seen_as final u) (answered x w (seen_as final o) r) ≡ answered x w declared q
        by None u i j = answered_alike x w (seen_as final u) declared r q j e
        by (Some s) None i j = answered_alike x w (seen_as final (Some s)) declared r q j e
        by (Some s) (Some t) i j = absurd (elim i [ inl z ↦ none_some s (sym z) | inr z ↦ none_some t (sym z) ])

  -- ---- all scopes

  same_symbol : (w : ℕ) → is_arguments x w ≡ false → (chain : List OpenScope) → AllSeen ds x chain → AllInTable (table_of p) chain → symbol_by (lookup x w (map (asked_of p x) chain)) ≡ symbol_by (lookup x w (map (asked_together p x) chain))
  same_symbol w no_arguments _ outermost t = refl
  same_symbol w no_arguments _ (past s ss o k) t =
      step x w no_arguments (asked_of p x s) (map (asked_of p x) ss)
      ∙ answered_alike x w (asked_of p x s).bound (bound_together p x s) (symbol_by (lookup x w (map (asked_of p x) ss))) (symbol_by (lookup x w (map (asked_together p x) ss))) (asked_alike s s.in_header refl o (below_all s t.0)) (same_symbol w no_arguments ss k t.1)
      ∙ sym (step x w no_arguments (asked_together p x s) (map (asked_together p x) ss))
  same_symbol w no_arguments _ (within b c ss o k) t =
      step x w no_arguments (asked_of p x b) (map (asked_of p x) (c ∷ ss))
      ∙ ap (answered x w (asked_of p x b).bound) (step x w no_arguments (asked_of p x c) (map (asked_of p x) ss))
      ∙ both_answer b c o t.0 t.1.0 w (symbol_by (lookup x w (map (asked_of p x) ss))) (symbol_by (lookup x w (map (asked_together p x) ss))) (same_symbol w no_arguments ss k t.1.1)
      ∙ sym (ap (answered x w (bound_together p x b)) (step x w no_arguments (asked_together p x c) (map (asked_together p x) ss)))
      ∙ sym (step x w no_arguments (asked_together p x b) (map (asked_together p x) (c ∷ ss)))

  pub clearly_tied : (n : ℕ) (r : Occurrence) (e : Reference) → slice_get (references (steps p)) n ≡ Some r → slice_get (tables_of p).references n ≡ Some e → r.name ≡ x → is_arguments x r.way ≡ false → AllSeen ds x r.chain
      → e.symbol_id ≡ symbol_by (lookup x r.way (map (asked_together p x) r.chain))
  clearly_tied n r e a b q no_arguments seen =
      ties_are_outward p h n r e a b
      ∙ subst (λ y. symbol_by (lookup y r.way (map (asked_of p y) r.chain)) ≡ symbol_by (lookup x r.way (map (asked_together p x) r.chain))) (sym q)
      (same_symbol r.way no_arguments r.chain seen (reference_chain p r f (among_at (references (steps p)) n r a)))
