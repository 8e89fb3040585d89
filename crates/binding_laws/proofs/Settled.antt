-- Once a catch clause's body has taken over what the clause binds, nothing more is declared in the clause.
use Rattle.std.proofs.Common.{◌≡◌, ℕ, ◌<◌, ◌==◌, List, [], ◌∷◌, ◌++◌, Option, Some, None, Bool, true, false, cond, ◌||◌, ◌⊎◌, inl, inr, refl, sym, ap, subst, ◌∙◌, length, flat_map, arith}
use Rattle.std.specs.Prelude.{slice_get}
use Rattle.std.proofs.lemmas.Bool.{ne_eqb, or_parts}
use Rattle.semantic_syntax.specs.Tables.{Name}
use Rattle.semantic_model.specs.Binder.{declared_on_entering, declared_on_opening}
use Rattle.semantic_model.specs.Declaration.{How, plain, hoisted, moved, caught, Declaration, stands_in}
use Rattle.semantic_model.specs.Entries.{Among}
use Rattle.semantic_model.specs.Event.{Event, declares, takes_over, ends_header, is_catch_body, declares_all, events_of}
use Rattle.semantic_model.specs.Fold.{State, Made}
use Rattle.semantic_model.specs.Hoist.{act, run}
use Rattle.semantic_model.specs.Place.{OpenScope, innermost}
use Rattle.semantic_model.specs.Step.{Step, entering, opening, header_ending, closing, leaving}
use Rattle.semantic_model.proofs.alone.Homecoming.{takes, AllHomed}
use Rattle.semantic_model.proofs.fold.Actions.{StandsInBlock}
use Rattle.semantic_model.proofs.fold.Declared.{AllEventsIn}
use Rattle.semantic_model.proofs.fold.Orders.{Adds, adds}
use Rattle.semantic_model.proofs.lists.Members.{among_more}
use Rattle.walk_model.proofs.places.Nested.{AreNested, open_past, seen_past, seen_longer}
use Rattle.binding_laws.specs.OneSymbol.{first_scope, BindsIn}
use Rattle.binding_laws.proofs.Growing.{conflicts_stay}
use Rattle.binding_laws.proofs.KeptSymbols.{AreTold, Keeps, all_later, told_more}

pub homed_right : (es fs : List Event) → AllHomed (es ++ fs) → AllHomed fs
homed_right [] fs h = h
homed_right (declares d ∷ es) fs h = homed_right es fs h.1
homed_right (takes_over a b ∷ es) fs h = homed_right es fs h
homed_right (ends_header a ∷ es) fs h = homed_right es fs h

pub takes_past : (c : ℕ) (ds new : List Declaration) (es : List Event) → takes c (declares_all ds new ++ es) ≡ takes c es
takes_past c ds [] es = refl
takes_past c ds (d ∷ new) es = takes_past c ds new es

module _ (table : List (Option ℕ)) (root : slice_get table 0 ≡ Some None) where
  pub events_right : (es fs : List Event) → AllEventsIn table root (es ++ fs) → AllEventsIn table root fs
  events_right [] fs h = h
  events_right (e ∷ es) fs h = events_right es fs h.1

  -- a clause's scope is taken over once
  pub never_taken : (c b : ℕ) (ds : List Declaration) (stack : List ℕ) (seen : List (List ℕ)) (ss : List Step) → slice_get table c ≡ Some (Some b) → b < length seen → AreNested stack seen ss → AllEventsIn table root (flat_map (events_of ds) ss) → takes c (flat_map (events_of ds) ss) ≡ false
  never_taken c b ds stack seen [] t l k i = refl
  never_taken c b ds stack seen (entering p ∷ ss) t l k i =
      let rest : List Event = flat_map (events_of ds) ss in
      takes_past c ds (declared_on_entering p) rest ∙ never_taken c b ds stack seen ss t l k.1 (events_right (declares_all ds (declared_on_entering p)) rest i)
  never_taken c b ds stack seen (opening p s ∷ ss) t l k i = by (is_catch_body p) i (never_taken c b ds (open_past stack (opening p s)) (seen_past seen (opening p s)) ss t (omega (arith, l, seen_longer seen (opening p s))) k.1)
    where
      new : List Event
      new = declares_all ds (declared_on_opening p s)

      rest : List Event
      rest = flat_map (events_of ds) ss

      number : s.number ≡ length seen
      number = ap (λ (o : OpenScope). o.number) k.0.1

      apart : slice_get table (innermost p.chain).number ≡ Some (Some s.number) → (innermost p.chain).number ≡ c → ⊥
      apart j e =
          let q : Some (Some s.number) ≡ Some (Some b) = sym j ∙ ap (slice_get table) e ∙ t in
          let w : s.number ≡ b = cc in
          absurd (omega (arith, w, number, l))

      by : (y : Bool) → AllEventsIn table root ((cond y (takes_over (innermost p.chain).number s.number ∷ []) [] ++ new) ++ rest) → (AllEventsIn table root rest → takes c rest ≡ false)
          → takes c ((cond y (takes_over (innermost p.chain).number s.number ∷ []) [] ++ new) ++ rest) ≡ false
      by true j later = ap (λ y. y || takes c (new ++ rest)) (ne_eqb (innermost p.chain).number c (apart j.0.0)) ∙ takes_past c ds (declared_on_opening p s) rest ∙ later (events_right new rest j.1)
      by false j later = takes_past c ds (declared_on_opening p s) rest ∙ later (events_right new rest j)
  never_taken c b ds stack seen (header_ending p s ∷ ss) t l k i = never_taken c b ds stack seen ss t l k.1 i.1
  never_taken c b ds stack seen (closing p s ∷ ss) t l k i = never_taken c b ds (open_past stack (closing p s)) seen ss t l k.1 i
  never_taken c b ds stack seen (leaving p ∷ ss) t l k i = never_taken c b ds stack seen ss t l k.1 i

module _ (block : Bool) (c : ℕ) (x : Name) where
  -- what was declared has one symbol, and its conflicts are told
  pub record IsSettled (st : State) : Type 0 where
    pub same : (m n : Made) → Among m st.made → Among n st.made → BindsIn c x m.declaration → BindsIn c x n.declaration → m.symbol ≡ n.symbol
    pub told : AreTold block c x st.made st.conflicts

  pub keeps_settled : (st : State) → Keeps block c x st → IsSettled st
  keeps_settled st h = record {
    same = λ m n a b i j.
        let e : Some m.symbol ≡ Some n.symbol = sym (h.bound_to m a i).bound ∙ (h.bound_to n b j).bound in
        let w : m.symbol ≡ n.symbol = cc in w;
    told = h.told;
  }

  -- nothing is declared in the scope
  abbrev pub NoneGoes : List Event → Type 0
  NoneGoes [] = Unit {0}
  NoneGoes (declares d ∷ es) = (first_scope d.how d ≡ c → ⊥) × NoneGoes es
  NoneGoes (takes_over a b ∷ es) = NoneGoes es
  NoneGoes (ends_header a ∷ es) = NoneGoes es

  settled_declare : (st : State) (d : Declaration) → (first_scope d.how d ≡ c → ⊥) → IsSettled st → IsSettled (act st (declares d))
  settled_declare st d n h = record {
    same = λ m k a b i j. elim (earlier m a) [
      | inl a2 ↦ elim (earlier k b) [ inl b2 ↦ h.same m k a2 b2 i j | inr q ↦ absurd (out k q j) ]
      | inr q ↦ absurd (out m q i)
    ];
    told = told_more block c x st (act st (declares d)) d w (λ i. n i.scope) (all_later block c x st.made st.conflicts (act st (declares d)).conflicts (conflicts_stay st d) h.told);
  }
    where
      w : Adds st.made d (act st (declares d)).made
      w = adds st d

      earlier : (m : Made) → Among m (act st (declares d)).made → Among m st.made ⊎ (record { declaration = d; symbol = w.symbol } ≡ m)
      earlier m a = among_more m (record { declaration = d; symbol = w.symbol }) st.made (subst (Among m) w.adds a)

      out : (m : Made) → record { declaration = d; symbol = w.symbol } ≡ m → BindsIn c x m.declaration → ⊥
      out m q i = n (subst (λ (k : Made). BindsIn c x k.declaration) (sym q) i).scope

  pub settle_run : (es : List Event) (st : State) → NoneGoes es → IsSettled st → IsSettled (run st es)
  settle_run [] st n h = h
  settle_run (declares d ∷ es) st n h = settle_run es (act st (declares d)) n.1 (settled_declare st d n.0 h)
  settle_run (takes_over a b ∷ es) st n h = settle_run es (act st (takes_over a b)) n (record { same = h.same; told = h.told })
  settle_run (ends_header a ∷ es) st n h = settle_run es st n h

  -- behind the take-over
  pub none_goes : (table : List (Option ℕ)) (root : slice_get table 0 ≡ Some None) (b : ℕ) (es : List Event) → slice_get table c ≡ Some (Some b) → AllEventsIn table root es → AllHomed es → takes c es ≡ false → NoneGoes es
  none_goes table root b [] t i h n = tt
  none_goes table root b (declares d ∷ es) t i h n = (apart d.how refl, none_goes table root b es t i.1 h.1 n)
    where
      at_target : d.route.target.number ≡ c → ⊥
      at_target e =
          let q : Some d.route.target.body ≡ Some (Some b) = sym i.0.target.entry ∙ ap (slice_get table) e ∙ t in
          let body : d.route.target.body ≡ Some b = cc in
          let w : true ≡ false = sym (h.0 b body) ∙ ap (λ k. takes k es) e ∙ n in absurd cc

      apart : (how : How) → d.how ≡ how → first_scope how d ≡ c → ⊥
      apart plain q e = at_target e
      apart hoisted q e = at_target e
      apart caught q e = at_target e
      apart moved q e =
          let k : slice_get table (stands_in d) ≡ Some None = subst (λ how. StandsInBlock table how d) q i.0.block in
          let w : Some (Some b) ≡ Some None = sym t ∙ ap (slice_get table) (sym e) ∙ k in absurd cc
  none_goes table root b (takes_over a y ∷ es) t i h n = none_goes table root b es t i.1 h (or_parts (a == c) (takes c es) n).1
  none_goes table root b (ends_header a ∷ es) t i h n = none_goes table root b es t i.1 h n
