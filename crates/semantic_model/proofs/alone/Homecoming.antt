-- A declaration that meets no other has its own symbol, bound in its home alone.
use Rattle.std.proofs.Common.{◌≡◌, ℕ, ◌==◌, List, [], ◌∷◌, ◌++◌, Option, Some, None, Bool, true, false, cond, ◌&&◌, ◌||◌, inl, inr, refl, sym, ap, subst, ◌∙◌, flat_map, if◌then◌else◌}
use Rattle.std.specs.Prelude.{slice_get}
use Rattle.std.proofs.lemmas.Bool.{cases_Bool}
use Rattle.std.proofs.lemmas.Bool.Decides.{eqb_tells}
use Rattle.semantic_model.specs.Place.{OpenScope, innermost, outside}
use Rattle.semantic_model.specs.Step.{Step, entering, opening, header_ending, closing, leaving}
use Rattle.semantic_model.specs.Declaration.{Declaration, How, plain, hoisted, moved, caught, home, scope_it_stands_in, stands_in, body_or}
use Rattle.semantic_model.specs.Binder.{declared_on_entering, declared_on_opening}
use Rattle.semantic_model.specs.Event.{Event, declares, takes_over, ends_header, is_barred, staying_declaration, placed_by, is_catch_body, declares_all, events_of}
use Rattle.semantic_model.proofs.fold.Actions.{StandsInBlock}
use Rattle.semantic_model.proofs.alone.Homes.{ends_at}
use Rattle.semantic_model.proofs.fold.BodyChains.{AllStepsIn}
use Rattle.semantic_model.proofs.fold.Declared.{IsDeclaredIn, AllDeclared, AllEventsIn, entering_in, inside_in, stands_in_table}
use Rattle.semantic_model.proofs.alone.BodyFollows.{taken_in, AllFollowed}
use Rattle.semantic_model.proofs.alone.Targets.{AllOwn, entering_own, AllBodiless, inside_bodiless}

-- the scope is taken over in the events
abbrev pub takes : ℕ → List Event → Bool
takes c [] = false
takes c (takes_over d b ∷ es) = d == c || takes c es
takes c (declares d ∷ es) = takes c es
takes c (ends_header d ∷ es) = takes c es

takes_later : (c : ℕ) (es fs : List Event) → takes c fs ≡ true → takes c (es ++ fs) ≡ true
takes_later c [] fs h = h
takes_later c (takes_over d b ∷ es) fs h = rw (takes_later c es fs h) (elim (d == c) as (λ t. (t || true) ≡ true) [ true ↦ refl | false ↦ refl ])
takes_later c (declares d ∷ es) fs h = takes_later c es fs h
takes_later c (ends_header d ∷ es) fs h = takes_later c es fs h

taken_events : (ds : List Declaration) (c : ℕ) (ss : List Step) → taken_in c ss ≡ true → takes c (flat_map (events_of ds) ss) ≡ true
taken_events ds c [] h = absurd cc
taken_events ds c (entering p ∷ more) h = takes_later c (declares_all ds (declared_on_entering p)) (flat_map (events_of ds) more) (taken_events ds c more h)
taken_events ds c (opening p s ∷ more) h = go (is_catch_body p) h (taken_events ds c more)
  where
    go : (a : Bool) → ((a && (innermost p.chain).number == c) || taken_in c more) ≡ true → (taken_in c more ≡ true → takes c (flat_map (events_of ds) more) ≡ true) → takes c (cond a (takes_over (innermost p.chain).number s.number ∷ []) [] ++ declares_all ds (declared_on_opening p s) ++ flat_map (events_of ds) more) ≡ true
    go true i later = elim (cases_Bool ((innermost p.chain).number == c)) [
      | inl e ↦ rw e refl
      | inr e ↦ rw e (takes_later c (declares_all ds (declared_on_opening p s)) (flat_map (events_of ds) more) (later (rw e at i)))
    ]
    go false i later = takes_later c (declares_all ds (declared_on_opening p s)) (flat_map (events_of ds) more) (later i)
taken_events ds c (header_ending p s ∷ more) h = taken_events ds c more h
taken_events ds c (closing p s ∷ more) h = taken_events ds c more h
taken_events ds c (leaving p ∷ more) h = taken_events ds c more h

-- what is declared in a clause's scope is taken over later
abbrev pub AllHomed : List Event → Type 0
AllHomed [] = Unit {0}
AllHomed (declares d ∷ es) = ((b : ℕ) → d.route.target.body ≡ Some b → takes d.route.target.number es ≡ true) × AllHomed es
AllHomed (takes_over c b ∷ es) = AllHomed es
AllHomed (ends_header c ∷ es) = AllHomed es

module _ (table : List (Option ℕ)) (root : slice_get table 0 ≡ Some None) where
  -- where a block function stands there is no body
  stays_bodiless : (d : Declaration) → d.how ≡ moved → IsDeclaredIn table root d → (scope_it_stands_in d).body ≡ None
  stays_bodiless d e h =
      let block : slice_get table (stands_in d) ≡ Some None = subst (λ w. StandsInBlock table w d) e h.block in
      let q : Some (scope_it_stands_in d).body ≡ Some None = sym (stands_in_table table root d.route.passed d refl h).entry ∙ block in cc

  abbrev pub Later : Declaration → List Event → Type 0
  Later d es = (b : ℕ) → d.route.target.body ≡ Some b → takes d.route.target.number es ≡ true

  placed_later : (how : How) (ds : List Declaration) (d : Declaration) (es : List Event) → d.how ≡ how → IsDeclaredIn table root d → Later d es → Later (placed_by how ds d) es
  placed_later plain ds d es e h l = l
  placed_later hoisted ds d es e h l = l
  placed_later caught ds d es e h l = l
  placed_later moved ds d es e h l = go (is_barred ds d (outside d.route.passed))
    where
      go : (b : Bool) → Later (if b then staying_declaration d else d) es
      go true = λ b q. (let w : None ≡ Some b = sym (stays_bodiless d e h) ∙ q in absurd cc)
      go false = l

  later_past : (d : Declaration) (es fs : List Event) → Later d fs → Later d (es ++ fs)
  later_past d es fs h b e = takes_later d.route.target.number es fs (h b e)

  -- declarations of a place whose chain is followed
  own_homed : (ds new : List Declaration) (chain : List OpenScope) (es : List Event) → AllDeclared table root new → AllOwn table chain new → ((b : ℕ) → (innermost chain).body ≡ Some b → takes (innermost chain).number es ≡ true) → AllHomed es → AllHomed (declares_all ds new ++ es)
  own_homed ds [] chain es a o f h = h
  own_homed ds (d ∷ more) chain es a o f h = (
    placed_later d.how ds d (declares_all ds more ++ es) refl a.0
        (later_past d (declares_all ds more) es (λ b e. let q : d.route.target ≡ innermost chain = o.0 b e in
        subst (λ s. takes s.number es ≡ true) (sym q) (f b (subst (λ s. s.body ≡ Some b) q e)))),
    own_homed ds more chain es a.1 o.1 f h,
  )

  bodiless_homed : (ds new : List Declaration) (es : List Event) → AllDeclared table root new → AllBodiless table new → AllHomed es → AllHomed (declares_all ds new ++ es)
  bodiless_homed ds [] es a o h = h
  bodiless_homed ds (d ∷ more) es a o h = (
    placed_later d.how ds d (declares_all ds more ++ es) refl a.0 (λ b e. let w : None ≡ Some b = sym o.0 ∙ e in absurd cc),
    bodiless_homed ds more es a.1 o.1 h,
  )

  pub homed : (ds : List Declaration) (ss : List Step) → AllStepsIn table ss → AllFollowed ss → AllHomed (flat_map (events_of ds) ss)
  homed ds [] h f = tt
  homed ds (entering p ∷ more) h f =
      own_homed ds (declared_on_entering p) p.chain (flat_map (events_of ds) more) (entering_in table root p.node.kind p h.0) (entering_own table p.node.kind p h.0)
      (λ b e. taken_events ds (innermost p.chain).number more (f.0 b e)) (homed ds more h.1 f.1)
  homed ds (opening p s ∷ more) h f = go (is_catch_body p)
      (bodiless_homed ds (declared_on_opening p s) (flat_map (events_of ds) more) (inside_in table root p.node.kind p s h.0.1) (inside_bodiless table p.node.kind p s h.0.3) (homed ds more h.1 f))
    where
      go : (a : Bool) → AllHomed (declares_all ds (declared_on_opening p s) ++ flat_map (events_of ds) more) → AllHomed (cond a (takes_over (innermost p.chain).number s.number ∷ []) [] ++ declares_all ds (declared_on_opening p s) ++ flat_map (events_of ds) more)
      go true k = k
      go false k = k
  homed ds (header_ending p s ∷ more) h f = homed ds more h.1 f
  homed ds (closing p s ∷ more) h f = homed ds more h.1 f
  homed ds (leaving p ∷ more) h f = homed ds more h.1 f

  -- a scope without a body keeps what it binds
  stays : (x : ℕ) (es : List Event) → slice_get table x ≡ Some None → AllEventsIn table root es → ends_at x es ≡ x
  stays x [] e h = refl
  stays x (takes_over c b ∷ es) e h = elim (eqb_tells x c) [
    | inl k ↦ (let q : Some None ≡ Some (Some b) = sym (subst (λ m. slice_get table m ≡ Some None) k.1 e) ∙ h.0.0 in absurd cc)
    | inr k ↦ rw k.0 (stays x es e h.1)
  ]
  stays x (declares d ∷ es) e h = stays x es e h.1
  stays x (ends_header c ∷ es) e h = stays x es e h.1

  -- a clause's scope gives all that it binds to its body
  goes_home : (c b : ℕ) (es : List Event) → slice_get table c ≡ Some (Some b) → AllEventsIn table root es → takes c es ≡ true → ends_at c es ≡ b
  goes_home c b [] e h t = absurd cc
  goes_home c b (takes_over d y ∷ es) e h t = elim (eqb_tells c d) [
    | inl k ↦ (let q : Some (Some y) ≡ Some (Some b) = sym (subst (λ m. slice_get table m ≡ Some (Some y)) (sym k.1) h.0.0) ∙ e in
        let s : y ≡ b = cc in
        rw k.0 (stays y es h.0.1 h.1 ∙ s))
    | inr k ↦ elim (eqb_tells d c) [
      | inl l ↦ absurd (k.1 (sym l.1))
      | inr l ↦ rw k.0 (goes_home c b es e h.1 (rw l.0 at t))
    ]
  ]
  goes_home c b (declares d ∷ es) e h t = goes_home c b es e h.1 t
  goes_home c b (ends_header d ∷ es) e h t = goes_home c b es e h.1 t

  pub comes_home : (d : Declaration) (es : List Event) → IsDeclaredIn table root d → AllEventsIn table root es → Later d es → ends_at d.route.target.number es ≡ home d
  comes_home d es h k l = go d.route.target.body refl
    where
      go : (o : Option ℕ) → d.route.target.body ≡ o → ends_at d.route.target.number es ≡ body_or d.route.target.number o
      go None e = stays d.route.target.number es (h.target.entry ∙ ap Some e) k
      go (Some b) e = goes_home d.route.target.number b es (h.target.entry ∙ ap Some e) k (l b e)
