-- Along a program a scope keeps the symbol of its name.
use Rattle.std.proofs.Common.{◌≡◌, ℕ, suc, ◌<◌, ◌≤◌, List, [], ◌∷◌, ◌++◌, Option, Some, None, Bool, true, false, cond, ◌==◌, bytes_eq, ◌⊎◌, inl, inr, refl, sym, ap, subst, ◌∙◌, length, flat_map, arith}
use Rattle.std.specs.Prelude.{slice_get}
use Rattle.std.proofs.lemmas.Bool.{and_left, and_right, cases_Bool}
use Rattle.std.proofs.lemmas.Bool.Decides.{eqb_tells, Decides-ltb}
use Rattle.std.proofs.lemmas.List.{length-append}
use Rattle.semantic_kinds.specs.declared.kind.AstType.{AstType}
use Rattle.semantic_kinds.specs.declared.kind.AstType.TheVariants as kind
use Rattle.semantic_syntax.specs.Sets.{meets}
use Rattle.semantic_syntax.specs.Tables.{Name}
use Rattle.semantic_tree.specs.Faults.{first_fault}
use Rattle.semantic_tree.specs.Tree.{Tree}
use Rattle.semantic_model.specs.Binder.{declared_inside, declared_on_entering, declared_on_opening}
use Rattle.semantic_model.specs.Binding.{get, put, bound_by}
use Rattle.semantic_model.specs.Declaration.{How, plain, hoisted, moved, caught, Declaration}
use Rattle.semantic_model.specs.Entries.{Among}
use Rattle.semantic_model.specs.Event.{Event, declares, takes_over, ends_header, is_catch_body, taken_over, placed, declares_all, events_of, written_declarations, events, declarations}
use Rattle.semantic_model.specs.Fold.{State, Made, start, make, found, or_else, unless_expression, declare_in, flags_of, flags_or_none, new_symbol}
use Rattle.semantic_model.specs.Hoist.{declare_by, act, run}
use Rattle.semantic_model.specs.Place.{Place, OpenScope, innermost}
use Rattle.semantic_model.specs.Step.{Step, entering, opening, header_ending, closing, leaving, steps}
use Rattle.semantic_model.proofs.fold.EachDeclared.{EachDeclared}
use Rattle.semantic_model.proofs.alone.Homecoming.{takes, AllHomed, homed}
use Rattle.semantic_model.proofs.alone.PlacesFollowed.{followed_program}
use Rattle.semantic_model.proofs.fold.Declared.{AllEventsIn}
use Rattle.semantic_model.proofs.fold.Orders.{Adds, adds, HasForm, table_of, root_body, steps_in, events_in}
use Rattle.semantic_model.proofs.form.Shape.{has_form}
use Rattle.semantic_model.proofs.lists.BindingLaws.{same_key, get-put_same, get-put_other, get_among, get-take_over_other}
use Rattle.semantic_model.proofs.lists.Bounds.{IsSound, get_below}
use Rattle.semantic_model.proofs.lists.Growth.{act_grows, run_grows, start_is_sound}
use Rattle.semantic_model.proofs.lists.Members.{among_more}
use Rattle.semantic_model.proofs.lists.SymbolLaws.{get-last, get-push}
use Rattle.semantic_model.proofs.once.ListedUnder.{name_tells}
use Rattle.semantic_model.proofs.once.UseLists.{IsBelow}
use Rattle.semantic_model.proofs.steps.Compose.{run-append}
use Rattle.semantic_model.specs.TablesOf.{numbers}
use Rattle.walk_model.proofs.declares.Simulated.{program_nested, root_declares_none, solid}
use Rattle.walk_model.proofs.headers.Frozen.{IsWithin, below, within_step}
use Rattle.walk_model.proofs.places.Grounds.{IsGrounded, AllGrounded, all_grounded}
use Rattle.walk_model.proofs.places.Nested.{Descends, AreNested, IsNestedStep, open_past, seen_past}
use Rattle.walk_model.proofs.places.Routes.{grounded, GoesOut, AllGoOut, entering_goes, opening_goes, placed_goes, target_below}
use Rattle.binding_laws.specs.SeenDeclarations.{is_own_name}
use Rattle.binding_laws.specs.OneSymbol.{first_scope, BindsIn}
use Rattle.binding_laws.proofs.CutEvents.{IsOwnPlain, placed_other, placed_plain}
use Rattle.binding_laws.proofs.CutSteps.{opened_plain, body_open}
use Rattle.binding_laws.proofs.KeptSymbols.{expression, IsBoundTo, Keeps, NoneBinds, IsFreeBy, IsFree, found_kept, found_other, found_within, told_push, declared_keeps}
use Rattle.binding_laws.proofs.Settled.{IsSettled, keeps_settled, settle_run, none_goes, never_taken, events_right, homed_right, takes_past}
use Rattle.binding_laws.proofs.OwnNames.{AllOther, IsOwnName, entering_other, own_named, class_other, key_other}
use Rattle.binding_laws.proofs.Growing.{rescoped_flags}

-- the scopes in which they are declared are below the number
abbrev MadeBelow : ℕ → State → Type 0
MadeBelow n st = (m : Made) → Among m st.made → first_scope m.declaration.how m.declaration < n

below_more : (n m : ℕ) (st : State) → n ≤ m → MadeBelow n st → MadeBelow m st
below_more n m st l h k a = omega (arith, h k a, l)

stands_below : (n : ℕ) (passed : List OpenScope) (target : OpenScope) (rest : List OpenScope) → Descends n (passed ++ target ∷ rest) → (innermost (passed ++ target ∷ [])).number < n
stands_below n [] target rest h = h.0
stands_below n (s ∷ ss) target rest h = h.0

first_below : (n : ℕ) (how : How) (d : Declaration) (rest : List OpenScope) → Descends n (d.route.passed ++ d.route.target ∷ rest) → first_scope how d < n
first_below n plain d rest h = target_below n d.route.passed d.route.target rest h
first_below n hoisted d rest h = target_below n d.route.passed d.route.target rest h
first_below n caught d rest h = target_below n d.route.passed d.route.target rest h
first_below n moved d rest h = stands_below n d.route.passed d.route.target rest h

declares_below : (n : ℕ) (chain : List OpenScope) (ds new : List Declaration) (st : State) → AllGoOut chain new → Descends n (grounded chain) → MadeBelow n st → MadeBelow n (run st (declares_all ds new))
declares_below n chain ds [] st g k h = h
declares_below n chain ds (d ∷ new) st g k h = declares_below n chain ds new (act st (declares there)) g.1 k one_more
  where
    there : Declaration
    there = placed ds d

    goes : GoesOut chain there
    goes = placed_goes chain d.how ds d g.0

    one_more : MadeBelow n (act st (declares there))
    one_more m a =
        let w : Adds st.made there (act st (declares there)).made = adds st there in
        elim (among_more m (record { declaration = there; symbol = w.symbol }) st.made (subst (Among m) w.adds a)) [
          | inl b ↦ h m b
          | inr q ↦ subst (λ (k : Made). first_scope k.declaration.how k.declaration < n) q (first_below n there.how there goes.rest (subst (Descends n) (sym goes.is) k))
        ]

module _ (block : Bool) (c : ℕ) (x : Name) where
  abbrev AllFree : List Event → Type 0
  AllFree [] = Unit {0}
  AllFree (e ∷ es) = IsFree block c x e × AllFree es

  free_left : (es fs : List Event) → AllFree (es ++ fs) → AllFree es
  free_left [] fs h = tt
  free_left (e ∷ es) fs h = (h.0, free_left es fs h.1)

  free_right : (es fs : List Event) → AllFree (es ++ fs) → AllFree fs
  free_right [] fs h = h
  free_right (e ∷ es) fs h = free_right es fs h.1

  all_free : (es : List Event) → ((d : Declaration) → Among d (declarations es) → d.naming.name ≡ x → IsFreeBy block c x d.how d) → AllFree es
  all_free [] h = tt
  all_free (declares d ∷ es) h = (h d (inl refl), all_free es (λ e a. h e (inr a)))
  all_free (takes_over a b ∷ es) h = (tt, all_free es h)
  all_free (ends_header a ∷ es) h = (tt, all_free es h)

  declares_keep : (ds new : List Declaration) (st : State) → AllOther new → AllFree (declares_all ds new) → IsSound st → Keeps block c x st → Keeps block c x (run st (declares_all ds new))
  declares_keep ds [] st o f b h = h
  declares_keep ds (d ∷ new) st o f b h =
      declares_keep ds new (act st (declares (placed ds d))) o.1 f.1 (act_grows st (declares (placed ds d)) b).sound (declared_keeps block c x st (placed ds d) f.0 (placed_other ds d o.0) b h)

  -- the scope is new, or has but own names
  abbrev IsFresh : ℕ → State → Type 0
  IsFresh k st = (y : Name) → found st k y ≡ None

  fresh_make : (k : ℕ) (st : State) (d : Declaration) → is_own_name d ≡ true → IsSound st → IsFresh k st → IsFresh k (make st k d)
  fresh_make k st d o b f y = elim (name_tells d.naming.name y) [
    | inl q ↦ ap (λ e. unless_expression (flags_of (make st k d)) (or_else e (get st.remembered k y))) (ap (get (put st.bindings k d.naming.name (length st.symbols)) k) (sym q.1) ∙ get-put_same st.bindings k d.naming.name (length st.symbols))
        ∙ ap (λ t. cond t None (Some (length st.symbols))) (ap (λ e. meets (flags_or_none e) expression) (get-last st.symbols (new_symbol k d.naming)) ∙ o)
    | inr q ↦ ap (λ e. unless_expression (flags_of (make st k d)) (or_else e (get st.remembered k y))) (get-put_other st.bindings k d.naming.name (length st.symbols) k y (other q.0))
        ∙ old (or_else (get st.bindings k y) (get st.remembered k y)) (either (get st.bindings k y) (get_below (length st.symbols) st.bindings k y b.bindings)) ∙ f y
  ]
    where
      other : bytes_eq d.naming.name y ≡ false → same_key k d.naming.name k y ≡ false
      other e = and_right (k == k) (bytes_eq d.naming.name y) e

      either : (e : Option ℕ) → IsBelow (length st.symbols) e → IsBelow (length st.symbols) (or_else e (get st.remembered k y))
      either None l = get_below (length st.symbols) st.remembered k y b.remembered
      either (Some s) l = l

      old : (e : Option ℕ) → IsBelow (length st.symbols) e → unless_expression (flags_of (make st k d)) e ≡ unless_expression (flags_of st) e
      old None l = refl
      old (Some s) l = ap (λ g. cond (meets (flags_or_none g) expression) None (Some s)) (get-push st.symbols (new_symbol k d.naming) s l)

  not_own : (d : Declaration) → is_own_name d ≡ true → BindsIn c x d → ⊥
  not_own d o i = let w : true ≡ false = sym o ∙ i.other in absurd cc

  -- what an own name leaves
  own_keeps : (k : ℕ) (st : State) (d : Declaration) → is_own_name d ≡ true → (k ≡ c → NoneBinds block c x st) → IsSound st → Keeps block c x st → Keeps block c x (make st k d)
  own_keeps k st d o e b h = record { bound_to = λ m a i. by m i (among_more m (record { declaration = d; symbol = length st.symbols }) st.made a); bare = h.bare; told = told_push block c x st.made (record { declaration = d; symbol = length st.symbols }) st.conflicts h.told (λ m a i j q. absurd (not_own d o j)) }
    where
      old_symbol : (m : Made) → IsBoundTo block c x st m → slice_get (st.symbols ++ new_symbol k d.naming ∷ []) m.symbol ≡ slice_get st.symbols m.symbol
      old_symbol m g = get-push st.symbols (new_symbol k d.naming) m.symbol (found_within block c x st m.symbol b g.bound)

      by : (m : Made) → BindsIn c x m.declaration → Among m st.made ⊎ (record { declaration = d; symbol = length st.symbols } ≡ m) → IsBoundTo block c x (make st k d) m
      by m i (inr q) = absurd (not_own m.declaration (subst (λ (n : Made). is_own_name n.declaration ≡ true) q o) i)
      by m i (inl a) = elim (eqb_tells k c) [
        | inl q ↦ absurd (e q.1 m a i)
        | inr q ↦ (let g : IsBoundTo block c x st m = h.bound_to m a i in record {
          bound = found_kept block c x st (make st k d) m.symbol (get-put_other st.bindings k d.naming.name (length st.symbols) c x (and_left (k == c) (bytes_eq d.naming.name x) q.0)) refl
              (ap (λ s. meets (flags_or_none s) expression) (old_symbol m g) ∙ found_other block c x st m.symbol g.bound) g.bound;
          has = λ f v. ap (λ s. meets (flags_or_none s) f) (old_symbol m g) ∙ g.has f v;
        })
      ]

  none_more : (k : ℕ) (st : State) (d : Declaration) → is_own_name d ≡ true → NoneBinds block c x st → NoneBinds block c x (make st k d)
  none_more k st d o e m a i = elim (among_more m (record { declaration = d; symbol = length st.symbols }) st.made a) [
    | inl b ↦ e m b i
    | inr q ↦ not_own m.declaration (subst (λ (n : Made). is_own_name n.declaration ≡ true) q o) i
  ]

  owns_keep : (s : OpenScope) (ds new : List Declaration) (st : State) → EachDeclared (IsOwnPlain s) new → EachDeclared IsOwnName new → IsFresh s.number st → (s.number ≡ c → NoneBinds block c x st) → IsSound st → Keeps block c x st → Keeps block c x (run st (declares_all ds new))
  owns_keep s ds [] st p o f e b h = h
  owns_keep s ds (d ∷ new) st p o f e b h =
      subst (λ st2. Keeps block c x (run st2 (declares_all ds new))) (sym is_made)
      (owns_keep s ds new (make st s.number d) p.1 o.1 (fresh_make s.number st d o.0 b f) (λ q. none_more s.number st d o.0 (e q)) (subst IsSound is_made (act_grows st (declares (placed ds d)) b).sound) (own_keeps s.number st d o.0 e b h))
    where
      is_made : act st (declares (placed ds d)) ≡ make st s.number d
      is_made =
          ap (λ e. act st (declares e)) (placed_plain d.how ds d p.0.0)
          ∙ ap (λ how. declare_by how st d) p.0.0
          ∙ ap (λ t. declare_in st t d (found st t d.naming.name)) p.0.1
          ∙ ap (declare_in st s.number d) (f d.naming.name)

  -- a scope that opens has nothing
  within_fresh : (n : ℕ) (st : State) → IsWithin n st → IsFresh n st
  within_fresh n st w y = ap (unless_expression (flags_of st)) (ap (λ e. or_else e (get st.remembered n y)) (by (get st.bindings n y) refl) ∙ rest (get st.remembered n y) refl)
    where
      not_below : below n n ≡ true → ⊥
      not_below e = let l : n < n = (Decides-ltb n n).0 e in absurd (omega (arith, l))

      by : (e : Option ℕ) → get st.bindings n y ≡ e → e ≡ None
      by None g = refl
      by (Some s) g = absurd (not_below (w.bindings (record { scope = n; name = y; symbol = s }) (get_among st.bindings n y s g)))

      rest : (e : Option ℕ) → get st.remembered n y ≡ e → or_else None e ≡ None
      rest None g = refl
      rest (Some s) g = absurd (not_below (w.remembered (record { scope = n; name = y; symbol = s }) (get_among st.remembered n y s g)))

  none_below : (n : ℕ) (st : State) → n ≡ c → MadeBelow n st → NoneBinds block c x st
  none_below n st e h m a i = absurd (omega (arith, h m a, i.scope, e))

  -- what a body takes over is no other scope's
  take_keeps : (a n : ℕ) (st : State) → (a ≡ c → ⊥) → MadeBelow n st → Keeps block c x st → Keeps block c x (act st (takes_over a n))
  take_keeps a n st r l h = record { bound_to = λ m k i. kept m k i; bare = h.bare; told = h.told }
    where
      kept : (m : Made) → Among m st.made → BindsIn c x m.declaration → IsBoundTo block c x (act st (takes_over a n)) m
      kept m k i =
          let g : IsBoundTo block c x st m = h.bound_to m k i in
          record {
            bound = found_kept block c x st (act st (takes_over a n)) m.symbol (get-take_over_other st.bindings a n c x (λ e. r (sym e)) not_body) refl
                (ap (λ f. meets f expression) (rescoped_flags st.symbols (bound_by st.bindings a) n m.symbol) ∙ found_other block c x st m.symbol g.bound) g.bound;
            has = λ f v. ap (λ b. meets b f) (rescoped_flags st.symbols (bound_by st.bindings a) n m.symbol) ∙ g.has f v;
          }
        where
          not_body : c ≡ n → ⊥
          not_body e = absurd (omega (arith, l m k, i.scope, e))

  opened_keep : (k : AstType) (p : Place) (s : OpenScope) (ds : List Declaration) (st : State) → EachDeclared (IsOwnPlain s) (declared_inside k p s) → AllFree (declares_all ds (declared_inside k p s)) → IsFresh s.number st → (s.number ≡ c → NoneBinds block c x st) → IsSound st → Keeps block c x st
      → Keeps block c x (run st (declares_all ds (declared_inside k p s)))
  opened_keep kind.Function p s ds st e f g n b h = owns_keep s ds (declared_inside kind.Function p s) st e (own_named p s) g n b h
  opened_keep kind.Class p s ds st e f g n b h = declares_keep ds (declared_inside kind.Class p s) st (class_other p s) f b h
  opened_keep kind.TSMappedType p s ds st e f g n b h = declares_keep ds (declared_inside kind.TSMappedType p s) st (key_other p s) f b h
  opened_keep _ p s ds st e f g n b h = h

  -- the body of another clause, or none
  abbrev IsApart : Place → Type 0
  IsApart p = is_catch_body p ≡ true → (innermost p.chain).number ≡ c → ⊥

  opening_keeps : (ds : List Declaration) (n : ℕ) (p : Place) (s : OpenScope) (st : State) → IsApart p → s.number ≡ n → AllFree (events_of ds (opening p s)) → IsWithin n st → MadeBelow n st → IsSound st → Keeps block c x st → Keeps block c x (run st (events_of ds (opening p s)))
  opening_keeps ds n p s st r q f w l b h = by (is_catch_body p) refl f
    where
      new : List Event
      new = declares_all ds (declared_on_opening p s)

      by : (t : Bool) → is_catch_body p ≡ t → AllFree (cond t (takes_over (innermost p.chain).number s.number ∷ []) [] ++ new) → Keeps block c x (run st (cond t (takes_over (innermost p.chain).number s.number ∷ []) [] ++ new))
      by true e g =
          subst (λ k. Keeps block c x (run (act st (takes_over (innermost p.chain).number s.number)) (declares_all ds (declared_inside k p s)))) (sym (body_open p e))
          (take_keeps (innermost p.chain).number s.number st (r e) (λ m a. subst (λ k. first_scope m.declaration.how m.declaration < k) (sym q) (l m a)) h)
      by false e g = opened_keep p.node.kind p s ds st (opened_plain p s) g (subst (λ k. IsFresh k st) (sym q) (within_fresh n st w)) (λ i. none_below n st (sym q ∙ i) l) b h

  entering_keeps : (ds : List Declaration) (p : Place) (st : State) → AllFree (declares_all ds (declared_on_entering p)) → IsSound st → Keeps block c x st → Keeps block c x (run st (declares_all ds (declared_on_entering p)))
  entering_keeps ds p st f b h = declares_keep ds (declared_on_entering p) st (entering_other p.node.kind p) f b h

  abbrev IsApartStep : Step → Type 0
  IsApartStep (opening p s) = IsApart p
  IsApartStep (entering p) = Unit {0}
  IsApartStep (header_ending p s) = Unit {0}
  IsApartStep (closing p s) = Unit {0}
  IsApartStep (leaving p) = Unit {0}

  -- the body of this clause
  abbrev IsTaking : Step → Type 0
  IsTaking (opening p s) = (is_catch_body p ≡ true) × ((innermost p.chain).number ≡ c)
  IsTaking (entering p) = ⊥
  IsTaking (header_ending p s) = ⊥
  IsTaking (closing p s) = ⊥
  IsTaking (leaving p) = ⊥

  apart_or : (step : Step) → IsApartStep step ⊎ IsTaking step
  apart_or (opening p s) = elim (cases_Bool (is_catch_body p)) [
    | inr e ↦ inl (λ t i. let w : true ≡ false = sym t ∙ e in absurd cc)
    | inl e ↦ elim (eqb_tells (innermost p.chain).number c) [ inl q ↦ inr (e, q.1) | inr q ↦ inl (λ t i. q.1 i) ]
  ]
  apart_or (entering p) = inl tt
  apart_or (header_ending p s) = inl tt
  apart_or (closing p s) = inl tt
  apart_or (leaving p) = inl tt

  step_keeps : (ds : List Declaration) (stack : List ℕ) (seen : List (List ℕ)) (step : Step) (st : State) → IsApartStep step → IsNestedStep stack seen step → AllFree (events_of ds step) → IsWithin (length seen) st → MadeBelow (length seen) st → IsSound st → Keeps block c x st → Keeps block c x (run st (events_of ds step))
  step_keeps ds stack seen (entering p) st r k f w l b h = entering_keeps ds p st f b h
  step_keeps ds stack seen (opening p s) st r k f w l b h = opening_keeps ds (length seen) p s st r (ap (λ (t : OpenScope). t.number) k.1) f w l b h
  step_keeps ds stack seen (header_ending p s) st r k f w l b h = record { bound_to = h.bound_to; bare = h.bare; told = h.told }
  step_keeps ds stack seen (closing p s) st r k f w l b h = h
  step_keeps ds stack seen (leaving p) st r k f w l b h = h

  taken_below : (n : ℕ) (p : Place) (s : OpenScope) (st : State) → MadeBelow n st → MadeBelow n (run st (taken_over p s))
  taken_below n p s st h = by (is_catch_body p)
    where
      by : (t : Bool) → MadeBelow n (run st (cond t (takes_over (innermost p.chain).number s.number ∷ []) []))
      by true = h
      by false = h

  step_below : (ds : List Declaration) (stack : List ℕ) (seen : List (List ℕ)) (step : Step) (ss : List Step) (st : State) → IsNestedStep stack seen step → AllGrounded (step ∷ ss) → MadeBelow (length seen) st → MadeBelow (length (seen_past seen step)) (run st (events_of ds step))
  step_below ds stack seen (entering p) ss st k g h = by g.0
    where
      by : IsGrounded p → MadeBelow (length seen) (run st (declares_all ds (declared_on_entering p)))
      by (inl v) = declares_below (length seen) p.chain ds (declared_on_entering p) st (entering_goes p.node.kind p v) (solid (length seen) p.chain v k.descends) h
      by (inr e) = subst (λ new. MadeBelow (length seen) (run st (declares_all ds new))) (sym (root_declares_none p e)) h
  step_below ds stack seen (opening p s) ss st k g h =
      let number : s.number ≡ length seen = ap (λ (t : OpenScope). t.number) k.1 in
      let n : ℕ = length (seen_past seen (opening p s)) in
      let longer : n ≡ suc (length seen) = omega (arith, length-append seen (numbers p.chain ∷ [])) in
      let down : Descends n (s ∷ p.chain) = (omega (arith, number, longer), subst (λ m. Descends m p.chain) (sym number) k.0.descends) in
      subst (λ st2. MadeBelow n st2) (sym (run-append (taken_over p s) (declares_all ds (declared_on_opening p s)) st))
      (declares_below n (s ∷ p.chain) ds (declared_on_opening p s) (run st (taken_over p s)) (opening_goes p.node.kind p s) down (taken_below n p s st (below_more (length seen) n st (omega (arith, longer)) h)))
  step_below ds stack seen (header_ending p s) ss st k g h = h
  step_below ds stack seen (closing p s) ss st k g h = h
  step_below ds stack seen (leaving p) ss st k g h = h

  -- the clause's own body takes over
  taken_settles : (table : List (Option ℕ)) (root : slice_get table 0 ≡ Some None) (ds : List Declaration) (stack : List ℕ) (seen : List (List ℕ)) (p : Place) (s : OpenScope) (ss : List Step) (st : State) → is_catch_body p ≡ true → (innermost p.chain).number ≡ c → AreNested stack seen (opening p s ∷ ss)
      → AllEventsIn table root (flat_map (events_of ds) (opening p s ∷ ss)) → AllHomed (flat_map (events_of ds) (opening p s ∷ ss)) → Keeps block c x st → IsSettled block c x (run st (flat_map (events_of ds) (opening p s ∷ ss)))
  taken_settles table root ds stack seen p s ss st e q k i o h = by (is_catch_body p) e i o
    where
      new : List Event
      new = declares_all ds (declared_on_opening p s)

      rest : List Event
      rest = flat_map (events_of ds) ss

      taken : State
      taken = act st (takes_over (innermost p.chain).number s.number)

      number : s.number ≡ length seen
      number = ap (λ (t : OpenScope). t.number) k.0.1

      less : s.number < length (seen_past seen (opening p s))
      less = omega (arith, number, length-append seen (numbers p.chain ∷ []))

      never : slice_get table c ≡ Some (Some s.number) → AllEventsIn table root rest → takes c (new ++ rest) ≡ false
      never t j = takes_past c ds (declared_on_opening p s) rest ∙ never_taken table root c s.number ds (open_past stack (opening p s)) (seen_past seen (opening p s)) ss t less k.1 j

      settled : IsSettled block c x taken
      settled = let g : IsSettled block c x st = keeps_settled block c x st h in record { same = g.same; told = g.told }

      by : (y : Bool) → y ≡ true → AllEventsIn table root ((cond y (takes_over (innermost p.chain).number s.number ∷ []) [] ++ new) ++ rest) → AllHomed ((cond y (takes_over (innermost p.chain).number s.number ∷ []) [] ++ new) ++ rest)
          → IsSettled block c x (run st ((cond y (takes_over (innermost p.chain).number s.number ∷ []) [] ++ new) ++ rest))
      by true z j g =
          let t : slice_get table c ≡ Some (Some s.number) = ap (slice_get table) (sym q) ∙ j.0.0 in
          settle_run block c x (new ++ rest) taken (none_goes block c x table root s.number (new ++ rest) t j.1 g (never t (events_right table root new rest j.1))) settled
      by false z j g = absurd cc

  steps_settle : (table : List (Option ℕ)) (root : slice_get table 0 ≡ Some None) (ds : List Declaration) (stack : List ℕ) (seen : List (List ℕ)) (ss : List Step) (st : State) → AreNested stack seen ss → AllGrounded ss → AllFree (flat_map (events_of ds) ss) → AllEventsIn table root (flat_map (events_of ds) ss) → AllHomed (flat_map (events_of ds) ss) → IsWithin (length seen) st → MadeBelow (length seen) st → IsSound st → Keeps block c x st
      → IsSettled block c x (run st (flat_map (events_of ds) ss))
  steps_settle table root ds stack seen [] st k g f i o w l b h = keeps_settled block c x st h
  steps_settle table root ds stack seen (step ∷ ss) st k g f i o w l b h = elim (apart_or step) [
    | inl r ↦ subst (IsSettled block c x) (sym (run-append es rest st))
        (steps_settle table root ds (open_past stack step) (seen_past seen step) ss (run st es) k.1 g.1 (free_right es rest f) (events_right table root es rest i) (homed_right es rest o) (within_step ds st stack seen step k.0 g.0 w) (step_below ds stack seen step ss st k.0 g l) (run_grows st es b).sound
        (step_keeps ds stack seen step st r k.0 (free_left es rest f) w l b h))
    | inr r ↦ settles step r k i o
  ]
    where
      es : List Event
      es = events_of ds step

      rest : List Event
      rest = flat_map (events_of ds) ss

      settles : (t : Step) → IsTaking t → AreNested stack seen (t ∷ ss) → AllEventsIn table root (flat_map (events_of ds) (t ∷ ss)) → AllHomed (flat_map (events_of ds) (t ∷ ss)) → IsSettled block c x (run st (flat_map (events_of ds) (t ∷ ss)))
      settles (opening p s) r k2 i2 o2 = taken_settles table root ds stack seen p s ss st r.0 r.1 k2 i2 o2 h
      settles (entering p) r k2 i2 o2 = absurd r
      settles (header_ending p s) r k2 i2 o2 = absurd r
      settles (closing p s) r k2 i2 o2 = absurd r
      settles (leaving p) r k2 i2 o2 = absurd r

  -- a scope that is no clause has no body that takes over
  none_taking : (table : List (Option ℕ)) (root : slice_get table 0 ≡ Some None) → slice_get table c ≡ Some None → (ds : List Declaration) (ss : List Step) (step : Step) → IsTaking step → AllEventsIn table root (flat_map (events_of ds) (step ∷ ss)) → ⊥
  none_taking table root lone ds ss (opening p s) r i = by (is_catch_body p) r.0 i
    where
      by : (y : Bool) → y ≡ true → AllEventsIn table root ((cond y (takes_over (innermost p.chain).number s.number ∷ []) [] ++ declares_all ds (declared_on_opening p s)) ++ flat_map (events_of ds) ss) → ⊥
      by true z j = let t : ◌≡◌ {A = Option (Option ℕ)} (Some None) (Some (Some s.number)) = sym lone ∙ ap (slice_get table) (sym r.1) ∙ j.0.0 in absurd cc
      by false z j = absurd cc
  none_taking table root lone ds ss (entering p) r i = absurd r
  none_taking table root lone ds ss (header_ending p s) r i = absurd r
  none_taking table root lone ds ss (closing p s) r i = absurd r
  none_taking table root lone ds ss (leaving p) r i = absurd r

  steps_keep : (table : List (Option ℕ)) (root : slice_get table 0 ≡ Some None) → slice_get table c ≡ Some None → (ds : List Declaration) (stack : List ℕ) (seen : List (List ℕ)) (ss : List Step) (st : State) → AreNested stack seen ss → AllGrounded ss → AllFree (flat_map (events_of ds) ss) → AllEventsIn table root (flat_map (events_of ds) ss) → IsWithin (length seen) st → MadeBelow (length seen) st → IsSound st
      → Keeps block c x st → Keeps block c x (run st (flat_map (events_of ds) ss))
  steps_keep table root lone ds stack seen [] st k g f i w l b h = h
  steps_keep table root lone ds stack seen (step ∷ ss) st k g f i w l b h = elim (apart_or step) [
    | inl r ↦ subst (Keeps block c x) (sym (run-append es rest st))
        (steps_keep table root lone ds (open_past stack step) (seen_past seen step) ss (run st es) k.1 g.1 (free_right es rest f) (events_right table root es rest i) (within_step ds st stack seen step k.0 g.0 w) (step_below ds stack seen step ss st k.0 g l) (run_grows st es b).sound
        (step_keeps ds stack seen step st r k.0 (free_left es rest f) w l b h))
    | inr r ↦ absurd (none_taking table root lone ds ss step r i)
  ]
    where
      es : List Event
      es = events_of ds step

      rest : List Event
      rest = flat_map (events_of ds) ss

-- a scope that is no clause keeps the symbol of its name to the end
pub end_keeps : (p : Tree) → first_fault p ≡ None → (block : Bool) (c : ℕ) (x : Name) → slice_get (table_of p) c ≡ Some None → ((d : Declaration) → Among d (declarations (events (steps p))) → d.naming.name ≡ x → IsFreeBy block c x d.how d) → Keeps block c x (run start (events (steps p)))
end_keeps p h block c x lone free =
    let f : HasForm p = has_form p h in
    steps_keep block c x (table_of p) (root_body p f) lone (written_declarations (steps p)) [] [] (steps p) start (program_nested p) (all_grounded p h) (all_free block c x (events (steps p)) free) (events_in p f)
    (record { bindings = λ e q. absurd q; remembered = λ e q. absurd q }) (λ e q. absurd q) start_is_sound (record { bound_to = λ e q. absurd q; bare = λ z. refl; told = λ m n g. absurd g })

-- so it is in a program in which nothing takes the name from the scope
pub end_settled : (p : Tree) → first_fault p ≡ None → (block : Bool) (c : ℕ) (x : Name) → ((d : Declaration) → Among d (declarations (events (steps p))) → d.naming.name ≡ x → IsFreeBy block c x d.how d) → IsSettled block c x (run start (events (steps p)))
end_settled p h block c x free =
    let f : HasForm p = has_form p h in
    let ds : List Declaration = written_declarations (steps p) in
    steps_settle block c x (table_of p) (root_body p f) ds [] [] (steps p) start (program_nested p) (all_grounded p h) (all_free block c x (events (steps p)) free) (events_in p f) (homed (table_of p) (root_body p f) ds (steps p) (steps_in p f) (followed_program p f))
    (record { bindings = λ e q. absurd q; remembered = λ e q. absurd q }) (λ e q. absurd q) start_is_sound (record { bound_to = λ e q. absurd q; bare = λ z. refl; told = λ m n g. absurd g })
