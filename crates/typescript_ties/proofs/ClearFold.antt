-- Through all events, what a scope binds to a name whose declarations keep clear is like what they bind together there, and what a clause declares is held by it or its body.
use Rattle.std.proofs.Common.{◌≡◌, ℕ, ◌<◌, ◌==◌, List, [], ◌∷◌, ◌++◌, Option, Some, None, Bool, true, false, ◌&&◌, ◌||◌, cond, inl, inr, ◌⊎◌, refl, sym, ap, subst, ◌∙◌, length, filter, option_map, bytes_eq, arith}
use Rattle.std.specs.Prelude.{slice_get}
use Rattle.std.proofs.lemmas.Bool.{cases_Bool, ne_eqb, eq-eqb, and_from, and_left, and_right}
use Rattle.std.proofs.lemmas.Bool.Decides.{eqb_tells}
use Rattle.semantic_syntax.specs.declared.symbol_flags.TheConstants.SymbolFlags as symbol
use Rattle.semantic_syntax.specs.Sets.{meets, union}
use Rattle.semantic_syntax.specs.Tables.{Name, Symbol}
use Rattle.semantic_model.specs.Binder.{ambient_if}
use Rattle.semantic_model.specs.Binding.{Binding, get, put, take_over, bound_by}
use Rattle.semantic_model.specs.Declaration.{Declaration, plain, caught}
use Rattle.semantic_model.specs.Entries.{Among}
use Rattle.semantic_model.specs.Event.{Event, declares, takes_over, ends_header, declarations}
use Rattle.semantic_model.specs.Fold.{State, Made, start, make, against, conflict_with, declare_in, chosen, found, or_else, unless_expression, note_symbol, flags_of, flags_or_none, update, united, redeclared, new_symbol}
use Rattle.semantic_model.specs.Hoist.{PassedSymbol, counts, passed_symbol, passed_symbol_or, asked_symbols, against_all, remember, remembering, move_symbol, hoist_by, hoist, act, run, declare_by}
use Rattle.semantic_model.specs.Place.{OpenScope}
use Rattle.semantic_model.specs.Tie.{seen_as}
use Rattle.semantic_model.proofs.bindings.VarTargets.{AllLead, IsLed, AllEventsLed}
use Rattle.semantic_model.proofs.fold.Actions.{changes_declare}
use Rattle.semantic_model.proofs.fold.Changes.{Sound, Holds, HasName, notes}
use Rattle.semantic_model.proofs.fold.Orders.{Adds, adds}
use Rattle.semantic_model.proofs.fold.Soundness.{sound-change}
use Rattle.semantic_model.proofs.fold.TakeOvers.{Ready, two, IsReady, Orderly, sound_act}
use Rattle.semantic_model.proofs.lists.BindingLaws.{get-put, get-put_other, get_among, same_key_tells, among_taken, get-take_over_other, get-take_over_body, get-take_over_kept}
use Rattle.semantic_model.proofs.lists.Members.{among_more, among_left, among_last}
use Rattle.semantic_model.proofs.lists.SymbolLaws.{get-update, get-push, get-last}
use Rattle.semantic_model.proofs.once.ListedUnder.{name_tells}
use Rattle.binding_laws.specs.SeenDeclarations.{is_own_name, with_declaration, bound_by_all}
use Rattle.binding_laws.proofs.Growing.{other_flags, same_flags, rescoped_flags}
use Rattle.typescript_ties.specs.SeenTogether.{is_in_scope}
use Rattle.typescript_ties.proofs.ClearNames.{Untouched, Free, IsCaughtAlone, IsClearDeclaration, AllClear, AllKnown, none_some, caught_alone, free_target, caught_apart, untouched_free}
use Rattle.typescript_ties.proofs.HeldNames.{IsHeld, IsBoundFor, or_cases, seen_kept, held_so, held_kept}
use Rattle.typescript_ties.proofs.FitsTogether.{meets_union}
use Rattle.typescript_ties.proofs.LikeFlags.{IsVariable, FlagsAlike, SeenAlike, alike_equal, alike_none, none_alike, one_more, variable_adds_none}
use Rattle.typescript_ties.proofs.MadeOnce.{IsMadeOnce, not_yet}
use Rattle.binding_laws.proofs.OtherNames.{LeavesName, leaves_name}
use Rattle.binding_laws.proofs.SmallLaws.{never, some_is}
use Rattle.typescript_ties.proofs.PlainFold.{filter_none, seen_with, or_none, seen_nothing, bound_made, bound_below, count_more, count_same}

not_some : {A : Type 0} → (a : A) → None ≡ Some a → ⊥
not_some a e = absurd cc

-- the scope has the name as a function's own
pub record IsOwnBound (x : Name) (ms : List Made) (c : ℕ) : Type 0 where
  pub made : Made
  pub among : Among made ms
  pub named : made.declaration.naming.name ≡ x
  pub there : made.declaration.route.target.number ≡ c
  pub own : is_own_name made.declaration ≡ true

own_later : (x : Name) (ms : List Made) (m : Made) (c : ℕ) → IsOwnBound x ms c → IsOwnBound x (ms ++ m ∷ []) c
own_later x ms m c k = record { made = k.made; among = among_left k.made ms (m ∷ []) k.among; named = k.named; there = k.there; own = k.own }

module _ (table : List (Option ℕ)) (v : ℕ → ℕ) (ds : List Declaration) where
  -- a variable passed the scope; where it went, the symbol is bound
  pub record IsPassedWith (x : Name) (st : State) (c s : ℕ) : Type 0 where
    pub bound : get st.bindings (v c) x ≡ Some s
    pub lasts : slice_get table (v c) ≡ Some None
    pub covers : (m : ℕ) → meets symbol.FunctionScopedVariable.bits m ≡ true → meets (flags_of st s) m ≡ true
    pub untouched : Untouched ds x c

  pub record ClearState (x : Name) (st : State) : Type 0 where
    pub counted : (c : ℕ) → Free ds x c → SeenAlike (seen_as st (get st.bindings c x)) (bound_by_all (filter (is_in_scope c x) st.made))
    pub held : (d : Declaration) → Among d ds → d.naming.name ≡ x → (b : ℕ) → d.route.target.body ≡ Some b → IsHeld x st d.route.target.number b
    pub same : (m : Made) → Among m st.made → m.declaration.naming.name ≡ x → IsBoundFor x st m
    pub apart : (c e s : ℕ) → get st.bindings c x ≡ Some s → get st.bindings e x ≡ Some s → c ≡ e
    pub visible : (c s : ℕ) → get st.bindings c x ≡ Some s → (meets (flags_of st s) symbol.FunctionExpression.bits ≡ false) ⊎ IsOwnBound x st.made c
    pub remembered : (c s : ℕ) → get st.remembered c x ≡ Some s → IsPassedWith x st c s
    pub declared : (m : Made) → Among m st.made → Among m.declaration ds

  clear_start : (x : Name) → ClearState x start
  clear_start x = record { counted = λ c f. tt; held = λ d a n b q. record { either = inl refl; counted = tt }; same = λ m a. absurd a; apart = λ c e s g. absurd cc; visible = λ c s g. absurd cc; remembered = λ c s g. absurd cc; declared = λ m a. absurd a }

  -- ---- a declaration of another name

  other_state : (x : Name) (st : State) (d : Declaration) → Among d ds → (d.naming.name ≡ x → ⊥) → IsReady table st (declares d) → Sound table st → ClearState x st → ClearState x (act st (declares d))
  other_state x st d there n block sound h = record {
    counted = λ c f. subst (λ o. SeenAlike (seen_as new o) (bound_by_all (filter (is_in_scope c x) new.made))) (sym (u.bindings c))
        (subst (λ l. SeenAlike (seen_as new (get st.bindings c x)) (bound_by_all l)) (sym (uncounted c)) (subst (λ z. SeenAlike z (bound_by_all (filter (is_in_scope c x) st.made))) (sym (same_seen c (get st.bindings c x) refl)) (h.counted c f)));
    held = λ e i q b z. held_kept x st new e.route.target.number b (u.bindings e.route.target.number) (u.bindings b) (uncounted e.route.target.number)
        (λ s o. elim o [ inl g ↦ flags_same e.route.target.number s g | inr g ↦ flags_same b s g ]) (h.held e i q b z);
    same = λ m a e. elim (among_more m last st.made (subst (Among m) w.adds a)) [
      | inl b ↦ elim (h.same m b e) [ inl g ↦ inl (u.bindings m.declaration.route.target.number ∙ g) | inr (c, z, g) ↦ inr (c, z, u.bindings c ∙ g) ]
      | inr q ↦ absurd (n (ap (λ (y : Made). y.declaration.naming.name) q ∙ e))
    ];
    apart = λ c e s g k. h.apart c e s (sym (u.bindings c) ∙ g) (sym (u.bindings e) ∙ k);
    visible = λ c s g. elim (h.visible c s (sym (u.bindings c) ∙ g)) [
      | inl e ↦ inl (ap (λ f. meets f symbol.FunctionExpression.bits) (flags_same c s (sym (u.bindings c) ∙ g)) ∙ e)
      | inr k ↦ inr (subst (λ ms. IsOwnBound x ms c) (sym w.adds) (own_later x st.made last c k))
    ];
    remembered = λ c s g. (let k : IsPassedWith x st c s = h.remembered c s (sym (u.remembered c) ∙ g) in
        record { bound = u.bindings (v c) ∙ k.bound; lasts = k.lasts; covers = λ m e. ap (λ f. meets f m) (flags_same (v c) s k.bound) ∙ k.covers m e; untouched = k.untouched });
    declared = λ m a. elim (among_more m last st.made (subst (Among m) w.adds a)) [ inl b ↦ h.declared m b | inr q ↦ subst (λ (y : Made). Among y.declaration ds) q there ];
  }
    where
      new : State
      new = act st (declares d)

      u : LeavesName table x st new
      u = leaves_name table x d n sound (changes_declare table st d block sound)

      w : Adds st.made d new.made
      w = adds st d

      last : Made
      last = record { declaration = d; symbol = w.symbol }

      uncounted : (c : ℕ) → filter (is_in_scope c x) new.made ≡ filter (is_in_scope c x) st.made
      uncounted c = ap (filter (is_in_scope c x)) w.adds ∙ count_same table c x st.made last (and_right (d.route.target.number == c) (bytes_eq d.naming.name x) (elim (name_tells d.naming.name x) [ inl q ↦ absurd (n q.1) | inr q ↦ q.0 ]))

      flags_same : (c s : ℕ) → get st.bindings c x ≡ Some s → flags_of new s ≡ flags_of st s
      flags_same c s g =
          let k : Holds table st.made c x s = bound_made table st c x s sound g in
          subst (λ r. flags_of new r ≡ flags_of st r) k.symbol (u.flags k.made k.among k.named)

      same_seen : (c : ℕ) (o : Option ℕ) → get st.bindings c x ≡ o → seen_as new o ≡ seen_as st o
      same_seen c None q = refl
      same_seen c (Some y) q = ap (seen_with y) (flags_same c y q)

  -- ---- what conflicts change

  against_state : (x : Name) (st : State) (d : Declaration) (s : ℕ) → ClearState x st → ClearState x (against st d s)
  against_state x st d s h = record {
    counted = h.counted;
    held = λ e a q b z. (let k : IsHeld x st e.route.target.number b = h.held e a q b z in record { either = k.either; counted = k.counted });
    same = h.same;
    apart = h.apart;
    visible = h.visible;
    remembered = λ c r g. (let k : IsPassedWith x st c r = h.remembered c r g in record { bound = k.bound; lasts = k.lasts; covers = k.covers; untouched = k.untouched });
    declared = h.declared;
  }

  record IsAgainst (x : Name) (a b : State) : Type 0 where
    clear : ClearState x b
    sound : Sound table b
    bindings : b.bindings ≡ a.bindings
    symbols : b.symbols ≡ a.symbols

  against_each : (x : Name) (d : Declaration) (ss : List ℕ) (st : State) → ClearState x st → Sound table st → IsAgainst x st (against_all st d ss)
  against_each x d [] st h sound = record { clear = h; sound = sound; bindings = refl; symbols = refl }
  against_each x d (s ∷ ss) st h sound =
      let k : IsAgainst x (against st d s) (against_all (against st d s) d ss) =
      against_each x d ss (against st d s) (against_state x st d s h) (sound-change table d (notes st (st.conflicts ++ conflict_with d.naming (slice_get st.symbols s))) sound) in
      record { clear = k.clear; sound = k.sound; bindings = k.bindings; symbols = k.symbols }

  -- ---- a declaration of the name

  module _ (st : State) (d : Declaration) (there : Among d ds) (seen : (s : ℕ) → get st.bindings d.route.target.number d.naming.name ≡ Some s → meets (flags_of st s) symbol.FunctionExpression.bits ≡ false) (sound : Sound table st) (h : ClearState d.naming.name st) where
    abbrev x : Name
    x = d.naming.name

    abbrev t : ℕ
    t = d.route.target.number

    abbrev n : ℕ
    n = length st.symbols

    abbrev F : ℕ
    F = d.naming.flags

    counts_here : (m : Made) → m.declaration ≡ d → is_in_scope t x m ≡ true
    counts_here m e = ap (λ z. z.route.target.number == t && bytes_eq z.naming.name x) e ∙ and_from (t == t) (bytes_eq x x) (eq-eqb t t refl) (elim (name_tells x x) [ inl q ↦ q.0 | inr q ↦ absurd (q.1 refl) ])

    counts_not : (c : ℕ) (m : Made) → m.declaration ≡ d → (t ≡ c → ⊥) → is_in_scope c x m ≡ false
    counts_not c m e k = ap (λ z. z.route.target.number == c && bytes_eq z.naming.name x) e ∙ and_left (t == c) (bytes_eq x x) (ne_eqb t c k)

    put_other : (c : ℕ) → (t ≡ c → ⊥) → get (put st.bindings t x n) c x ≡ get st.bindings c x
    put_other c k = elim (same_key_tells t c x x) [ inl q ↦ absurd (k q.1) | inr q ↦ get-put_other st.bindings t x n c x q.0 ]

    put_here : (c : ℕ) → t ≡ c → get (put st.bindings t x n) c x ≡ Some n
    put_here c k = elim (same_key_tells t c x x) [ inl q ↦ get-put st.bindings t x n c x ∙ ap (λ b. cond b (Some n) (get st.bindings c x)) q.0 | inr q ↦ absurd (q.1 (k, refl)) ]

    fresh : (c s : ℕ) → get st.bindings c x ≡ Some s → n ≡ s → ⊥
    fresh c s g e = let w : s < n = bound_below table st c x s sound g in absurd (omega (arith, w, e))

    now_declared : (m : Made) (s : ℕ) → Among m (st.made ++ record { declaration = d; symbol = s } ∷ []) → Among m.declaration ds
    now_declared m s a = elim (among_more m (record { declaration = d; symbol = s }) st.made a) [ inl b ↦ h.declared m b | inr q ↦ subst (λ (y : Made). Among y.declaration ds) q there ]

    -- a symbol with its flags
    own_or_not : (ms : List Made) (s : ℕ) (f : ℕ) → meets f symbol.FunctionExpression.bits ≡ is_own_name d → Among {A = Made} (record { declaration = d; symbol = s }) ms → (c : ℕ) → t ≡ c → (meets f symbol.FunctionExpression.bits ≡ false) ⊎ IsOwnBound x ms c
    own_or_not ms s f e a c q = elim (cases_Bool (is_own_name d)) [
      | inr i ↦ inl (e ∙ i)
      | inl i ↦ inr (record { made = record { declaration = d; symbol = s }; among = a; named = refl; there = q; own = i })
    ]

    -- a scope that it doesn't go to
    elsewhere : (new : State) (c s : ℕ) → Free ds x c → new.made ≡ st.made ++ record { declaration = d; symbol = s } ∷ [] → (t ≡ c → ⊥) → seen_as new (get new.bindings c x) ≡ seen_as st (get st.bindings c x) → SeenAlike (seen_as new (get new.bindings c x)) (bound_by_all (filter (is_in_scope c x) new.made))
    elsewhere new c s free m k e = subst (λ l. SeenAlike (seen_as new (get new.bindings c x)) (bound_by_all l)) (sym (ap (filter (is_in_scope c x)) m ∙ count_same table c x st.made (record { declaration = d; symbol = s }) (counts_not c (record { declaration = d; symbol = s }) refl k)))
        (subst (λ z. SeenAlike z (bound_by_all (filter (is_in_scope c x) st.made))) (sym e) (h.counted c free))

    uncounted_at : (new : State) (c s : ℕ) → new.made ≡ st.made ++ record { declaration = d; symbol = s } ∷ [] → (t ≡ c → ⊥) → filter (is_in_scope c x) new.made ≡ filter (is_in_scope c x) st.made
    uncounted_at new c s m k = ap (filter (is_in_scope c x)) m ∙ count_same table c x st.made (record { declaration = d; symbol = s }) (counts_not c (record { declaration = d; symbol = s }) refl k)

    -- it goes to no clause's body, and where it goes to a clause, that binds nothing yet
    abbrev IsNew : Type 0
    IsNew = (e : Declaration) → Among e ds → e.naming.name ≡ x → (b : ℕ) → e.route.target.body ≡ Some b → (t ≡ b → ⊥) × (t ≡ e.route.target.number → get st.bindings b x ≡ None)

    -- ---- anew

    module _ (unbound : get st.bindings t x ≡ None) (none_counted : bound_by_all (filter (is_in_scope t x) st.made) ≡ None) (is_new : IsNew) where
      abbrev made_state : State
      made_state = make st t d

      abbrev last : Made
      last = record { declaration = d; symbol = n }

      old_flags : (c s : ℕ) → get st.bindings c x ≡ Some s → flags_of made_state s ≡ flags_of st s
      old_flags c s g = ap flags_or_none (get-push st.symbols (new_symbol t d.naming) s (bound_below table st c x s sound g))

      new_flags : flags_of made_state n ≡ F
      new_flags = ap flags_or_none (get-last st.symbols (new_symbol t d.naming))

      old_seen : (c : ℕ) (o : Option ℕ) → get st.bindings c x ≡ o → seen_as made_state o ≡ seen_as st o
      old_seen c None g = refl
      old_seen c (Some s) g = ap (seen_with s) (old_flags c s g)

      counted_here : bound_by_all (filter (is_in_scope t x) (st.made ++ last ∷ [])) ≡ seen_with n F
      counted_here = count_more table t x st.made last (counts_here last refl) ∙ ap (λ o. with_declaration o last) none_counted

      not_unbound : (c s : ℕ) → get st.bindings c x ≡ Some s → t ≡ c → ⊥
      not_unbound c s g e = not_some s (sym unbound ∙ subst (λ z. get st.bindings z x ≡ Some s) (sym e) g)

      pub made_new : ClearState x made_state
      made_new = record {
        counted = λ c free. elim (eqb_tells t c) [
          | inl q ↦ alike_equal (seen_as made_state (get (put st.bindings t x n) c x)) (bound_by_all (filter (is_in_scope c x) (st.made ++ last ∷ []))) (record { symbol = n; flags = F })
              (ap (seen_as made_state) (put_here c q.1) ∙ ap (seen_with n) new_flags) (ap (λ k. bound_by_all (filter (is_in_scope k x) (st.made ++ last ∷ []))) (sym q.1) ∙ counted_here)
          | inr q ↦ elsewhere made_state c n free refl q.1 (ap (seen_as made_state) (put_other c q.1) ∙ old_seen c (get st.bindings c x) refl)
        ];
        held = λ e a k b z. new_held e.route.target.number b (is_new e a k b z).0 (is_new e a k b z).1 (h.held e a k b z);
        same = λ m a e. elim (among_more m last st.made a) [
          | inl b ↦ elim (h.same m b e) [
            | inl g ↦ inl (put_other m.declaration.route.target.number (not_unbound m.declaration.route.target.number m.symbol g) ∙ g)
            | inr (c, z, g) ↦ inr (c, z, put_other c (not_unbound c m.symbol g) ∙ g)
          ]
          | inr q ↦ inl (subst (λ (y : Made). get (put st.bindings t x n) y.declaration.route.target.number x ≡ Some y.symbol) q (put_here t refl))
        ];
        apart = apart;
        visible = λ c s g. elim (eqb_tells t c) [
          | inl q ↦ own_or_not (st.made ++ last ∷ []) n (flags_of made_state s) (ap (λ r. meets (flags_of made_state r) symbol.FunctionExpression.bits) (some_is s n (sym g ∙ put_here c q.1)) ∙ ap (λ f. meets f symbol.FunctionExpression.bits) new_flags) (among_last last st.made) c q.1
          | inr q ↦ (let k : get st.bindings c x ≡ Some s = sym (put_other c q.1) ∙ g in elim (h.visible c s k) [
            | inl e ↦ inl (ap (λ f. meets f symbol.FunctionExpression.bits) (old_flags c s k) ∙ e)
            | inr o ↦ inr (own_later x st.made last c o)
          ])
        ];
        remembered = λ c s g. (let k : IsPassedWith x st c s = h.remembered c s g in
            record { bound = put_other (v c) (not_unbound (v c) s k.bound) ∙ k.bound; lasts = k.lasts; covers = λ m e. ap (λ f. meets f m) (old_flags (v c) s k.bound) ∙ k.covers m e; untouched = k.untouched });
        declared = λ m a. now_declared m n a;
      }
        where
          new_held : (c b : ℕ) → (t ≡ b → ⊥) → (t ≡ c → get st.bindings b x ≡ None) → IsHeld x st c b → IsHeld x made_state c b
          new_held c b no_body empty k = elim (eqb_tells t c) [
            | inr q ↦ held_kept x st made_state c b (put_other c q.1) (put_other b no_body) (uncounted_at made_state c n refl q.1) (λ s o. elim o [ inl g ↦ old_flags c s g | inr g ↦ old_flags b s g ]) k
            | inl q ↦ record {
              either = inr (put_other b no_body ∙ empty q.1);
              counted = alike_equal (seen_as made_state (or_else (get (put st.bindings t x n) c x) (get (put st.bindings t x n) b x))) (bound_by_all (filter (is_in_scope c x) (st.made ++ last ∷ []))) (record { symbol = n; flags = F })
                  (ap (λ o. seen_as made_state (or_else o (get (put st.bindings t x n) b x))) (put_here c q.1) ∙ ap (seen_with n) new_flags) (ap (λ z. bound_by_all (filter (is_in_scope z x) (st.made ++ last ∷ []))) (sym q.1) ∙ counted_here);
            }
          ]

          apart : (c e s : ℕ) → get (put st.bindings t x n) c x ≡ Some s → get (put st.bindings t x n) e x ≡ Some s → c ≡ e
          apart c e s g k = elim (eqb_tells t c) [
            | inl q ↦ elim (eqb_tells t e) [
              | inl r ↦ sym q.1 ∙ r.1
              | inr r ↦ absurd (fresh e s (sym (put_other e r.1) ∙ k) (some_is n s (sym (put_here c q.1) ∙ g)))
            ]
            | inr q ↦ elim (eqb_tells t e) [
              | inl r ↦ absurd (fresh c s (sym (put_other c q.1) ∙ g) (some_is n s (sym (put_here e r.1) ∙ k)))
              | inr r ↦ h.apart c e s (sym (put_other c q.1) ∙ g) (sym (put_other e r.1) ∙ k)
            ]
          ]

    -- ---- as one more declaration of what the scope binds

    module _ (free_t : Free ds x t) (new : State) (s : ℕ) (bindings : new.bindings ≡ st.bindings) (remembers : new.remembered ≡ st.remembered) (made : new.made ≡ st.made ++ record { declaration = d; symbol = s } ∷ [])
        (bound : get st.bindings t x ≡ Some s) (grown : FlagsAlike (flags_of new s) (union (flags_of st s) F)) (others : (r : ℕ) → (s ≡ r → ⊥) → flags_of new r ≡ flags_of st r) where
      abbrev one : Made
      one = record { declaration = d; symbol = s }

      now : (c : ℕ) → get new.bindings c x ≡ get st.bindings c x
      now c = ap (λ bs. get bs c x) bindings

      seen_before : (c : ℕ) (o : Option ℕ) → get st.bindings c x ≡ o → (t ≡ c → ⊥) → seen_as new o ≡ seen_as st o
      seen_before c None f k = refl
      seen_before c (Some r) f k = ap (seen_with r) (others r (λ i. k (h.apart t c s bound (f ∙ ap Some (sym i)))))

      counted_more : SeenAlike (seen_with s (flags_of new s)) (bound_by_all (filter (is_in_scope t x) (st.made ++ one ∷ [])))
      counted_more = subst (SeenAlike (seen_with s (flags_of new s))) (sym (count_more table t x st.made one (counts_here one refl)))
          (one_more s (flags_of st s) (flags_of new s) one (bound_by_all (filter (is_in_scope t x) st.made)) (subst (λ o. SeenAlike (seen_as st o) (bound_by_all (filter (is_in_scope t x) st.made))) bound (h.counted t free_t)) refl grown)

      at_target : SeenAlike (seen_as new (get new.bindings t x)) (bound_by_all (filter (is_in_scope t x) new.made))
      at_target = subst (λ o. SeenAlike (seen_as new o) (bound_by_all (filter (is_in_scope t x) new.made))) (sym (now t ∙ bound)) (subst (λ l. SeenAlike (seen_with s (flags_of new s)) (bound_by_all (filter (is_in_scope t x) l))) (sym made) counted_more)

      -- of what was remembered all flags of a variable stay
      pub joined : ((c r : ℕ) → get st.remembered c x ≡ Some r → (m : ℕ) → meets symbol.FunctionScopedVariable.bits m ≡ true → meets (flags_of new r) m ≡ true) → ClearState x new
      joined covers = record {
        counted = λ c free. elim (eqb_tells t c) [
          | inl q ↦ subst (λ k. SeenAlike (seen_as new (get new.bindings k x)) (bound_by_all (filter (is_in_scope k x) new.made))) q.1 at_target
          | inr q ↦ elsewhere new c s free made q.1 (ap (seen_as new) (now c) ∙ seen_before c (get st.bindings c x) refl q.1)
        ];
        held = λ e a k b z. (let no_clause : t ≡ e.route.target.number → ⊥ = λ q. none_some b (sym ((free_t e a k).0 (sym q)) ∙ z) in
            held_kept x st new e.route.target.number b (now e.route.target.number) (now b) (uncounted_at new e.route.target.number s made no_clause)
            (λ r o. elim o [ inl g ↦ others r (λ i. no_clause (h.apart t e.route.target.number s bound (g ∙ ap Some (sym i)))) | inr g ↦ others r (λ i. (free_t e a k).1 (z ∙ ap Some (sym (h.apart t b s bound (g ∙ ap Some (sym i)))))) ]) (h.held e a k b z));
        same = λ m a e. elim (among_more m one st.made (subst (Among m) made a)) [
          | inl b ↦ elim (h.same m b e) [ inl g ↦ inl (now m.declaration.route.target.number ∙ g) | inr (c, z, g) ↦ inr (c, z, now c ∙ g) ]
          | inr q ↦ inl (now m.declaration.route.target.number ∙ subst (λ (y : Made). get st.bindings y.declaration.route.target.number x ≡ Some y.symbol) q bound)
        ];
        apart = λ c e r g k. h.apart c e r (sym (now c) ∙ g) (sym (now e) ∙ k);
        visible = λ c r g. elim (eqb_tells s r) [
          | inl q ↦ subst (λ ms. (meets (flags_of new r) symbol.FunctionExpression.bits ≡ false) ⊎ IsOwnBound x ms c) (sym made)
              (own_or_not (st.made ++ one ∷ []) s (flags_of new r) (ap (λ z. meets (flags_of new z) symbol.FunctionExpression.bits) (sym q.1) ∙ grown symbol.FunctionExpression.bits refl ∙ meets_union (flags_of st s) F symbol.FunctionExpression.bits ∙ ap (λ b. b || meets F symbol.FunctionExpression.bits) (seen s bound)) (among_last one st.made) c (h.apart t c s bound (sym (now c) ∙ g ∙ ap Some (sym q.1))))
          | inr q ↦ elim (h.visible c r (sym (now c) ∙ g)) [
            | inl e ↦ inl (ap (λ f. meets f symbol.FunctionExpression.bits) (others r q.1) ∙ e)
            | inr o ↦ inr (subst (λ ms. IsOwnBound x ms c) (sym made) (own_later x st.made one c o))
          ]
        ];
        remembered = λ c r g. (let i : get st.remembered c x ≡ Some r = sym (ap (λ bs. get bs c x) remembers) ∙ g in
            let k : IsPassedWith x st c r = h.remembered c r i in
            record { bound = now (v c) ∙ k.bound; lasts = k.lasts; covers = covers c r i; untouched = k.untouched });
        declared = λ m a. now_declared m s (subst (Among m) made a);
      }

    -- ---- in the scope where it goes

    module _ (free_t : Free ds x t) (s : ℕ) (g : get st.bindings t x ≡ Some s) where
      abbrev join : Symbol → Symbol
      join y = united F (redeclared d.naming y)

      entry : HasName st.symbols s x
      entry =
          let holds : Holds table st.made t x s = bound_made table st t x s sound g in
          subst (λ z. HasName st.symbols s z) holds.named (subst (λ r. HasName st.symbols r holds.made.declaration.naming.name) holds.symbol (sound.has_name holds.made holds.among))

      joined_flags : flags_of (declare_in st t d (Some s)) s ≡ union (flags_of st s) F
      joined_flags =
          ap flags_or_none (get-update join st.symbols s s ∙ ap (λ b. cond b (option_map join (slice_get st.symbols s)) (slice_get st.symbols s)) (eq-eqb s s refl) ∙ ap (option_map join) entry.is_there)
          ∙ ap (λ o. union (flags_or_none o) F) (sym entry.is_there)

      others_keep : (r : ℕ) → (s ≡ r → ⊥) → flags_of (declare_in st t d (Some s)) r ≡ flags_of st r
      others_keep r k = other_flags join st.symbols s r k

      stays_covered : (c r : ℕ) → get st.remembered c x ≡ Some r → (m : ℕ) → meets symbol.FunctionScopedVariable.bits m ≡ true → meets (flags_of (declare_in st t d (Some s)) r) m ≡ true
      stays_covered c r i m e = elim (eqb_tells s r) [
        | inl q ↦ subst (λ z. meets (flags_of (declare_in st t d (Some s)) z) m ≡ true) q.1 (ap (λ f. meets f m) joined_flags ∙ meets_union (flags_of st s) F m ∙ ap (λ b. b || meets F m) (ap (λ z. meets (flags_of st z) m) q.1 ∙ (h.remembered c r i).covers m e))
        | inr q ↦ ap (λ f. meets f m) (others_keep r q.1) ∙ (h.remembered c r i).covers m e
      ]

      joined_state : ClearState x (declare_in st t d (Some s))
      joined_state = joined free_t (declare_in st t d (Some s)) s refl refl refl g (λ m a. ap (λ f. meets f m) joined_flags) others_keep stays_covered

    -- what is bound then
    record IsDeclaredIn (new : State) (s : ℕ) : Type 0 where
      clear : ClearState x new
      bound : get new.bindings t x ≡ Some s
      covers : (m : ℕ) → meets F m ≡ true → meets (flags_of new s) m ≡ true

    is_new_free : Free ds x t → IsNew
    is_new_free free e a k b z = ((λ q. (free e a k).1 (z ∙ ap Some (sym q))), (λ q. absurd (none_some b (sym ((free e a k).0 (sym q)) ∙ z))))

    none_free : Free ds x t → get st.bindings t x ≡ None → bound_by_all (filter (is_in_scope t x) st.made) ≡ None
    none_free free g = alike_none (bound_by_all (filter (is_in_scope t x) st.made)) (subst (λ o. SeenAlike (seen_as st o) (bound_by_all (filter (is_in_scope t x) st.made))) g (h.counted t free))

    declared_state : Free ds x t → (o : Option ℕ) → get st.bindings t x ≡ o → IsDeclaredIn (declare_in st t d o) (chosen st o)
    declared_state free None g = record { clear = made_new g (none_free free g) (is_new_free free); bound = put_here t refl; covers = λ m e. ap (λ f. meets f m) (new_flags g (none_free free g) (is_new_free free)) ∙ e }
    declared_state free (Some s) g = record { clear = joined_state free s g; bound = g; covers = λ m e. ap (λ f. meets f m) (joined_flags free s g) ∙ meets_union (flags_of st s) F m ∙ or_second (meets (flags_of st s) m) (meets F m) e }
      where
        or_second : (a b : Bool) → b ≡ true → (a || b) ≡ true
        or_second true b e = refl
        or_second false b e = e

    unremembered : get st.remembered t x ≡ None
    unremembered = by (get st.remembered t x) refl
      where
        by : (o : Option ℕ) → get st.remembered t x ≡ o → get st.remembered t x ≡ None
        by None g = g
        by (Some s) g = absurd (((h.remembered t s g).untouched d there refl).0 refl)

    is_found : found st t x ≡ get st.bindings t x
    is_found = ap (λ o. unless_expression (flags_of st) (or_else (get st.bindings t x) o)) unremembered ∙ ap (unless_expression (flags_of st)) (or_none (get st.bindings t x)) ∙ by (get st.bindings t x) refl
      where
        by : (o : Option ℕ) → get st.bindings t x ≡ o → unless_expression (flags_of st) o ≡ o
        by None g = refl
        by (Some s) g = ap (λ b. cond b None (Some s)) (seen s g)

    plain_state : Free ds x t → IsDeclaredIn (declare_in st t d (found st t x)) (chosen st (found st t x))
    plain_state free = subst (λ o. IsDeclaredIn (declare_in st t d o) (chosen st o)) (sym is_found) (declared_state free (get st.bindings t x) refl)

    -- by a catch clause, which has no other
    caught_state : (unbound : get st.bindings t x ≡ None) → bound_by_all (filter (is_in_scope t x) st.made) ≡ None → IsNew → (d.how ≡ plain) ⊎ (d.how ≡ caught) → ClearState x (act st (declares d))
    caught_state unbound none is_new how = elim how [
      | inl e ↦ subst (λ w. ClearState x (declare_by w st d)) (sym e) (subst (λ o. ClearState x (declare_in st t d o)) (sym (is_found ∙ unbound)) (made_new unbound none is_new))
      | inr e ↦ subst (λ w. ClearState x (declare_by w st d)) (sym e) (made_new unbound none is_new)
    ]

  -- ---- a variable

  module _ (st : State) (d : Declaration) (there : Among d ds) (seen : (s : ℕ) → get st.bindings d.route.target.number d.naming.name ≡ Some s → meets (flags_of st s) symbol.FunctionExpression.bits ≡ false) (sound : Sound table st) (h : ClearState d.naming.name st)
      (free : Free ds d.naming.name d.route.target.number) (variable : IsVariable d) (led : AllLead v table d.route.passed d.route.target.number) (unpassed : (z : OpenScope) → Among z d.route.passed → Untouched ds d.naming.name z.number) where
    abbrev y : Name
    y = d.naming.name

    abbrev goal : ℕ
    goal = d.route.target.number

    -- scopes that it passes on its way
    abbrev AllPassed : List OpenScope → Type 0
    AllPassed [] = Unit {0}
    AllPassed (c ∷ cs) = ((v c.number ≡ goal) × ((slice_get table goal ≡ Some None) × Untouched ds y c.number)) × AllPassed cs

    all_passed : (cs : List OpenScope) → AllLead v table cs goal → ((z : OpenScope) → Among z cs → Untouched ds y z.number) → AllPassed cs
    all_passed [] l f = tt
    all_passed (c ∷ cs) l f = ((l.0.near, (l.0.lasts, f c (inl refl))), all_passed cs l.1 (λ z i. f z (inr i)))

    passed : AllPassed d.route.passed
    passed = all_passed d.route.passed led unpassed

    passed_at : (cs : List OpenScope) → AllPassed cs → (z : OpenScope) → Among z cs → (v z.number ≡ goal) × ((slice_get table goal ≡ Some None) × Untouched ds y z.number)
    passed_at [] a z i = absurd i
    passed_at (c ∷ cs) a z (inl e) = subst (λ (o : OpenScope). (v o.number ≡ goal) × ((slice_get table goal ≡ Some None) × Untouched ds y o.number)) e a.0
    passed_at (c ∷ cs) a z (inr i) = passed_at cs a.1 z i

    unbound_at : (c : ℕ) → Untouched ds y c → get st.bindings c y ≡ None
    unbound_at c f = seen_nothing st (get st.bindings c y) (none_alike (seen_as st (get st.bindings c y)) (subst (λ l. SeenAlike (seen_as st (get st.bindings c y)) (bound_by_all l)) (filter_none (is_in_scope c y) st.made nowhere) (h.counted c (untouched_free ds y c f))))
      where
        nowhere : (m : Made) → Among m st.made → is_in_scope c y m ≡ false
        nowhere m a = elim (eqb_tells m.declaration.route.target.number c) [
          | inr q ↦ and_left (m.declaration.route.target.number == c) (bytes_eq m.declaration.naming.name y) q.0
          | inl q ↦ elim (name_tells m.declaration.naming.name y) [
            | inr k ↦ and_right (m.declaration.route.target.number == c) (bytes_eq m.declaration.naming.name y) k.0
            | inl k ↦ absurd ((f m.declaration (h.declared m a) k.1).0 q.1)
          ]
        ]

    found_remembered : (c s : ℕ) → get st.bindings c y ≡ None → found st c y ≡ Some s → get st.remembered c y ≡ Some s
    found_remembered c s n e = by (get st.remembered c y) (sym (ap (λ o. unless_expression (flags_of st) (or_else o (get st.remembered c y))) n) ∙ e)
      where
        by : (o : Option ℕ) → unless_expression (flags_of st) o ≡ Some s → o ≡ Some s
        by None i = absurd (not_some s i)
        by (Some r) i = one (meets (flags_of st r) symbol.FunctionExpression.bits) i
          where
            one : (t : Bool) → cond t None (Some r) ≡ Some s → Some r ≡ Some s
            one true j = absurd (not_some s j)
            one false j = j

    -- the symbol of a passed scope is that of an earlier variable, which the same scope binds
    record IsKnown (s : ℕ) : Type 0 where
      bound : get st.bindings goal y ≡ Some s
      covers : (m : ℕ) → meets symbol.FunctionScopedVariable.bits m ≡ true → meets (flags_of st s) m ≡ true

    passed_known : (cs : List OpenScope) → AllPassed cs → (k : PassedSymbol) → passed_symbol st cs y ≡ Some k → IsKnown k.symbol
    passed_known [] a k e = absurd (not_some k e)
    passed_known (c ∷ cs) a k e = go (found st c.number y) refl e (passed_known cs a.1 k)
      where
        go : (o : Option ℕ) → found st c.number y ≡ o → cond (counts st o) (passed_symbol_or c.number o) (passed_symbol st cs y) ≡ Some k → (passed_symbol st cs y ≡ Some k → IsKnown k.symbol) → IsKnown k.symbol
        go None f i later = later i
        go (Some s) f i later =
            let w : IsPassedWith y st c.number s = h.remembered c.number s (found_remembered c.number s (unbound_at c.number a.0.1.1) f) in
            let taken : Some (record { scope = c.number; symbol = s }) ≡ Some k = sym (ap (λ b. cond b (Some (record { scope = c.number; symbol = s })) (passed_symbol st cs y)) (w.covers symbol.ByValue.bits refl)) ∙ i in
            subst IsKnown (ap (λ (z : PassedSymbol). z.symbol) (is_same (record { scope = c.number; symbol = s }) k taken)) (record { bound = subst (λ z. get st.bindings z y ≡ Some s) a.0.0 w.bound; covers = w.covers })
          where
            is_same : (a b : PassedSymbol) → Some a ≡ Some b → a ≡ b
            is_same a b j = cc

    -- what is remembered then
    remember_cases : (cs : List OpenScope) (bs : List Binding) (s e r : ℕ) → get (remember bs cs y s) e y ≡ Some r → ((r ≡ s) × ((z : OpenScope) × Among z cs × (z.number ≡ e))) ⊎ (get bs e y ≡ Some r)
    remember_cases [] bs s e r g = inr g
    remember_cases (c ∷ cs) bs s e r g = elim (remember_cases cs (put bs c.number y s) s e r g) [
      | inl w ↦ inl (w.0, (w.1.0, inr w.1.1, w.1.2))
      | inr i ↦ elim (same_key_tells c.number e y y) [
        | inl q ↦ inl (same (sym i ∙ get-put bs c.number y s e y ∙ ap (λ b. cond b (Some s) (get bs e y)) q.0), (c, inl refl, q.1))
        | inr q ↦ inr (sym (get-put_other bs c.number y s e y q.0) ∙ i)
      ]
    ]
      where
        same : Some r ≡ Some s → r ≡ s
        same j = cc

    remembering_state : (new : State) (s : ℕ) → ClearState y new → get new.bindings goal y ≡ Some s → ((m : ℕ) → meets symbol.FunctionScopedVariable.bits m ≡ true → meets (flags_of new s) m ≡ true) → ClearState y (remembering new d.route.passed y s)
    remembering_state new s k bound covers = record {
      counted = k.counted;
      held = λ e a q b z. (let o : IsHeld y new e.route.target.number b = k.held e a q b z in record { either = o.either; counted = o.counted });
      same = k.same;
      apart = k.apart;
      visible = k.visible;
      remembered = λ c r g. elim (remember_cases d.route.passed new.remembered s c r g) [
        | inl w ↦ (let (near, (lasts, untouched)) = passed_at d.route.passed passed w.1.0 w.1.1 in
            let near_c : v c ≡ goal = ap v (sym w.1.2) ∙ near in
            record {
              bound = ap (λ z. get new.bindings z y) near_c ∙ bound ∙ ap Some (sym w.0);
              lasts = ap (slice_get table) near_c ∙ lasts;
              covers = λ m e. ap (λ z. meets (flags_of new z) m) w.0 ∙ covers m e;
              untouched = subst (Untouched ds y) w.1.2 untouched;
            })
        | inr i ↦ (let w : IsPassedWith y new c r = k.remembered c r i in record { bound = w.bound; lasts = w.lasts; covers = w.covers; untouched = w.untouched })
      ];
      declared = k.declared;
    }

    covers_variable : (m : ℕ) → meets symbol.FunctionScopedVariable.bits m ≡ true → meets d.naming.flags m ≡ true
    covers_variable m e = ap (λ f. meets f m) variable.1 ∙ meets_union symbol.FunctionScopedVariable.bits (ambient_if variable.0) m ∙ ap (λ b. b || meets (ambient_if variable.0) m) e

    abbrev before : State
    before = against_all st d (asked_symbols st d.route.passed y)

    told : IsAgainst y st before
    told = against_each y d (asked_symbols st d.route.passed y) st h sound

    still_seen : (s : ℕ) → get before.bindings goal y ≡ Some s → meets (flags_of before s) symbol.FunctionExpression.bits ≡ false
    still_seen s g = ap (λ ys. meets (flags_or_none (slice_get ys s)) symbol.FunctionExpression.bits) told.symbols ∙ seen s (sym (ap (λ bs. get bs goal y) told.bindings) ∙ g)

    hoisted_by : (o : Option PassedSymbol) → passed_symbol st d.route.passed y ≡ o → ClearState y (hoist_by before d o)
    hoisted_by None e =
        let w : IsDeclaredIn before d there still_seen told.sound told.clear (declare_in before goal d (found before goal y)) (chosen before (found before goal y)) = plain_state before d there still_seen told.sound told.clear free in
        remembering_state (declare_in before goal d (found before goal y)) (chosen before (found before goal y)) w.clear w.bound (λ m i. w.covers m (covers_variable m i))
    hoisted_by (Some k) e = subst (λ o. ClearState y (remembering (move_symbol noted k.scope goal y k.symbol o) d.route.passed y k.symbol)) (sym bound) (remembering_state noted k.symbol noted_state bound (λ m i. ap (λ f. meets f m) (flags_noted k.symbol) ∙ covers m i))
      where
        known : IsKnown k.symbol
        known = passed_known d.route.passed passed k e

        bound : get before.bindings goal y ≡ Some k.symbol
        bound = ap (λ bs. get bs goal y) told.bindings ∙ known.bound

        covers : (m : ℕ) → meets symbol.FunctionScopedVariable.bits m ≡ true → meets (flags_of before k.symbol) m ≡ true
        covers m i = ap (λ ys. meets (flags_or_none (slice_get ys k.symbol)) m) told.symbols ∙ known.covers m i

        noted : State
        noted = note_symbol (record before { symbols = update (redeclared d.naming) before.symbols k.symbol }) d k.symbol

        flags_noted : (r : ℕ) → flags_of noted r ≡ flags_of before r
        flags_noted r = same_flags (redeclared d.naming) before.symbols k.symbol r (λ z. refl)

        noted_state : ClearState y noted
        noted_state = joined before d there still_seen told.sound told.clear free noted k.symbol refl refl refl bound (λ m a. ap (λ f. meets f m) (flags_noted k.symbol) ∙ variable_adds_none d variable (flags_of before k.symbol) covers m a) (λ r i. flags_noted r)
            (λ c r g m i. ap (λ f. meets f m) (flags_noted r) ∙ (told.clear.remembered c r g).covers m i)

    hoisted_state : ClearState y (hoist st d)
    hoisted_state = hoisted_by (passed_symbol st d.route.passed y) refl

  module _ (x : Name) (known : AllKnown table ds) (clear : AllClear table ds x) where
    own_state : (st : State) (d : Declaration) → d.naming.name ≡ x → Among d ds → ((m : Made) → Among m st.made → m.declaration.naming.identifier ≡ d.naming.identifier → ⊥) → IsLed v table d.how d.route → Sound table st → ClearState x st → ClearState x (act st (declares d))
    own_state st d e there anew led sound h = subst (λ z. ClearState z (act st (declares d))) e (elim k.way [
      | inl l ↦ (let free : Free ds d.naming.name d.route.target.number = subst (λ z. Free ds z d.route.target.number) (sym e) (free_target table ds x known clear d there e l.lasting) in
          elim l.way [
            | inl how ↦ subst (λ w. ClearState d.naming.name (declare_by w st d)) (sym how) (plain_state st d there seen sound mine free).clear
            | inr w ↦ subst (λ how. ClearState d.naming.name (declare_by how st d)) (sym w.0) (hoisted_state st d there seen sound mine free w.1.0 (subst (λ how. IsLed v table how d.route) w.0 led) w.1.1)
          ])
      | inr (b, c) ↦ (let empty : filter (is_in_scope d.route.target.number d.naming.name) st.made ≡ [] = filter_none (is_in_scope d.route.target.number d.naming.name) st.made (none_made b c) in
          let none : or_else (get st.bindings d.route.target.number d.naming.name) (get st.bindings b d.naming.name) ≡ None = seen_nothing st (or_else (get st.bindings d.route.target.number d.naming.name) (get st.bindings b d.naming.name))
          (none_alike (seen_as st (or_else (get st.bindings d.route.target.number d.naming.name) (get st.bindings b d.naming.name))) (subst (λ l. SeenAlike (seen_as st (or_else (get st.bindings d.route.target.number d.naming.name) (get st.bindings b d.naming.name))) (bound_by_all l)) empty (mine.held d there refl b c.body).counted)) in
          caught_state st d there seen sound mine (first_none (get st.bindings d.route.target.number d.naming.name) (get st.bindings b d.naming.name) none) (ap bound_by_all empty)
          (λ f i n g z. (
            (caught_apart table ds x known clear d f there i e (n ∙ e) g z),
            (λ q. subst (λ m. get st.bindings m d.naming.name ≡ None) (some_is b g (some_is (Some b) (Some g) (sym (known d there ∙ ap Some c.body) ∙ ap (slice_get table) q ∙ known f i ∙ ap Some z))) (second_none (get st.bindings d.route.target.number d.naming.name) (get st.bindings b d.naming.name) none)),
          )) c.how)
    ])
      where
        k : IsClearDeclaration table ds d
        k = clear d there e

        mine : ClearState d.naming.name st
        mine = subst (λ z. ClearState z st) (sym e) h

        first_none : (o r : Option ℕ) → or_else o r ≡ None → o ≡ None
        first_none None r i = refl
        first_none (Some s) r i = absurd cc

        second_none : (o r : Option ℕ) → or_else o r ≡ None → r ≡ None
        second_none None r i = i
        second_none (Some s) r i = absurd cc

        none_made : (b : ℕ) → IsCaughtAlone table ds d b → (m : Made) → Among m st.made → is_in_scope d.route.target.number d.naming.name m ≡ false
        none_made b c m a = elim (eqb_tells m.declaration.route.target.number d.route.target.number) [
          | inr q ↦ and_left (m.declaration.route.target.number == d.route.target.number) (bytes_eq m.declaration.naming.name d.naming.name) q.0
          | inl q ↦ elim (name_tells m.declaration.naming.name d.naming.name) [
            | inr n ↦ and_right (m.declaration.route.target.number == d.route.target.number) (bytes_eq m.declaration.naming.name d.naming.name) n.0
            | inl n ↦ absurd (anew m a (c.alone m.declaration (h.declared m a) n.1 q.1))
          ]
        ]

        -- no function has the name as its own there
        seen : (s : ℕ) → get st.bindings d.route.target.number d.naming.name ≡ Some s → meets (flags_of st s) symbol.FunctionExpression.bits ≡ false
        seen s g = elim (mine.visible d.route.target.number s g) [
          | inl i ↦ i
          | inr o ↦ absurd (anew o.made o.among (sym ((clear o.made.declaration (h.declared o.made o.among) (o.named ∙ e)).alone o.own d there (sym o.named) (sym o.there))))
        ]

    -- ---- a body takes over a clause

    module _ (st : State) (c b : ℕ) (r : Ready table st.made c b) (h : ClearState x st) where
      apart_scopes : c ≡ b → ⊥
      apart_scopes = two table st.made c b r

      no_body_of : (d : Declaration) → Among d ds → d.naming.name ≡ x → d.route.target.body ≡ Some c → ⊥
      no_body_of d a n q = none_some b (some_is None (Some b) (sym (caught_alone table ds x known clear d a n c q).ends ∙ r.clause))

      body_is : (d : Declaration) → Among d ds → d.route.target.number ≡ c → d.route.target.body ≡ Some b
      body_is d a q = some_is d.route.target.body (Some b) (sym (known d a) ∙ ap (slice_get table) q ∙ r.clause)

      -- one that goes there, or none
      abbrev HasOne : List Declaration → Type 0
      HasOne es = ((d : Declaration) × Among d es × (d.naming.name ≡ x) × (d.route.target.number ≡ c)) ⊎ ((d : Declaration) → Among d es → d.naming.name ≡ x → d.route.target.number ≡ c → ⊥)

      has_one : (es : List Declaration) → HasOne es
      has_one [] = inr (λ d a. absurd a)
      has_one (d ∷ es) = elim (has_one es) [
        | inl (e, a, n, q) ↦ inl (e, inr a, n, q)
        | inr f ↦ elim (name_tells d.naming.name x) [
          | inr n ↦ inr (λ e a m q. elim a [ inl i ↦ n.1 (ap (λ (z : Declaration). z.naming.name) i ∙ m) | inr i ↦ f e i m q ])
          | inl n ↦ elim (eqb_tells d.route.target.number c) [
            | inl q ↦ inl (d, inl refl, n.1, q.1)
            | inr q ↦ inr (λ e a m k. elim a [ inl i ↦ q.1 (ap (λ (z : Declaration). z.route.target.number) i ∙ k) | inr i ↦ f e i m k ])
          ]
        ]
      ]

      none_there : ((d : Declaration) → Among d ds → d.naming.name ≡ x → d.route.target.number ≡ c → ⊥) → get st.bindings c x ≡ None
      none_there f = seen_nothing st (get st.bindings c x) (none_alike (seen_as st (get st.bindings c x)) (subst (λ l. SeenAlike (seen_as st (get st.bindings c x)) (bound_by_all l)) (filter_none (is_in_scope c x) st.made nowhere) (h.counted c (λ e a n. ((λ q. absurd (f e a n q)), no_body_of e a n)))))
        where
          nowhere : (m : Made) → Among m st.made → is_in_scope c x m ≡ false
          nowhere m a = elim (eqb_tells m.declaration.route.target.number c) [
            | inr q ↦ and_left (m.declaration.route.target.number == c) (bytes_eq m.declaration.naming.name x) q.0
            | inl q ↦ elim (name_tells m.declaration.naming.name x) [
              | inr n ↦ and_right (m.declaration.route.target.number == c) (bytes_eq m.declaration.naming.name x) n.0
              | inl n ↦ absurd (f m.declaration (h.declared m a) n.1 q.1)
            ]
          ]

      abbrev new_at : ℕ → Option ℕ
      new_at e = get (take_over st.bindings c b) e x

      either : (get st.bindings c x ≡ None) ⊎ (get st.bindings b x ≡ None)
      either = elim (has_one ds) [
        | inl (d, a, n, q) ↦ subst (λ z. (get st.bindings z x ≡ None) ⊎ (get st.bindings b x ≡ None)) q (h.held d a n b (body_is d a q)).either
        | inr f ↦ inl (none_there f)
      ]

      none_if : (o : Option ℕ) → ((s : ℕ) → o ≡ Some s → ⊥) → o ≡ None
      none_if None f = refl
      none_if (Some s) f = absurd (f s refl)

      new_clause : new_at c ≡ None
      new_clause = none_if (new_at c) (λ s g. among_taken (record { scope = c; name = x; symbol = s }) st.bindings c b apart_scopes (get_among (take_over st.bindings c b) c x s g) refl)

      new_body : new_at b ≡ or_else (get st.bindings c x) (get st.bindings b x)
      new_body = elim either [
        | inl e ↦ get-take_over_kept st.bindings c b x e ∙ sym (ap (λ o. or_else o (get st.bindings b x)) e)
        | inr e ↦ get-take_over_body st.bindings c b x e ∙ sym (ap (or_else (get st.bindings c x)) e ∙ or_none (get st.bindings c x))
      ]

      new_other : (e : ℕ) → (e ≡ c → ⊥) → (e ≡ b → ⊥) → new_at e ≡ get st.bindings e x
      new_other e p q = get-take_over_other st.bindings c b e x p q

      -- a scope whose declarations stay
      new_free : (e : ℕ) → Free ds x e → new_at e ≡ get st.bindings e x
      new_free e f = elim (has_one ds) [
        | inl (d, a, n, q) ↦ new_other e (λ i. none_some b (sym ((f d a n).0 (q ∙ sym i)) ∙ body_is d a q)) (λ i. (f d a n).1 (body_is d a q ∙ ap Some (sym i)))
        | inr g ↦ elim (eqb_tells e c) [
          | inl q ↦ subst (λ z. new_at z ≡ get st.bindings z x) (sym q.1) (new_clause ∙ sym (none_there g))
          | inr q ↦ elim (eqb_tells e b) [
            | inl k ↦ subst (λ z. new_at z ≡ get st.bindings z x) (sym k.1) (get-take_over_kept st.bindings c b x (none_there g))
            | inr k ↦ new_other e q.1 k.1
          ]
        ]
      ]

      -- where what is bound was bound before
      new_from : (e s : ℕ) → new_at e ≡ Some s → (f : ℕ) × (get st.bindings f x ≡ Some s) × ((e ≡ f) ⊎ ((e ≡ b) × (f ≡ c)))
      new_from e s g = elim (eqb_tells e b) [
        | inl k ↦ elim (or_cases (get st.bindings c x) (get st.bindings b x) s (sym new_body ∙ ap new_at (sym k.1) ∙ g)) [
          | inl i ↦ (c, i, inr (k.1, refl))
          | inr i ↦ (b, i, inl k.1)
        ]
        | inr k ↦ elim (eqb_tells e c) [
          | inl q ↦ absurd (none_some s (sym new_clause ∙ ap new_at (sym q.1) ∙ g))
          | inr q ↦ (e, sym (new_other e q.1 k.1) ∙ g, inl refl)
        ]
      ]

      -- and where it stays
      new_kept : (e s : ℕ) → (e ≡ c → ⊥) → get st.bindings e x ≡ Some s → new_at e ≡ Some s
      new_kept e s p g = elim (eqb_tells e b) [
        | inr k ↦ new_other e p k.1 ∙ g
        | inl k ↦ subst (λ z. new_at z ≡ Some s) (sym k.1) (new_body ∙ at_body (get st.bindings c x) (get st.bindings b x) either (ap (λ z. get st.bindings z x) (sym k.1) ∙ g))
      ]
        where
          at_body : (o u : Option ℕ) → (o ≡ None) ⊎ (u ≡ None) → u ≡ Some s → or_else o u ≡ Some s
          at_body None u i j = j
          at_body (Some y) u (inl i) j = absurd cc
          at_body (Some y) u (inr i) j = absurd (none_some s (sym i ∙ j))

      new_moved : (s : ℕ) → get st.bindings c x ≡ Some s → new_at b ≡ Some s
      new_moved s g = new_body ∙ ap (λ o. or_else o (get st.bindings b x)) g

      abbrev taken : State
      taken = act st (takes_over c b)

      same_flag : (s : ℕ) → flags_of taken s ≡ flags_of st s
      same_flag s = rescoped_flags st.symbols (bound_by st.bindings c) b s

      -- two clauses have two bodies
      other_body : (d : Declaration) → Among d ds → d.naming.name ≡ x → (g : ℕ) → d.route.target.body ≡ Some g → (d.route.target.number ≡ c → ⊥) → new_at g ≡ get st.bindings g x
      other_body d a n g z other = elim (eqb_tells g b) [
        | inr k ↦ new_other g (λ i. no_body_of d a n (z ∙ ap Some i)) k.1
        | inl k ↦ elim (has_one ds) [
          | inr f ↦ subst (λ e. new_at e ≡ get st.bindings e x) (sym k.1) (get-take_over_kept st.bindings c b x (none_there f))
          | inl (e, i, m, q) ↦ absurd (other ((caught_alone table ds x known clear e i m b (body_is e i q)).sole d a (n ∙ sym m) (z ∙ ap Some k.1) ∙ q))
        ]
      ]

      taken_held : (d : Declaration) → Among d ds → d.naming.name ≡ x → (g : ℕ) → d.route.target.body ≡ Some g → IsHeld x taken d.route.target.number g
      taken_held d a n g z = elim (eqb_tells d.route.target.number c) [
        | inl q ↦ (let is_b : b ≡ g = some_is b g (sym (body_is d a q.1) ∙ z) in
            held_so x st taken d.route.target.number g (inl (ap new_at q.1 ∙ new_clause))
            (ap (λ e. or_else (new_at e) (new_at g)) q.1 ∙ ap (λ o. or_else o (new_at g)) new_clause ∙ ap new_at (sym is_b) ∙ new_body ∙ ap (λ e. or_else (get st.bindings e x) (get st.bindings b x)) (sym q.1) ∙ ap (λ e. or_else (get st.bindings d.route.target.number x) (get st.bindings e x)) is_b)
            refl (λ s o. same_flag s) (h.held d a n g z))
        | inr q ↦ held_kept x st taken d.route.target.number g
            (new_other d.route.target.number q.1 (λ i. none_some g (some_is None (Some g) (sym r.body ∙ ap (slice_get table) (sym i) ∙ known d a ∙ ap Some z))))
            (other_body d a n g z q.1) refl (λ s o. same_flag s) (h.held d a n g z)
      ]

      taken_state : ClearState x taken
      taken_state = record {
        counted = λ e f. subst (λ z. SeenAlike z (bound_by_all (filter (is_in_scope e x) st.made))) (sym (ap (seen_as taken) (new_free e f) ∙ seen_kept st taken (get st.bindings e x) (λ s g. same_flag s))) (h.counted e f);
        held = taken_held;
        same = λ m a e. elim (h.same m a e) [
          | inl g ↦ elim (eqb_tells m.declaration.route.target.number c) [
            | inl q ↦ inr (b, body_is m.declaration (h.declared m a) q.1, new_moved m.symbol (ap (λ z. get st.bindings z x) (sym q.1) ∙ g))
            | inr q ↦ inl (new_kept m.declaration.route.target.number m.symbol q.1 g)
          ]
          | inr (g, z, i) ↦ inr (g, z, new_kept g m.symbol (λ q. no_body_of m.declaration (h.declared m a) e (z ∙ ap Some q)) i)
        ];
        apart = apart;
        visible = λ e s g. (let (f, i, o) = new_from e s g in elim (h.visible f s i) [
          | inl j ↦ inl (ap (λ z. meets z symbol.FunctionExpression.bits) (same_flag s) ∙ j)
          | inr j ↦ inr (elim o [ inl q ↦ subst (IsOwnBound x st.made) (sym q) j | inr q ↦ absurd (never_own (subst (IsOwnBound x st.made) q.1 j)) ])
        ]);
        remembered = λ e s g. (let k : IsPassedWith x st e s = h.remembered e s g in
            record { bound = new_kept (v e) s (λ q. none_some b (some_is None (Some b) (sym k.lasts ∙ ap (slice_get table) q ∙ r.clause))) k.bound; lasts = k.lasts; covers = λ m i. ap (λ f. meets f m) (same_flag s) ∙ k.covers m i; untouched = k.untouched });
        declared = h.declared;
      }
        where
          -- a clause has no function's own name
          never_own : IsOwnBound x st.made c → ⊥
          never_own o = never (sym o.own ∙ (caught_alone table ds x known clear o.made.declaration (h.declared o.made o.among) o.named b (body_is o.made.declaration (h.declared o.made o.among) o.there)).other)

          apart : (e f s : ℕ) → new_at e ≡ Some s → new_at f ≡ Some s → e ≡ f
          apart e f s g k =
              let (y, i, o) = new_from e s g in
              let (z, j, u) = new_from f s k in
              let same : y ≡ z = h.apart y z s i j in
              elim o [
                | inl q ↦ elim u [
                  | inl w ↦ q ∙ same ∙ sym w
                  | inr w ↦ absurd (none_some s (sym new_clause ∙ ap new_at (sym (q ∙ same ∙ w.1)) ∙ g))
                ]
                | inr q ↦ elim u [
                  | inl w ↦ absurd (none_some s (sym new_clause ∙ ap new_at (sym (w ∙ sym same ∙ q.1)) ∙ k))
                  | inr w ↦ q.0 ∙ sym w.0
                ]
              ]

  -- ---- all events

  abbrev AllAmong : List Event → Type 0
  AllAmong es = (d : Declaration) → Among d (declarations es) → Among d ds

  one_event : (x : Name) (st : State) (e : Event) (es : List Event) → IsReady table st e → Sound table st → AllKnown table ds → AllClear table ds x → AllAmong (e ∷ es) → AllEventsLed v table (e ∷ es) → IsMadeOnce (run st (e ∷ es)).made → ClearState x st → ClearState x (act st e)
  one_event x st (declares d) es ready sound known clear all led once h = elim (name_tells d.naming.name x) [
    | inl q ↦ own_state x known clear st d q.1 (all d (inl refl)) (not_yet st d es once) led.0 sound h
    | inr q ↦ other_state x st d (all d (inl refl)) q.1 ready sound h
  ]
  one_event x st (takes_over c b) es ready sound known clear all led once h = taken_state x known clear st c b ready h
  one_event x st (ends_header c) es ready sound known clear all led once h = h

  among_rest : (e : Event) (es : List Event) → AllAmong (e ∷ es) → AllAmong es
  among_rest (declares d) es all f a = all f (inr a)
  among_rest (takes_over c b) es all f a = all f a
  among_rest (ends_header c) es all f a = all f a

  led_rest : (e : Event) (es : List Event) → AllEventsLed v table (e ∷ es) → AllEventsLed v table es
  led_rest (declares d) es l = l.1
  led_rest (takes_over c b) es l = l
  led_rest (ends_header c) es l = l

  clear_run : (x : Name) (st : State) (es : List Event) → Orderly table st es → Sound table st → AllKnown table ds → AllClear table ds x → AllAmong es → AllEventsLed v table es → IsMadeOnce (run st es).made → ClearState x st → ClearState x (run st es)
  clear_run x st [] order sound known clear all led once h = h
  clear_run x st (e ∷ es) order sound known clear all led once h =
      clear_run x (act st e) es order.1 (sound_act table st e order.0 sound) known clear (among_rest e es all) (led_rest e es led) once (one_event x st e es order.0 sound known clear all led once h)

  pub clear_in_end : (x : Name) (es : List Event) → Orderly table start es → Sound table start → AllKnown table ds → AllClear table ds x → AllAmong es → AllEventsLed v table es → IsMadeOnce (run start es).made → ClearState x (run start es)
  clear_in_end x es order sound known clear all led once = clear_run x start es order sound known clear all led once (clear_start x)
