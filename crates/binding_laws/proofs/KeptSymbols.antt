-- A scope keeps the symbol of its name through what doesn't take the name from it.
use Rattle.std.proofs.Common.{◌≡◌, ℕ, ◌<◌, List, [], ◌∷◌, ◌++◌, Option, Some, None, Bool, true, false, cond, ◌==◌, ◌⊎◌, inl, inr, refl, sym, ap, subst, ◌∙◌, length, map, bytes_eq}
use Rattle.std.specs.Prelude.{slice_get}
use Rattle.std.proofs.lemmas.Bool.{ne_eqb, and_left, and_right, or_parts, cases_Bool}
use Rattle.semantic_syntax.specs.declared.symbol_flags.TheConstants.SymbolFlags as symbol
use Rattle.semantic_syntax.specs.Members.{contains}
use Rattle.semantic_syntax.specs.Sets.{meets, union}
use Rattle.semantic_syntax.specs.Tables.{Name}
use Rattle.semantic_model.specs.Binding.{Binding, get, put, remove, move}
use Rattle.semantic_model.specs.Declaration.{How, plain, hoisted, moved, caught, Declaration, stands_in}
use Rattle.semantic_model.specs.Entries.{Among}
use Rattle.semantic_model.specs.Event.{Event, declares, takes_over, ends_header}
use Rattle.semantic_model.specs.Fold.{State, Made, Conflict, conflict_with, make, found, or_else, unless_expression, update, redeclared, united, note_symbol, against, declare_in, chosen, flags_of, flags_or_none, in_scope, new_symbol}
use Rattle.semantic_model.specs.Hoist.{PassedSymbol, passed_symbol, passed_symbol_or, counts, asked_symbols, against_all, remember, remembering, move_symbol, hoist_by, move_out, declare_by, act}
use Rattle.semantic_model.specs.Place.{OpenScope}
use Rattle.semantic_model.proofs.fold.Actions.{unless_some}
use Rattle.semantic_model.proofs.fold.Orders.{Adds, adds}
use Rattle.semantic_model.proofs.lists.BindingLaws.{same_key, same_key_tells, get-put_same, get-put_other, get-remove, get-remove_other}
use Rattle.semantic_model.proofs.lists.Bounds.{IsSound, found_below}
use Rattle.semantic_model.proofs.lists.Members.{among_left, among_last, among_more}
use Rattle.semantic_model.proofs.lists.SymbolLaws.{get-last}
use Rattle.semantic_model.proofs.once.ListedUnder.{name_tells}
use Rattle.semantic_model.proofs.once.UseLists.{IsBelow}
use Rattle.binding_laws.specs.SeenDeclarations.{is_own_name}
use Rattle.binding_laws.specs.OneSymbol.{first_scope, Stays, BindsIn, Follows, IsConflictTold}
use Rattle.binding_laws.proofs.Growing.{Grown, KeepConflicts, meets_neither, meets_first, meets_second, entry_below, more_flags, same_flags, grown_act, conflicts_stay}

abbrev pub expression : ℕ
expression = symbol.FunctionExpression.bits

own_key : (k : ℕ) (y : Name) → same_key k y k y ≡ true
own_key k y = elim (same_key_tells k k y y) [ inl q ↦ q.0 | inr q ↦ absurd (q.1 (refl, refl)) ]

-- what is found is no own name's
unless_other : (flags : ℕ → ℕ) (o : Option ℕ) (s : ℕ) → unless_expression flags o ≡ Some s → meets (flags s) expression ≡ false
unless_other flags None s h = absurd cc
unless_other flags (Some r) s h = by (meets (flags r) expression) refl h
  where
    by : (t : Bool) → meets (flags r) expression ≡ t → cond t None (Some r) ≡ Some s → meets (flags s) expression ≡ false
    by true e q = absurd cc
    by false e q = let i : r ≡ s = cc in subst (λ k. meets (flags k) expression ≡ false) i e

-- of a scope that is a block from which a function of the name moves, or isn't
module _ (block : Bool) (c : ℕ) (x : Name) where
  -- the symbol of the declaration is found in the scope
  pub record IsBoundTo (st : State) (m : Made) : Type 0 where
    pub bound : found st c x ≡ Some m.symbol
    pub has : (f : ℕ) → meets m.declaration.naming.flags f ≡ true → meets (flags_of st m.symbol) f ≡ true

  -- conflicts among some declarations are told
  abbrev pub AreTold : List Made → List Conflict → Type 0
  AreTold ms ks = (m n : Made) → Follows m n ms → BindsIn c x m.declaration → BindsIn c x n.declaration → meets m.declaration.naming.flags n.declaration.naming.excluded ≡ true → IsConflictTold n.declaration ks

  pub record Keeps (st : State) : Type 0 where
    pub bound_to : (m : Made) → Among m st.made → BindsIn c x m.declaration → IsBoundTo st m
    pub bare : block ≡ false → get st.remembered c x ≡ None
    pub told : AreTold st.made st.conflicts

  told_later : (n : Made) (ks ls : List Conflict) → ((k : Conflict) → Among k ks → Among k ls) → IsConflictTold n.declaration ks → IsConflictTold n.declaration ls
  told_later n ks ls f h = record { earlier = h.earlier; among = f _ h.among }

  pub all_later : (ms : List Made) (ks ls : List Conflict) → ((k : Conflict) → Among k ks → Among k ls) → AreTold ms ks → AreTold ms ls
  all_later ms ks ls f h m n o i j e = told_later n ks ls f (h m n o i j e)

  follows_push : (m n k : Made) (ms : List Made) → Follows m n (ms ++ k ∷ []) → Follows m n ms ⊎ (Among m ms × (k ≡ n))
  follows_push m n k [] (inl f) = absurd f.1
  follows_push m n k [] (inr f) = absurd f
  follows_push m n k (y ∷ ms) (inl f) = elim (among_more n k ms f.1) [ inl a ↦ inl (inl (f.0, a)) | inr q ↦ inr (inl f.0, q) ]
  follows_push m n k (y ∷ ms) (inr f) = elim (follows_push m n k ms f) [ inl a ↦ inl (inr a) | inr q ↦ inr (inr q.0, q.1) ]

  pub follows_first : (m n : Made) (ms : List Made) → Follows m n ms → Among m ms
  follows_first m n [] f = absurd f
  follows_first m n (y ∷ ms) (inl f) = inl f.0
  follows_first m n (y ∷ ms) (inr f) = inr (follows_first m n ms f)

  -- one more declaration, which is told if it conflicts
  pub told_push : (ms : List Made) (k : Made) (ks : List Conflict) → AreTold ms ks → ((m : Made) → Among m ms → BindsIn c x m.declaration → BindsIn c x k.declaration → meets m.declaration.naming.flags k.declaration.naming.excluded ≡ true → IsConflictTold k.declaration ks) → AreTold (ms ++ k ∷ []) ks
  told_push ms k ks h g m n f i j e = elim (follows_push m n k ms f) [
    | inl a ↦ h m n a i j e
    | inr q ↦ subst (λ (o : Made). IsConflictTold o.declaration ks) q.1 (g m q.0 i (subst (λ (o : Made). BindsIn c x o.declaration) (sym q.1) j) (subst (λ (o : Made). meets m.declaration.naming.flags o.declaration.naming.excluded ≡ true) (sym q.1) e))
  ]

  -- another scope or name
  abbrev Off : ℕ → Name → Type 0
  Off k y = same_key k y c x ≡ false

  off_scope : (k : ℕ) (y : Name) → (k ≡ c → ⊥) → Off k y
  off_scope k y n = and_left (k == c) (bytes_eq y x) (ne_eqb k c n)

  off_name : (k : ℕ) (y : Name) → bytes_eq y x ≡ false → Off k y
  off_name k y e = and_right (k == c) (bytes_eq y x) e

  abbrev AllOff : Name → List OpenScope → Type 0
  AllOff y [] = Unit {0}
  AllOff y (s ∷ ss) = Off s.number y × AllOff y ss

  record Unchanged (st new : State) : Type 0 where
    bindings : get new.bindings c x ≡ get st.bindings c x
    remembered : get new.remembered c x ≡ get st.remembered c x

  then_unchanged : (a b d : State) → Unchanged a b → Unchanged b d → Unchanged a d
  then_unchanged a b d h k = record { bindings = k.bindings ∙ h.bindings; remembered = k.remembered ∙ h.remembered }

  declare_off : (st : State) (t : ℕ) (d : Declaration) (o : Option ℕ) → Off t d.naming.name → Unchanged st (declare_in st t d o)
  declare_off st t d None h = record { bindings = get-put_other st.bindings t d.naming.name (length st.symbols) c x h; remembered = refl }
  declare_off st t d (Some s) h = record { bindings = refl; remembered = refl }

  remember_off : (bs : List Binding) (cs : List OpenScope) (y : Name) (s : ℕ) → AllOff y cs → get (remember bs cs y s) c x ≡ get bs c x
  remember_off bs [] y s h = refl
  remember_off bs (k ∷ cs) y s h = remember_off (put bs k.number y s) cs y s h.1 ∙ get-put_other bs k.number y s c x h.0

  remembering_off : (st : State) (cs : List OpenScope) (y : Name) (s : ℕ) → AllOff y cs → Unchanged st (remembering st cs y s)
  remembering_off st cs y s h = record { bindings = refl; remembered = remember_off st.remembered cs y s h }

  put_off : (bs : List Binding) (a t : ℕ) (y : Name) (s : ℕ) → Off a y → Off t y → get (put (remove bs a y) t y s) c x ≡ get bs c x
  put_off bs a t y s h k = get-put_other (remove bs a y) t y s c x k ∙ get-remove_other bs a y c x h

  move_off : (bs : List Binding) (a t : ℕ) (y : Name) → Off a y → Off t y → get (move bs a t y) c x ≡ get bs c x
  move_off bs a t y h k = by (get bs a y)
    where
      by : (o : Option ℕ) → get (elim o [ None ↦ bs | Some s ↦ put (remove bs a y) t y s ]) c x ≡ get bs c x
      by None = refl
      by (Some s) = put_off bs a t y s h k

  -- no declaration that binds it is there yet
  abbrev pub NoneBinds : State → Type 0
  NoneBinds st = (m : Made) → Among m st.made → BindsIn c x m.declaration → ⊥

  none_found : (st : State) → Keeps st → found st c x ≡ None → NoneBinds st
  none_found st h e m a b = let q : None ≡ Some m.symbol = sym e ∙ (h.bound_to m a b).bound in absurd cc

  none_bound : (st : State) → Keeps st → block ≡ false → get st.bindings c x ≡ None → NoneBinds st
  none_bound st h z e = none_found st h (ap (λ o. unless_expression (flags_of st) (or_else o (get st.remembered c x))) e ∙ ap (unless_expression (flags_of st)) (h.bare z))

  pub found_within : (st : State) (s : ℕ) → IsSound st → found st c x ≡ Some s → s < length st.symbols
  found_within st s b h = subst (IsBelow (length st.symbols)) h (found_below (length st.symbols) st c x b)

  pub found_other : (st : State) (s : ℕ) → found st c x ≡ Some s → meets (flags_of st s) expression ≡ false
  found_other st s h = unless_other (flags_of st) (or_else (get st.bindings c x) (get st.remembered c x)) s h

  -- what is found is found again, unless it becomes an own name's
  pub found_kept : (st new : State) (s : ℕ) → get new.bindings c x ≡ get st.bindings c x → get new.remembered c x ≡ get st.remembered c x → meets (flags_of new s) expression ≡ false → found st c x ≡ Some s → found new c x ≡ Some s
  found_kept st new s e q o h =
      ap (λ b. unless_expression (flags_of new) (or_else b (get new.remembered c x))) e
      ∙ ap (λ r. unless_expression (flags_of new) (or_else (get st.bindings c x) r)) q
      ∙ ap (unless_expression (flags_of new)) (unless_some st (or_else (get st.bindings c x) (get st.remembered c x)) s h)
      ∙ ap (λ t. cond t None (Some s)) o

  bound_grown : (flags : ℕ) (st new : State) (m : Made) → Grown flags st new → meets flags expression ≡ false → Unchanged st new → IsSound st → IsBoundTo st m → IsBoundTo new m
  bound_grown flags st new m g n u b h = record {
    bound = found_kept st new m.symbol u.bindings u.remembered (elim (g.each m.symbol within) [
      | inl q ↦ ap (λ f. meets f expression) q ∙ found_other st m.symbol h.bound
      | inr q ↦ ap (λ f. meets f expression) q ∙ meets_neither (flags_of st m.symbol) flags expression (found_other st m.symbol h.bound) n
    ]) h.bound;
    has = λ f k. elim (g.each m.symbol within) [
      | inl q ↦ ap (λ n. meets n f) q ∙ h.has f k
      | inr q ↦ ap (λ n. meets n f) q ∙ meets_first (flags_of st m.symbol) flags f (h.has f k)
    ];
  }
    where
      within : m.symbol < length st.symbols
      within = found_within st m.symbol b h.bound

  -- one more declaration that doesn't bind it
  binds_more : (st new : State) (d : Declaration) (P : Made → Type 0) → Adds st.made d new.made → (BindsIn c x d → ⊥) → ((m : Made) → Among m st.made → BindsIn c x m.declaration → P m) → (m : Made) → Among m new.made → BindsIn c x m.declaration → P m
  binds_more st new d P w n h m a i = elim (among_more m (record { declaration = d; symbol = w.symbol }) st.made (subst (Among m) w.adds a)) [
    | inl k ↦ h m k i
    | inr q ↦ absurd (n (subst (λ (k : Made). BindsIn c x k.declaration) (sym q) i))
  ]

  -- where it doesn't bind the name
  pub told_more : (st new : State) (d : Declaration) → Adds st.made d new.made → (BindsIn c x d → ⊥) → AreTold st.made new.conflicts → AreTold new.made new.conflicts
  told_more st new d w f h = subst (λ ms. AreTold ms new.conflicts) (sym w.adds) (told_push st.made (record { declaration = d; symbol = w.symbol }) new.conflicts h (λ m a i j e. absurd (f j)))

  unchanged_keeps : (st new : State) (d : Declaration) → Unchanged st new → Grown d.naming.flags st new → KeepConflicts st new → is_own_name d ≡ false → Adds st.made d new.made → (BindsIn c x d → ⊥) → IsSound st → Keeps st → Keeps new
  unchanged_keeps st new d u g k n w f b h = record {
    bound_to = binds_more st new d (IsBoundTo new) w f (λ m a i. bound_grown d.naming.flags st new m g n u b (h.bound_to m a i));
    bare = λ z. u.remembered ∙ h.bare z;
    told = told_more st new d w f (all_later st.made st.conflicts new.conflicts k h.told);
  }

  -- nothing binds it, and what comes doesn't either
  empty_keeps : (st new : State) (d : Declaration) → Adds st.made d new.made → (BindsIn c x d → ⊥) → NoneBinds st → (block ≡ false → get new.remembered c x ≡ None) → Keeps new
  empty_keeps st new d w f e r = record {
    bound_to = λ m a i. absurd (binds_more st new d (λ k. ⊥) w f e m a i);
    bare = r;
    told = told_more st new d w f (λ m n o i j q. absurd (e m (follows_first m n st.made o) i));
  }

  -- declared in the scope itself
  here_keeps : (st : State) (d : Declaration) (t : ℕ) → t ≡ c → d.naming.name ≡ x → is_own_name d ≡ false → IsSound st → Keeps st → Keeps (declare_in st t d (found st t d.naming.name))
  here_keeps st d t et ey n b h = subst (λ k. Keeps (declare_in st k d (found st k d.naming.name))) (sym et) (subst (λ o. Keeps (declare_in st c d o)) (sym (ap (found st c) ey)) (by (found st c x) refl))
    where
      anew : NoneBinds st → Keeps (declare_in st c d None)
      anew e = record {
        bound_to = λ m a i. elim (among_more m (record { declaration = d; symbol = length st.symbols }) st.made a) [
          | inl k ↦ absurd (e m k i)
          | inr q ↦ subst (IsBoundTo (make st c d)) q (record {
            bound = ap (λ o. unless_expression (flags_of (make st c d)) (or_else o (get st.remembered c x))) (ap (λ y. get (put st.bindings c d.naming.name (length st.symbols)) c y) (sym ey) ∙ get-put_same st.bindings c d.naming.name (length st.symbols))
                ∙ ap (λ t. cond t None (Some (length st.symbols))) (ap (λ o. meets (flags_or_none o) expression) (get-last st.symbols (new_symbol c d.naming)) ∙ n);
            has = λ f k. ap (λ o. meets (flags_or_none o) f) (get-last st.symbols (new_symbol c d.naming)) ∙ k;
          })
        ];
        bare = h.bare;
        told = told_push st.made (record { declaration = d; symbol = length st.symbols }) st.conflicts h.told (λ m a i j q. absurd (e m a i));
      }

      joined : (s : ℕ) → found st c x ≡ Some s → Keeps (declare_in st c d (Some s))
      joined s g = record {
        bound_to = λ m a i. elim (among_more m (record { declaration = d; symbol = s }) st.made a) [
          | inl k ↦ again m (h.bound_to m k i).bound (λ f w. meets_first (flags_of st s) d.naming.flags f (ap (λ r. meets (flags_of st r) f) (same_symbol m (h.bound_to m k i).bound) ∙ (h.bound_to m k i).has f w))
          | inr q ↦ again m (g ∙ ap (λ (k : Made). Some k.symbol) q) (λ f w. meets_second (flags_of st s) d.naming.flags f (ap (λ (k : Made). meets k.declaration.naming.flags f) q ∙ w))
        ];
        bare = h.bare;
        told = told_push st.made (record { declaration = d; symbol = s }) (declare_in st c d (Some s)).conflicts
            (all_later st.made st.conflicts (declare_in st c d (Some s)).conflicts (λ k a. among_left k st.conflicts (conflict_with d.naming (slice_get st.symbols s)) a) h.told)
            (λ m a i j q. telling m (h.bound_to m a i) q);
      }
        where
          within : s < length st.symbols
          within = found_within st s b g

          same_symbol : (m : Made) → found st c x ≡ Some m.symbol → s ≡ m.symbol
          same_symbol m k = let e : Some s ≡ Some m.symbol = sym g ∙ k in let i : s ≡ m.symbol = cc in i

          joined_flags : flags_of (declare_in st c d (Some s)) s ≡ union (flags_of st s) d.naming.flags
          joined_flags = more_flags (λ y. united d.naming.flags (redeclared d.naming y)) d.naming.flags st.symbols s (λ y. refl) within

          joined_other : meets (flags_of (declare_in st c d (Some s)) s) expression ≡ false
          joined_other = ap (λ f. meets f expression) joined_flags ∙ meets_neither (flags_of st s) d.naming.flags expression (found_other st s g) n

          telling : (m : Made) → IsBoundTo st m → meets m.declaration.naming.flags d.naming.excluded ≡ true → IsConflictTold d (st.conflicts ++ conflict_with d.naming (slice_get st.symbols s))
          telling m k q =
              let (y, there) = entry_below st.symbols s within in
              let met : meets y.flags.bits d.naming.excluded ≡ true =
              ap (λ o. meets (flags_or_none o) d.naming.excluded) (sym there) ∙ ap (λ r. meets (flags_of st r) d.naming.excluded) (same_symbol m k.bound) ∙ k.has d.naming.excluded q in
              let one : Conflict = record { name = d.naming.name; earlier = y.span; later = d.naming.span } in
              let is_one : conflict_with d.naming (slice_get st.symbols s) ≡ one ∷ [] = ap (conflict_with d.naming) there ∙ ap (λ t. cond t (one ∷ []) []) met in
              record { earlier = y.span; among = subst (λ ks. Among one (st.conflicts ++ ks)) (sym is_one) (among_last one st.conflicts) }

          again : (m : Made) → found st c x ≡ Some m.symbol → ((f : ℕ) → meets m.declaration.naming.flags f ≡ true → meets (union (flags_of st s) d.naming.flags) f ≡ true) → IsBoundTo (declare_in st c d (Some s)) m
          again m k w = record {
            bound = found_kept st (declare_in st c d (Some s)) s refl refl joined_other g ∙ ap (λ r. Some r) (same_symbol m k);
            has = λ f v. subst (λ r. meets (flags_of (declare_in st c d (Some s)) r) f ≡ true) (same_symbol m k) (ap (λ a. meets a f) joined_flags ∙ w f v);
          }

      by : (o : Option ℕ) → found st c x ≡ o → Keeps (declare_in st c d o)
      by None g = anew (none_found st h g)
      by (Some s) g = joined s g

  -- at its target, or off
  at_target : (st : State) (d : Declaration) → first_scope d.how d ≡ d.route.target.number → (Unchanged st (declare_in st d.route.target.number d (found st d.route.target.number d.naming.name)) × (BindsIn c x d → ⊥)) ⊎ ((d.route.target.number ≡ c) × (d.naming.name ≡ x))
  at_target st d f = elim (same_key_tells d.route.target.number c d.naming.name x) [
    | inl q ↦ inr (q.1, q.2)
    | inr q ↦ inl (declare_off st d.route.target.number d (found st d.route.target.number d.naming.name) q.0, λ i. q.1 (sym f ∙ i.scope, i.named))
  ]

  -- what is passed lies off
  passed_off : (y : Name) (cs : List OpenScope) → (y ≡ x → contains (map (λ s. s.number) cs) c ≡ false) → AllOff y cs
  passed_off y [] h = tt
  passed_off y (s ∷ ss) h = elim (name_tells y x) [
    | inl q ↦ (let k : ((s.number == c) ≡ false) × (contains (map (λ t. t.number) ss) c ≡ false) = or_parts (s.number == c) (contains (map (λ t. t.number) ss) c) (h q.1) in (and_left (s.number == c) (bytes_eq y x) k.0, passed_off y ss (λ e. k.1)))
    | inr q ↦ (off_name s.number y q.0, passed_off y ss (λ e. absurd (q.1 e)))
  ]

  -- the scope of the symbol that is passed is one of those
  passed_in : (st : State) (y : Name) (cs : List OpenScope) (r : PassedSymbol) → AllOff y cs → passed_symbol st cs y ≡ Some r → Off r.scope y
  passed_in st y [] r a e = absurd cc
  passed_in st y (s ∷ ss) r a e = by (passed_in st y ss r a.1) (counts st (found st s.number y)) (found st s.number y) e
    where
      by : (passed_symbol st ss y ≡ Some r → Off r.scope y) → (t : Bool) (o : Option ℕ) → cond t (passed_symbol_or s.number o) (passed_symbol st ss y) ≡ Some r → Off r.scope y
      by rest true None q = absurd cc
      by rest true (Some z) q = let i : s.number ≡ r.scope = ap scope_or q in subst (λ k. Off k y) i a.0
        where
          scope_or : Option PassedSymbol → ℕ
          scope_or None = s.number
          scope_or (Some g) = g.scope
      by rest false o q = rest q

  against_off : (st : State) (d : Declaration) (ss : List ℕ) → Unchanged st (against_all st d ss)
  against_off st d [] = record { bindings = refl; remembered = refl }
  against_off st d (s ∷ ss) = then_unchanged st (against st d s) (against_all st d (s ∷ ss)) (record { bindings = refl; remembered = refl }) (against_off (against st d s) d ss)

  against_keeps : (st : State) (d : Declaration) (ss : List ℕ) → IsSound st → Keeps st → IsSound (against_all st d ss) × Keeps (against_all st d ss)
  against_keeps st d [] b h = (b, h)
  against_keeps st d (s ∷ ss) b h = against_keeps (against st d s) d ss (record { bindings = b.bindings; remembered = b.remembered }) (record { bound_to = λ m a i. let k : IsBoundTo st m = h.bound_to m a i in record { bound = k.bound; has = k.has }; bare = h.bare; told = all_later st.made st.conflicts (against st d s).conflicts (λ k a. among_left k st.conflicts (conflict_with d.naming (slice_get st.symbols s)) a) h.told })

  remembering_keeps : (st : State) (cs : List OpenScope) (y : Name) (s : ℕ) → AllOff y cs → Keeps st → Keeps (remembering st cs y s)
  remembering_keeps st cs y s h k = record {
    bound_to = λ m a i. let g : IsBoundTo st m = k.bound_to m a i in record { bound = found_kept st (remembering st cs y s) m.symbol refl (remember_off st.remembered cs y s h) (found_other st m.symbol g.bound) g.bound; has = g.has };
    bare = λ z. remember_off st.remembered cs y s h ∙ k.bare z;
    told = k.told;
  }

  -- what a declaration does to the name in the scope: nothing; something, but nothing binds it so far; or it binds it there
  data Outcome (st : State) (d : Declaration) (new : State) : Type 0 where
    same : Unchanged st new → (BindsIn c x d → ⊥) → Outcome st d new
    empty : NoneBinds st → (block ≡ false → get new.remembered c x ≡ None) → (BindsIn c x d → ⊥) → Outcome st d new
    direct : Keeps new → Outcome st d new

  -- where the target lacks the name
  lacks : (st : State) (t : ℕ) (y : Name) → t ≡ c → y ≡ x → get st.bindings t y ≡ None → get st.bindings c x ≡ None
  lacks st t y et ey e = ap (λ k. get st.bindings k x) (sym et) ∙ ap (λ z. get st.bindings t z) (sym ey) ∙ e

  passes : (d : Declaration) (r : PassedSymbol) (st : State) (passed : List OpenScope) → d.route.passed ≡ passed → passed_symbol st passed d.naming.name ≡ Some r → d.route.passed ≡ [] → ⊥
  passes d r st [] p q i = absurd cc
  passes d r st (s ∷ ss) p q i = let w : [] ≡ s ∷ ss = sym i ∙ p in absurd cc

  not_past : (d : Declaration) → d.how ≡ hoisted → (d.route.passed ≡ [] → ⊥) → BindsIn c x d → ⊥
  not_past d e n i = by i.stays
    where
      by : Stays d → ⊥
      by (inl k) = let w : plain ≡ hoisted = sym k ∙ e in absurd cc
      by (inr (inl k)) = let w : moved ≡ hoisted = sym k ∙ e in absurd cc
      by (inr (inr k)) = n k.1

  hoist_outcome : (st noted : State) (d : Declaration) (o : Option PassedSymbol) → d.how ≡ hoisted → (block ≡ true → (d.route.passed ≡ [] → ⊥) → d.route.target.number ≡ c → ⊥) → passed_symbol noted d.route.passed d.naming.name ≡ o → AllOff d.naming.name d.route.passed → is_own_name d ≡ false → Unchanged st noted → IsSound noted → Keeps noted → Keeps st → Outcome st d (hoist_by noted d o)
  hoist_outcome st noted d None e reach q a n u b h hs =
      let t : ℕ = d.route.target.number in
      let next : State = declare_in noted t d (found noted t d.naming.name) in
      let z : ℕ = chosen noted (found noted t d.naming.name) in
      elim (at_target noted d (ap (λ how. first_scope how d) e)) [
        | inl k ↦ same (then_unchanged st noted (hoist_by noted d None) u (then_unchanged noted next (hoist_by noted d None) k.0 (remembering_off next d.route.passed d.naming.name z a))) k.1
        | inr k ↦ direct (remembering_keeps next d.route.passed d.naming.name z a (here_keeps noted d t k.0 k.1 n b h))
      ]
  hoist_outcome st noted d (Some r) e reach q a n u b h hs = elim (same_key_tells t c d.naming.name x) [
    | inr k ↦ unmoved (away k.0 (get noted.bindings t d.naming.name))
    | inl k ↦ by (get noted.bindings t d.naming.name) refl k.1 k.2
  ]
    where
      t : ℕ
      t = d.route.target.number

      new : State
      new = hoist_by noted d (Some r)

      got : State
      got = note_symbol (record noted { symbols = update (redeclared d.naming) noted.symbols r.symbol }) d r.symbol

      went : Option ℕ → State
      went o = move_symbol got r.scope t d.naming.name r.symbol o

      past : d.route.passed ≡ [] → ⊥
      past = passes d r noted d.route.passed refl q

      nowhere : BindsIn c x d → ⊥
      nowhere = not_past d e past

      remembers : (o : Option ℕ) → (went o).remembered ≡ noted.remembered
      remembers None = refl
      remembers (Some z) = refl

      recalled : get new.remembered c x ≡ get noted.remembered c x
      recalled = remember_off (went (get noted.bindings t d.naming.name)).remembered d.route.passed d.naming.name r.symbol a ∙ ap (λ bs. get bs c x) (remembers (get noted.bindings t d.naming.name))

      unmoved : get (went (get noted.bindings t d.naming.name)).bindings c x ≡ get noted.bindings c x → Outcome st d new
      unmoved k = same (then_unchanged st noted new u (record { bindings = k; remembered = recalled })) nowhere

      away : same_key t d.naming.name c x ≡ false → (o : Option ℕ) → get (went o).bindings c x ≡ get noted.bindings c x
      away k None = put_off noted.bindings r.scope t d.naming.name r.symbol (passed_in noted d.naming.name d.route.passed r a q) k
      away k (Some z) = refl

      by : (o : Option ℕ) → get noted.bindings t d.naming.name ≡ o → t ≡ c → d.naming.name ≡ x → Outcome st d new
      by (Some z) g i j = unmoved (ap (λ o. get (went o).bindings c x) g)
      by None g i j = elim (cases_Bool block) [
        | inl z ↦ absurd (reach z past i)
        | inr z ↦ empty (none_bound st hs z (sym u.bindings ∙ lacks noted t d.naming.name i j g)) (λ y. recalled ∙ h.bare y) nowhere
      ]

  -- a `var` of another name
  other_hoisted : (st noted : State) (d : Declaration) (o : Option PassedSymbol) → bytes_eq d.naming.name x ≡ false → (d.naming.name ≡ x → ⊥) → d.how ≡ hoisted → Unchanged st noted → Outcome st d (hoist_by noted d o)
  other_hoisted st noted d o k n e u = same (then_unchanged st noted (hoist_by noted d o) u (by o)) (λ i. n i.named)
    where
      all_off : (cs : List OpenScope) → AllOff d.naming.name cs
      all_off [] = tt
      all_off (s ∷ ss) = (off_name s.number d.naming.name k, all_off ss)

      by : (o : Option PassedSymbol) → Unchanged noted (hoist_by noted d o)
      by None =
          let f : Option ℕ = found noted d.route.target.number d.naming.name in
          let next : State = declare_in noted d.route.target.number d f in
          then_unchanged noted next (hoist_by noted d None) (declare_off noted d.route.target.number d f (off_name d.route.target.number d.naming.name k)) (remembering_off next d.route.passed d.naming.name (chosen noted f) (all_off d.route.passed))
      by (Some r) = then_unchanged noted (went (get noted.bindings d.route.target.number d.naming.name)) (hoist_by noted d (Some r)) (going (get noted.bindings d.route.target.number d.naming.name))
          (remembering_off (went (get noted.bindings d.route.target.number d.naming.name)) d.route.passed d.naming.name r.symbol (all_off d.route.passed))
        where
          got : State
          got = note_symbol (record noted { symbols = update (redeclared d.naming) noted.symbols r.symbol }) d r.symbol

          went : Option ℕ → State
          went o2 = move_symbol got r.scope d.route.target.number d.naming.name r.symbol o2

          going : (o2 : Option ℕ) → Unchanged noted (went o2)
          going None = record { bindings = put_off noted.bindings r.scope d.route.target.number d.naming.name r.symbol (off_name r.scope d.naming.name k) (off_name d.route.target.number d.naming.name k); remembered = refl }
          going (Some z) = record { bindings = refl; remembered = refl }

  -- a declaration that doesn't take the name from the scope, nor brings another symbol there from a scope further in
  abbrev pub IsFreeBy : How → Declaration → Type 0
  IsFreeBy plain d = Unit {0}
  IsFreeBy hoisted d = (contains (map (λ s. s.number) d.route.passed) c ≡ false) × (block ≡ true → (d.route.passed ≡ [] → ⊥) → d.route.target.number ≡ c → ⊥)
  IsFreeBy moved d = (block ≡ false → stands_in d ≡ c → ⊥) × (block ≡ true → d.route.target.number ≡ c → ⊥)
  IsFreeBy caught d = (d.route.target.number == c) ≡ false

  abbrev pub IsFree : Event → Type 0
  IsFree (declares d) = d.naming.name ≡ x → IsFreeBy d.how d
  IsFree (takes_over a b) = Unit {0}
  IsFree (ends_header b) = Unit {0}

  off_unless : (k : ℕ) (y : Name) → (y ≡ x → (k == c) ≡ false) → Off k y
  off_unless k y f = elim (name_tells y x) [ inl q ↦ and_left (k == c) (bytes_eq y x) (f q.1) | inr q ↦ off_name k y q.0 ]

  -- a block function of another block or name
  module _ (st : State) (d : Declaration) (e : d.how ≡ moved) where
    abbrev next : State
    next = declare_in st (stands_in d) d (found st (stands_in d) d.naming.name)

    abbrev given : ℕ
    given = chosen st (found st (stands_in d) d.naming.name)

    abbrev out : Option ℕ → State
    out o = move_out next (stands_in d) d.route.target.number d.naming.name given o

    elsewhere_outcome : same_key (stands_in d) d.naming.name c x ≡ false → (BindsIn c x d → ⊥) → (block ≡ true → d.naming.name ≡ x → d.route.target.number ≡ c → ⊥) → Keeps st → Outcome st d (declare_by moved st d)
    elsewhere_outcome k nowhere reach h = elim (same_key_tells d.route.target.number c d.naming.name x) [
      | inr q ↦ unmoved (away q.0 (get st.bindings d.route.target.number d.naming.name))
      | inl q ↦ by (get st.bindings d.route.target.number d.naming.name) refl q.1 q.2
    ]
      where
        first : Unchanged st next
        first = declare_off st (stands_in d) d (found st (stands_in d) d.naming.name) k

        remembers : (o : Option ℕ) → get (out o).remembered c x ≡ get next.remembered c x
        remembers None = get-put_other next.remembered (stands_in d) d.naming.name given c x k
        remembers (Some r) = refl

        unmoved : get (out (get st.bindings d.route.target.number d.naming.name)).bindings c x ≡ get next.bindings c x → Outcome st d (declare_by moved st d)
        unmoved q = same (then_unchanged st next (declare_by moved st d) first (record { bindings = q; remembered = remembers (get st.bindings d.route.target.number d.naming.name) })) nowhere

        away : same_key d.route.target.number d.naming.name c x ≡ false → (o : Option ℕ) → get (out o).bindings c x ≡ get next.bindings c x
        away q None = move_off next.bindings (stands_in d) d.route.target.number d.naming.name k q
        away q (Some r) = refl

        by : (o : Option ℕ) → get st.bindings d.route.target.number d.naming.name ≡ o → d.route.target.number ≡ c → d.naming.name ≡ x → Outcome st d (declare_by moved st d)
        by (Some r) g i j = unmoved (ap (λ o. get (out o).bindings c x) g)
        by None g i j = elim (cases_Bool block) [
          | inl z ↦ absurd (reach z j i)
          | inr z ↦ empty (none_bound st h z (lacks st d.route.target.number d.naming.name i j g)) (λ y. remembers (get st.bindings d.route.target.number d.naming.name) ∙ first.remembered ∙ h.bare y) nowhere
        ]

    -- of this block: the block remembers its symbol
    here_outcome : stands_in d ≡ c → d.naming.name ≡ x → block ≡ true → (d.route.target.number ≡ c → ⊥) → is_own_name d ≡ false → IsSound st → Keeps st → Outcome st d (declare_by moved st d)
    here_outcome i j z apart n b h = direct (by (get st.bindings d.route.target.number d.naming.name))
      where
        kept : Keeps next
        kept = here_keeps st d (stands_in d) i j n b h

        binds : BindsIn c x d
        binds = record { stays = inr (inl e); scope = ap (λ how. first_scope how d) e ∙ i; named = j; other = n }

        among : (o : Option ℕ) → Among (record { declaration = d; symbol = chosen st o }) (declare_in st (stands_in d) d o).made
        among None = among_last (record { declaration = d; symbol = length st.symbols }) st.made
        among (Some s) = among_last (record { declaration = d; symbol = s }) st.made

        is_given : found next c x ≡ Some given
        is_given = (kept.bound_to (record { declaration = d; symbol = given }) (among (found st (stands_in d) d.naming.name)) binds).bound

        flags_same : (s : ℕ) → flags_of (out None) s ≡ flags_of next s
        flags_same s = same_flags (in_scope d.route.target.number) next.symbols given s (λ y. refl)

        unbound : get (move next.bindings (stands_in d) d.route.target.number d.naming.name) c x ≡ None
        unbound = ap (λ k. get (move next.bindings (stands_in d) d.route.target.number d.naming.name) c k) (sym j) ∙ ap (λ k. get (move next.bindings (stands_in d) d.route.target.number d.naming.name) k d.naming.name) (sym i) ∙ gone (get next.bindings (stands_in d) d.naming.name) refl
          where
            gone : (o : Option ℕ) → get next.bindings (stands_in d) d.naming.name ≡ o → get (elim o [ None ↦ next.bindings | Some s ↦ put (remove next.bindings (stands_in d) d.naming.name) d.route.target.number d.naming.name s ]) (stands_in d) d.naming.name ≡ None
            gone None g = g
            gone (Some s) g =
                get-put_other (remove next.bindings (stands_in d) d.naming.name) d.route.target.number d.naming.name s (stands_in d) d.naming.name (and_left (d.route.target.number == stands_in d) (bytes_eq d.naming.name d.naming.name) (ne_eqb d.route.target.number (stands_in d) (λ q. apart (q ∙ i))))
                ∙ get-remove next.bindings (stands_in d) d.naming.name (stands_in d) d.naming.name
                ∙ ap (λ t. cond t None (get next.bindings (stands_in d) d.naming.name)) (own_key (stands_in d) d.naming.name)

        recalled : get (put next.remembered (stands_in d) d.naming.name given) c x ≡ Some given
        recalled = ap (λ k. get (put next.remembered (stands_in d) d.naming.name given) c k) (sym j) ∙ ap (λ k. get (put next.remembered (stands_in d) d.naming.name given) k d.naming.name) (sym i) ∙ get-put_same next.remembered (stands_in d) d.naming.name given

        found_out : found (out None) c x ≡ Some given
        found_out =
            ap (λ o. unless_expression (flags_of (out None)) (or_else o (get (out None).remembered c x))) unbound
            ∙ ap (unless_expression (flags_of (out None))) recalled
            ∙ ap (λ t. cond t None (Some given)) (ap (λ f. meets f expression) (flags_same given) ∙ found_other next given is_given)

        by : (o : Option ℕ) → Keeps (out o)
        by (Some r) = kept
        by None = record {
          bound_to = λ m a q. let g : IsBoundTo next m = kept.bound_to m a q in record {
            bound = found_out ∙ sym is_given ∙ g.bound;
            has = λ f v. ap (λ k. meets k f) (flags_same m.symbol) ∙ g.has f v;
          };
          bare = λ y. let w : true ≡ false = sym z ∙ y in absurd cc;
          told = kept.told;
        }

  moved_outcome : (st : State) (d : Declaration) → d.how ≡ moved → (d.naming.name ≡ x → (block ≡ false → stands_in d ≡ c → ⊥) × (block ≡ true → d.route.target.number ≡ c → ⊥)) → is_own_name d ≡ false → IsSound st → Keeps st → Outcome st d (declare_by moved st d)
  moved_outcome st d e f n b h = elim (same_key_tells (stands_in d) c d.naming.name x) [
    | inr q ↦ elsewhere_outcome st d e q.0 (λ i. q.1 (sym (ap (λ how. first_scope how d) e) ∙ i.scope, i.named)) (λ z j. (f j).1 z) h
    | inl q ↦ elim (cases_Bool block) [
      | inr z ↦ absurd ((f q.2).0 z q.1)
      | inl z ↦ here_outcome st d e q.1 q.2 z ((f q.2).1 z) n b h
    ]
  ]

  -- conflicts that are noted change nothing that is found
  same_passed : (st : State) (d : Declaration) (ss : List ℕ) (cs : List OpenScope) → passed_symbol (against_all st d ss) cs d.naming.name ≡ passed_symbol st cs d.naming.name
  same_passed st d [] cs = refl
  same_passed st d (s ∷ ss) cs = same_passed (against st d s) d ss cs ∙ noted cs
    where
      noted : (cs : List OpenScope) → passed_symbol (against st d s) cs d.naming.name ≡ passed_symbol st cs d.naming.name
      noted [] = refl
      noted (k ∷ ks) = ap (λ o. cond (counts st (found st k.number d.naming.name)) (passed_symbol_or k.number (found st k.number d.naming.name)) o) (noted ks)

  not_staying : (d : Declaration) → d.how ≡ caught → BindsIn c x d → ⊥
  not_staying d e i = by i.stays
    where
      by : Stays d → ⊥
      by (inl k) = let w : plain ≡ caught = sym k ∙ e in absurd cc
      by (inr (inl k)) = let w : moved ≡ caught = sym k ∙ e in absurd cc
      by (inr (inr k)) = let w : hoisted ≡ caught = sym k.0 ∙ e in absurd cc

  outcome : (how : How) (st : State) (d : Declaration) → d.how ≡ how → (d.naming.name ≡ x → IsFreeBy how d) → is_own_name d ≡ false → IsSound st → Keeps st → Outcome st d (declare_by how st d)
  outcome plain st d e f n b h = elim (at_target st d (ap (λ how. first_scope how d) e)) [ inl k ↦ same k.0 k.1 | inr k ↦ direct (here_keeps st d d.route.target.number k.0 k.1 n b h) ]
  outcome caught st d e f n b h = same (declare_off st d.route.target.number d None (off_unless d.route.target.number d.naming.name f)) (not_staying d e)
  outcome moved st d e f n b h = moved_outcome st d e f n b h
  outcome hoisted st d e f n b h =
      let ss : List ℕ = asked_symbols st d.route.passed d.naming.name in
      let k : IsSound (against_all st d ss) × Keeps (against_all st d ss) = against_keeps st d ss b h in
      elim (name_tells d.naming.name x) [
        | inl q ↦ hoist_outcome st (against_all st d ss) d (passed_symbol st d.route.passed d.naming.name) e (f q.1).1 (same_passed st d ss d.route.passed) (passed_off d.naming.name d.route.passed (λ i. (f i).0)) n (against_off st d ss) k.0 k.1 h
        | inr q ↦ other_hoisted st (against_all st d ss) d (passed_symbol st d.route.passed d.naming.name) q.0 q.1 e (against_off st d ss)
      ]

  -- so the scope keeps it
  pub declared_keeps : (st : State) (d : Declaration) → IsFree (declares d) → is_own_name d ≡ false → IsSound st → Keeps st → Keeps (act st (declares d))
  declared_keeps st d f n b h = by (outcome d.how st d refl f n b h)
    where
      by : Outcome st d (act st (declares d)) → Keeps (act st (declares d))
      by (same u i) = unchanged_keeps st (act st (declares d)) d u (grown_act st d) (conflicts_stay st d) n (adds st d) i b h
      by (empty e r i) = empty_keeps st (act st (declares d)) d (adds st d) i e r
      by (direct k) = k
