-- Through all events, what a scope binds to a name that is declared plainly is what its declarations there bind together.
use Rattle.std.proofs.Common.{◌≡◌, ℕ, ◌<◌, ◌==◌, List, [], ◌∷◌, ◌++◌, Option, Some, None, Bool, true, false, ◌&&◌, cond, inl, inr, refl, sym, ap, subst, ◌∙◌, length, filter, option_map, bytes_eq, arith}
use Rattle.std.specs.Prelude.{slice_get}
use Rattle.std.proofs.lemmas.Bool.{ne_eqb, eq-eqb, and_from, and_left, and_right}
use Rattle.std.proofs.lemmas.Bool.Decides.{eqb_tells}
use Rattle.std.proofs.lemmas.List.Sums.{fold-append}
use Rattle.semantic_syntax.specs.declared.symbol_flags.TheConstants.SymbolFlags as symbol
use Rattle.semantic_syntax.specs.Lookup.{Seen}
use Rattle.semantic_syntax.specs.Sets.{meets, union}
use Rattle.semantic_syntax.specs.Tables.{Name, Symbol}
use Rattle.semantic_model.specs.Binding.{get, put, take_over, bound_by}
use Rattle.semantic_model.specs.Declaration.{Declaration}
use Rattle.semantic_model.specs.Entries.{Among}
use Rattle.semantic_model.specs.Event.{Event, declares, takes_over, ends_header, declarations}
use Rattle.semantic_model.specs.Fold.{State, Made, start, make, declare_in, found, or_else, unless_expression, flags_of, flags_or_none, united, redeclared, new_symbol}
use Rattle.semantic_model.specs.Hoist.{act, run, declare_by}
use Rattle.semantic_model.specs.Tie.{seen_as}
use Rattle.semantic_model.proofs.fold.Actions.{changes_declare}
use Rattle.semantic_model.proofs.fold.Changes.{Sound, Holds, HasName}
use Rattle.semantic_model.proofs.fold.Orders.{Adds, adds}
use Rattle.semantic_model.proofs.fold.TakeOvers.{Ready, two, IsReady, Orderly, sound_act}
use Rattle.semantic_model.proofs.lists.BindingLaws.{get-put, get-put_other, get_among, same_key_tells, among_taken, get-take_over_other, get-take_over_kept}
use Rattle.semantic_model.proofs.lists.Members.{among_more}
use Rattle.semantic_model.proofs.lists.SymbolLaws.{get-update, get-push, get-last, get_within}
use Rattle.semantic_model.proofs.once.ListedUnder.{name_tells}
use Rattle.binding_laws.specs.SeenDeclarations.{seen_alone, with_declaration, bound_by_all}
use Rattle.binding_laws.proofs.Growing.{other_flags, rescoped_flags}
use Rattle.binding_laws.proofs.ListLaws.{filter_push}
use Rattle.binding_laws.proofs.OtherNames.{LeavesName, leaves_name}
use Rattle.typescript_ties.specs.SeenTogether.{IsPlainDeclaration, is_in_scope}

-- ---- lists

pub filter_none : (test : Made → Bool) (ms : List Made) → ((m : Made) → Among m ms → test m ≡ false) → filter test ms ≡ []
filter_none test [] h = refl
filter_none test (m ∷ ms) h = rw (h m (inl refl)) (filter_none test ms (λ y a. h y (inr a)))

abbrev pub seen_with : ℕ → ℕ → Option Seen
seen_with y flags = Some (record { symbol = y; flags = flags })

abbrev with_or : ℕ → ℕ → Made → Bool → Option Seen
with_or y flags m t = Some (cond t (record { symbol = y; flags = flags }) (seen_alone m))

pub or_none : (o : Option ℕ) → or_else o None ≡ o
or_none None = refl
or_none (Some s) = refl

pub seen_nothing : (st : State) (o : Option ℕ) → seen_as st o ≡ None → o ≡ None
seen_nothing st None e = refl
seen_nothing st (Some s) e = absurd cc

-- ---- the state

pub record PlainState (x : Name) (st : State) : Type 0 where
  pub unremembered : (c : ℕ) → get st.remembered c x ≡ None
  pub counted : (c : ℕ) → seen_as st (get st.bindings c x) ≡ bound_by_all (filter (is_in_scope c x) st.made)
  pub apart : (c d s : ℕ) → get st.bindings c x ≡ Some s → get st.bindings d x ≡ Some s → c ≡ d
  pub lasting : (m : Made) → Among m st.made → m.declaration.naming.name ≡ x → m.declaration.route.target.body ≡ None

plain_start : (x : Name) → PlainState x start
plain_start x = record { unremembered = λ c. refl; counted = λ c. refl; apart = λ c d s g. absurd cc; lasting = λ m a. absurd a }

module _ (table : List (Option ℕ)) where
  pub bound_made : (st : State) (c : ℕ) (x : Name) (s : ℕ) → Sound table st → get st.bindings c x ≡ Some s → Holds table st.made c x s
  bound_made st c x s sound g = sound.bound (record { scope = c; name = x; symbol = s }) (get_among st.bindings c x s g)

  pub bound_below : (st : State) (c : ℕ) (x : Name) (s : ℕ) → Sound table st → get st.bindings c x ≡ Some s → s < length st.symbols
  bound_below st c x s sound g =
      let k : Holds table st.made c x s = bound_made st c x s sound g in
      let n : HasName st.symbols k.made.symbol k.made.declaration.naming.name = sound.has_name k.made k.among in
      subst (λ r. r < length st.symbols) k.symbol (get_within st.symbols k.made.symbol n.symbol n.is_there)

  -- one more declaration counts where it is
  pub count_more : (c : ℕ) (x : Name) (ms : List Made) (m : Made) → is_in_scope c x m ≡ true → bound_by_all (filter (is_in_scope c x) (ms ++ m ∷ [])) ≡ with_declaration (bound_by_all (filter (is_in_scope c x) ms)) m
  count_more c x ms m e =
      ap bound_by_all (filter_push (is_in_scope c x) ms m ∙ ap (λ b. cond b (filter (is_in_scope c x) ms ++ m ∷ []) (filter (is_in_scope c x) ms)) e)
      ∙ fold-append with_declaration None (filter (is_in_scope c x) ms) (m ∷ [])

  pub count_same : (c : ℕ) (x : Name) (ms : List Made) (m : Made) → is_in_scope c x m ≡ false → filter (is_in_scope c x) (ms ++ m ∷ []) ≡ filter (is_in_scope c x) ms
  count_same c x ms m e = filter_push (is_in_scope c x) ms m ∙ ap (λ b. cond b (filter (is_in_scope c x) ms ++ m ∷ []) (filter (is_in_scope c x) ms)) e

  -- ---- a declaration of another name

  other_state : (x : Name) (st : State) (d : Declaration) → (d.naming.name ≡ x → ⊥) → IsReady table st (declares d) → Sound table st → PlainState x st → PlainState x (act st (declares d))
  other_state x st d n block sound h = record {
    unremembered = λ c. u.remembered c ∙ h.unremembered c;
    counted = λ c. ap (seen_as new) (u.bindings c) ∙ same_seen c (get st.bindings c x) refl ∙ h.counted c ∙ ap bound_by_all (sym (uncounted c));
    apart = λ c e s g k. h.apart c e s (sym (u.bindings c) ∙ g) (sym (u.bindings e) ∙ k);
    lasting = λ m a e. elim (among_more m (record { declaration = d; symbol = w.symbol }) st.made (subst (Among m) w.adds a)) [
      | inl b ↦ h.lasting m b e
      | inr q ↦ absurd (n (ap (λ (y : Made). y.declaration.naming.name) q ∙ e))
    ];
  }
    where
      new : State
      new = act st (declares d)

      u : LeavesName table x st new
      u = leaves_name table x d n sound (changes_declare table st d block sound)

      w : Adds st.made d new.made
      w = adds st d

      uncounted : (c : ℕ) → filter (is_in_scope c x) new.made ≡ filter (is_in_scope c x) st.made
      uncounted c = ap (filter (is_in_scope c x)) w.adds ∙ count_same c x st.made (record { declaration = d; symbol = w.symbol }) (and_right (d.route.target.number == c) (bytes_eq d.naming.name x) (elim (name_tells d.naming.name x) [ inl q ↦ absurd (n q.1) | inr q ↦ q.0 ]))

      same_seen : (c : ℕ) (o : Option ℕ) → get st.bindings c x ≡ o → seen_as new o ≡ seen_as st o
      same_seen c None q = refl
      same_seen c (Some y) q =
          let k : Holds table st.made c x y = bound_made st c x y sound q in
          ap (seen_with y) (subst (λ r. flags_of new r ≡ flags_of st r) k.symbol (u.flags k.made k.among k.named))

  -- ---- a declaration of the name

  module _ (st : State) (d : Declaration) (lasts : d.route.target.body ≡ None) (sound : Sound table st) (h : PlainState d.naming.name st) where
    abbrev x : Name
    x = d.naming.name

    abbrev t : ℕ
    t = d.route.target.number

    abbrev n : ℕ
    n = length st.symbols

    new_lasting : (m : Made) (s : ℕ) → Among m (st.made ++ record { declaration = d; symbol = s } ∷ []) → m.declaration.naming.name ≡ x → m.declaration.route.target.body ≡ None
    new_lasting m s a e = elim (among_more m (record { declaration = d; symbol = s }) st.made a) [
      | inl b ↦ h.lasting m b e
      | inr q ↦ subst (λ (y : Made). y.declaration.route.target.body ≡ None) q lasts
    ]

    counts_here : (m : Made) → m.declaration ≡ d → is_in_scope t x m ≡ true
    counts_here m e = ap (λ z. z.route.target.number == t && bytes_eq z.naming.name x) e ∙ and_from (t == t) (bytes_eq x x) (eq-eqb t t refl) (elim (name_tells x x) [ inl q ↦ q.0 | inr q ↦ absurd (q.1 refl) ])

    counts_not : (c : ℕ) (m : Made) → m.declaration ≡ d → (t ≡ c → ⊥) → is_in_scope c x m ≡ false
    counts_not c m e k = ap (λ z. z.route.target.number == c && bytes_eq z.naming.name x) e ∙ and_left (t == c) (bytes_eq x x) (ne_eqb t c k)

    put_other : (c : ℕ) → (t ≡ c → ⊥) → get (put st.bindings t x n) c x ≡ get st.bindings c x
    put_other c k = elim (same_key_tells t c x x) [ inl q ↦ absurd (k q.1) | inr q ↦ get-put_other st.bindings t x n c x q.0 ]

    put_here : (c : ℕ) → t ≡ c → get (put st.bindings t x n) c x ≡ Some n
    put_here c k = elim (same_key_tells t c x x) [ inl q ↦ get-put st.bindings t x n c x ∙ ap (λ b. cond b (Some n) (get st.bindings c x)) q.0 | inr q ↦ absurd (q.1 (k, refl)) ]

    fresh : (c s : ℕ) → get st.bindings c x ≡ Some s → n ≡ s → ⊥
    fresh c s g e = let w : s < n = bound_below st c x s sound g in absurd (omega (arith, w, e))

    made_new : PlainState x (make st t d)
    made_new = record { unremembered = h.unremembered; counted = counted; apart = apart; lasting = λ m a e. new_lasting m n a e }
      where
        m : Made
        m = record { declaration = d; symbol = n }

        new_seen : (o : Option ℕ) → get st.bindings t x ≡ o → with_declaration (seen_as st o) m ≡ seen_with n d.naming.flags
        new_seen None g = refl
        new_seen (Some s) g = ap (with_or s (union (flags_of st s) d.naming.flags) m) (ne_eqb s n (λ i. fresh t s g (sym i)))

        old_seen : (c : ℕ) (o : Option ℕ) → get st.bindings c x ≡ o → seen_as (make st t d) o ≡ seen_as st o
        old_seen c None g = refl
        old_seen c (Some s) g = ap (seen_with s) (ap flags_or_none (get-push st.symbols (new_symbol t d.naming) s (bound_below st c x s sound g)))

        counted : (c : ℕ) → seen_as (make st t d) (get (put st.bindings t x n) c x) ≡ bound_by_all (filter (is_in_scope c x) (st.made ++ m ∷ []))
        counted c = elim (eqb_tells t c) [
          | inl q ↦ ap (seen_as (make st t d)) (put_here c q.1)
              ∙ ap (seen_with n) (ap flags_or_none (get-last st.symbols (new_symbol t d.naming)))
              ∙ sym (new_seen (get st.bindings t x) refl)
              ∙ ap (λ o. with_declaration o m) (h.counted t)
              ∙ sym (count_more t x st.made m (counts_here m refl))
              ∙ ap (λ k. bound_by_all (filter (is_in_scope k x) (st.made ++ m ∷ []))) q.1
          | inr q ↦ ap (seen_as (make st t d)) (put_other c q.1)
              ∙ old_seen c (get st.bindings c x) refl
              ∙ h.counted c
              ∙ ap bound_by_all (sym (count_same c x st.made m (counts_not c m refl q.1)))
        ]

        apart : (c e s : ℕ) → get (put st.bindings t x n) c x ≡ Some s → get (put st.bindings t x n) e x ≡ Some s → c ≡ e
        apart c e s g k = elim (eqb_tells t c) [
          | inl q ↦ elim (eqb_tells t e) [
            | inl r ↦ sym q.1 ∙ r.1
            | inr r ↦ (let w : Some n ≡ Some s = sym (put_here c q.1) ∙ g in let v : n ≡ s = cc in absurd (fresh e s (sym (put_other e r.1) ∙ k) v))
          ]
          | inr q ↦ elim (eqb_tells t e) [
            | inl r ↦ (let w : Some n ≡ Some s = sym (put_here e r.1) ∙ k in let v : n ≡ s = cc in absurd (fresh c s (sym (put_other c q.1) ∙ g) v))
            | inr r ↦ h.apart c e s (sym (put_other c q.1) ∙ g) (sym (put_other e r.1) ∙ k)
          ]
        ]

    joined : (s : ℕ) → get st.bindings t x ≡ Some s → PlainState x (declare_in st t d (Some s))
    joined s g = record { unremembered = h.unremembered; counted = counted; apart = h.apart; lasting = λ m a e. new_lasting m s a e }
      where
        m : Made
        m = record { declaration = d; symbol = s }

        join : Symbol → Symbol
        join y = united d.naming.flags (redeclared d.naming y)

        next : State
        next = declare_in st t d (Some s)

        holds : Holds table st.made t x s
        holds = bound_made st t x s sound g

        entry : HasName st.symbols s x
        entry = subst (λ z. HasName st.symbols s z) holds.named (subst (λ r. HasName st.symbols r holds.made.declaration.naming.name) holds.symbol (sound.has_name holds.made holds.among))

        joined_flags : flags_of next s ≡ union (flags_of st s) d.naming.flags
        joined_flags =
            ap flags_or_none (get-update join st.symbols s s ∙ ap (λ b. cond b (option_map join (slice_get st.symbols s)) (slice_get st.symbols s)) (eq-eqb s s refl) ∙ ap (option_map join) entry.is_there)
            ∙ ap (λ o. union (flags_or_none o) d.naming.flags) (sym entry.is_there)

        old_seen : (c : ℕ) (o : Option ℕ) → get st.bindings c x ≡ o → (t ≡ c → ⊥) → seen_as next o ≡ seen_as st o
        old_seen c None f k = refl
        old_seen c (Some r) f k = ap (seen_with r) (other_flags join st.symbols s r (λ i. k (h.apart t c s g (f ∙ ap Some (sym i)))))

        counted : (c : ℕ) → seen_as next (get st.bindings c x) ≡ bound_by_all (filter (is_in_scope c x) (st.made ++ m ∷ []))
        counted c = elim (eqb_tells t c) [
          | inl q ↦ ap (λ k. seen_as next (get st.bindings k x)) (sym q.1)
              ∙ ap (seen_as next) g
              ∙ ap (seen_with s) joined_flags
              ∙ ap (with_or s (union (flags_of st s) d.naming.flags) m) (sym (eq-eqb s s refl))
              ∙ ap (λ o. with_declaration o m) (ap (seen_as st) (sym g) ∙ h.counted t)
              ∙ sym (count_more t x st.made m (counts_here m refl))
              ∙ ap (λ k. bound_by_all (filter (is_in_scope k x) (st.made ++ m ∷ []))) q.1
          | inr q ↦ old_seen c (get st.bindings c x) refl q.1 ∙ h.counted c ∙ ap bound_by_all (sym (count_same c x st.made m (counts_not c m refl q.1)))
        ]

    declared_state : PlainState x (declare_in st t d (found st t x))
    declared_state = subst (λ o. PlainState x (declare_in st t d o)) (sym is_found) (by (get st.bindings t x) refl)
      where
        is_found : found st t x ≡ unless_expression (flags_of st) (get st.bindings t x)
        is_found = ap (λ o. unless_expression (flags_of st) (or_else (get st.bindings t x) o)) (h.unremembered t) ∙ ap (unless_expression (flags_of st)) (or_none (get st.bindings t x))

        either : (s : ℕ) (b : Bool) → get st.bindings t x ≡ Some s → PlainState x (declare_in st t d (cond b None (Some s)))
        either s true g = made_new
        either s false g = joined s g

        by : (o : Option ℕ) → get st.bindings t x ≡ o → PlainState x (declare_in st t d (unless_expression (flags_of st) o))
        by None g = made_new
        by (Some s) g = either s (meets (flags_of st s) symbol.FunctionExpression.bits) g

  own_state : (x : Name) (st : State) (d : Declaration) → d.naming.name ≡ x → IsPlainDeclaration d → Sound table st → PlainState x st → PlainState x (act st (declares d))
  own_state x st d e k sound h =
      subst (λ y. PlainState y (act st (declares d))) e
      (subst (λ how. PlainState d.naming.name (declare_by how st d)) (sym k.how) (declared_state st d k.lasting sound (subst (λ y. PlainState y st) (sym e) h)))

  -- ---- a body takes over a clause, which doesn't bind the name

  module _ (x : Name) (st : State) (c b : ℕ) (r : Ready table st.made c b) (h : PlainState x st) where
    not_there : (m : Made) → Among m st.made → is_in_scope c x m ≡ false
    not_there m a = elim (name_tells m.declaration.naming.name x) [
      | inr q ↦ and_right (m.declaration.route.target.number == c) (bytes_eq m.declaration.naming.name x) q.0
      | inl q ↦ and_left (m.declaration.route.target.number == c) (bytes_eq m.declaration.naming.name x) (ne_eqb m.declaration.route.target.number c (λ i. apart_from i (h.lasting m a q.1)))
    ]
      where
        apart_from : m.declaration.route.target.number ≡ c → m.declaration.route.target.body ≡ None → ⊥
        apart_from i l =
            let w : Some m.declaration.route.target.body ≡ Some (Some b) = sym (r.targets m a) ∙ ap (slice_get table) i ∙ r.clause in
            let v : Some (Some b) ≡ Some None = sym w ∙ ap Some l in
            absurd cc

    nothing : get st.bindings c x ≡ None
    nothing = seen_nothing st (get st.bindings c x) (h.counted c ∙ ap bound_by_all (filter_none (is_in_scope c x) st.made not_there))

    none_if : (o : Option ℕ) → ((s : ℕ) → o ≡ Some s → ⊥) → o ≡ None
    none_if None f = refl
    none_if (Some s) f = absurd (f s refl)

    taken_same : (e : ℕ) → get (take_over st.bindings c b) e x ≡ get st.bindings e x
    taken_same e = elim (eqb_tells e c) [
      | inl q ↦ subst (λ k. get (take_over st.bindings c b) k x ≡ get st.bindings k x) (sym q.1)
          (none_if (get (take_over st.bindings c b) c x) (λ s g. among_taken (record { scope = c; name = x; symbol = s }) st.bindings c b (two table st.made c b r) (get_among (take_over st.bindings c b) c x s g) refl) ∙ sym nothing)
      | inr q ↦ elim (eqb_tells e b) [
        | inl k ↦ subst (λ z. get (take_over st.bindings c b) z x ≡ get st.bindings z x) (sym k.1) (get-take_over_kept st.bindings c b x nothing)
        | inr k ↦ get-take_over_other st.bindings c b e x q.1 k.1
      ]
    ]

    same_seen : (o : Option ℕ) → seen_as (act st (takes_over c b)) o ≡ seen_as st o
    same_seen None = refl
    same_seen (Some y) = ap (seen_with y) (rescoped_flags st.symbols (bound_by st.bindings c) b y)

    taken_state : PlainState x (act st (takes_over c b))
    taken_state = record {
      unremembered = h.unremembered;
      counted = λ e. ap (seen_as (act st (takes_over c b))) (taken_same e) ∙ same_seen (get st.bindings e x) ∙ h.counted e;
      apart = λ e f s g k. h.apart e f s (sym (taken_same e) ∙ g) (sym (taken_same f) ∙ k);
      lasting = h.lasting;
    }

  -- ---- all events

  abbrev pub AllPlain : Name → List Event → Type 0
  AllPlain x es = (d : Declaration) → Among d (declarations es) → d.naming.name ≡ x → IsPlainDeclaration d

  one_event : (x : Name) (st : State) (e : Event) (es : List Event) → IsReady table st e → Sound table st → AllPlain x (e ∷ es) → PlainState x st → PlainState x (act st e)
  one_event x st (declares d) es ready sound all h = elim (name_tells d.naming.name x) [
    | inl q ↦ own_state x st d q.1 (all d (inl refl) q.1) sound h
    | inr q ↦ other_state x st d q.1 ready sound h
  ]
  one_event x st (takes_over c b) es ready sound all h = taken_state x st c b ready h
  one_event x st (ends_header c) es ready sound all h = record { unremembered = h.unremembered; counted = h.counted; apart = h.apart; lasting = h.lasting }

  plain_rest : (x : Name) (e : Event) (es : List Event) → AllPlain x (e ∷ es) → AllPlain x es
  plain_rest x (declares d) es all f a = all f (inr a)
  plain_rest x (takes_over c b) es all f a = all f a
  plain_rest x (ends_header c) es all f a = all f a

  plain_run : (x : Name) (st : State) (es : List Event) → Orderly table st es → Sound table st → AllPlain x es → PlainState x st → PlainState x (run st es)
  plain_run x st [] order sound all h = h
  plain_run x st (e ∷ es) order sound all h = plain_run x (act st e) es order.1 (sound_act table st e order.0 sound) (plain_rest x e es all) (one_event x st e es order.0 sound all h)

  pub plain_in_end : (x : Name) (es : List Event) → Orderly table start es → Sound table start → AllPlain x es → PlainState x (run start es)
  plain_in_end x es order sound all = plain_run x start es order sound all (plain_start x)
