-- Scopes of two sides: events that act on one side alone leave what the other binds, and the flags of its symbols.
use Rattle.std.proofs.Common.{◌≡◌, ℕ, List, [], ◌∷◌, Option, Some, None, Bool, true, false, cond, inl, inr, refl, sym, ap, subst, ◌∙◌, length}
use Rattle.semantic_syntax.specs.Tables.{Name}
use Rattle.semantic_model.proofs.fold.Actions.{unless_some, or_else_some}
use Rattle.semantic_model.specs.Place.{OpenScope}
use Rattle.semantic_model.specs.Entries.{Among}
use Rattle.semantic_model.specs.Binding.{Binding, get, put, remove, move, take_over}
use Rattle.semantic_model.specs.Declaration.{How, plain, hoisted, moved, caught, Declaration, stands_in}
use Rattle.semantic_model.specs.Event.{Event, declares, takes_over, ends_header}
use Rattle.semantic_model.specs.Fold.{State, found, update, redeclared, note_symbol, against, declare_in, chosen, or_else}
use Rattle.semantic_model.specs.Hoist.{PassedSymbol, passed_symbol, passed_symbol_or, counts, asked_symbols, against_all, remember, move_symbol, hoist_by, move_out, declare_by, act}
use Rattle.semantic_model.proofs.lists.BindingLaws.{get_among, among_put, among_remove, among_take_over}

module _ (inside : ℕ → Bool) (side : ℕ → Bool) where
  -- what is bound is of its scope's side
  abbrev pub AreOf : List Binding → Type 0
  AreOf bs = (e : Binding) → Among e bs → inside e.scope ≡ side e.symbol

  pub record IsSided (st : State) : Type 0 where
    pub bindings : AreOf st.bindings
    pub remembered : AreOf st.remembered

  of_get : (bs : List Binding) (c : ℕ) (x : Name) (y : ℕ) → AreOf bs → get bs c x ≡ Some y → inside c ≡ side y
  of_get bs c x y h e = h (record { scope = c; name = x; symbol = y }) (get_among bs c x y e)

  of_put : (bs : List Binding) (c : ℕ) (x : Name) (y : ℕ) → inside c ≡ side y → AreOf bs → AreOf (put bs c x y)
  of_put bs c x y s h e a = elim (among_put e bs c x y a) [
    | inl k ↦ h e k
    | inr k ↦ ap inside k.0 ∙ s ∙ ap side (sym k.2)
  ]

  of_remove : (bs : List Binding) (c : ℕ) (x : Name) → AreOf bs → AreOf (remove bs c x)
  of_remove bs c x h e a = h e (among_remove e bs c x a).0

  of_taken : (bs : List Binding) (c d : ℕ) → inside c ≡ inside d → AreOf bs → AreOf (take_over bs c d)
  of_taken bs c d s h e a = elim (among_take_over e bs c d a) [
    | inl k ↦ h e k
    | inr k ↦ ap inside k.0 ∙ sym s ∙ h (record e { scope = c }) k.1
  ]

  -- what is found in a scope is of its side
  pub found_side : (st : State) (c : ℕ) (x : Name) (y : ℕ) → IsSided st → found st c x ≡ Some y → inside c ≡ side y
  found_side st c x y h e = elim (or_else_some (get st.bindings c x) (get st.remembered c x) y (unless_some st (or_else (get st.bindings c x) (get st.remembered c x)) y e)) [
    | inl k ↦ of_get st.bindings c x y h.bindings k
    | inr k ↦ of_get st.remembered c x y h.remembered k
  ]

  -- the event acts on the scopes of one side alone
  abbrev pub AllOn : Bool → List OpenScope → Type 0
  AllOn b [] = Unit {0}
  AllOn b (c ∷ cs) = (inside c.number ≡ b) × AllOn b cs

  abbrev pub ArePassedOn : Bool → How → Declaration → Type 0
  ArePassedOn b hoisted d = AllOn b d.route.passed
  ArePassedOn b moved d = inside (stands_in d) ≡ b
  ArePassedOn b _ d = Unit {0}

  abbrev pub IsOn : Bool → Event → Type 0
  IsOn b (declares d) = (inside d.route.target.number ≡ b) × ArePassedOn b d.how d
  IsOn b (takes_over c d) = (inside c ≡ b) × (inside d ≡ b)
  IsOn b (ends_header c) = Unit {0}

  module _ (b : Bool) where
    pub chosen_side : (st : State) (c : ℕ) (d : Declaration) (o : Option ℕ) → inside c ≡ b → side (length st.symbols) ≡ b → IsSided st → found st c d.naming.name ≡ o → side (chosen st o) ≡ b
    chosen_side st c d None i n h e = n
    chosen_side st c d (Some y) i n h e = sym (found_side st c d.naming.name y h e) ∙ i

    pub declared_sided : (st : State) (c : ℕ) (d : Declaration) (o : Option ℕ) → inside c ≡ b → side (length st.symbols) ≡ b → IsSided st → IsSided (declare_in st c d o)
    declared_sided st c d None i n h = record { bindings = of_put st.bindings c d.naming.name (length st.symbols) (i ∙ sym n) h.bindings; remembered = h.remembered }
    declared_sided st c d (Some y) i n h = record { bindings = h.bindings; remembered = h.remembered }

    remembered_of : (bs : List Binding) (cs : List OpenScope) (x : Name) (y : ℕ) → AllOn b cs → side y ≡ b → AreOf bs → AreOf (remember bs cs x y)
    remembered_of bs [] x y a s h = h
    remembered_of bs (c ∷ cs) x y a s h = remembered_of (put bs c.number x y) cs x y a.1 s (of_put bs c.number x y (a.0 ∙ sym s) h)

    pub against_sided : (st : State) (d : Declaration) (ss : List ℕ) → IsSided st → IsSided (against_all st d ss)
    against_sided st d [] h = h
    against_sided st d (s ∷ ss) h = against_sided (against st d s) d ss (record { bindings = h.bindings; remembered = h.remembered })

    pub against_symbols : (st : State) (d : Declaration) (ss : List ℕ) → (against_all st d ss).symbols ≡ st.symbols
    against_symbols st d [] = refl
    against_symbols st d (s ∷ ss) = against_symbols (against st d s) d ss

    pub passed_symbol_side : (st : State) (cs : List OpenScope) (x : Name) (r : PassedSymbol) → AllOn b cs → IsSided st → passed_symbol st cs x ≡ Some r → (inside r.scope ≡ b) × (side r.symbol ≡ b)
    passed_symbol_side st [] x r a h e = absurd cc
    passed_symbol_side st (c ∷ cs) x r a h e = by (passed_symbol_side st cs x r a.1 h) (counts st (found st c.number x)) (found st c.number x) refl e
      where
        by : (passed_symbol st cs x ≡ Some r → (inside r.scope ≡ b) × (side r.symbol ≡ b)) → (t : Bool) (o : Option ℕ) → found st c.number x ≡ o → cond t (passed_symbol_or c.number o) (passed_symbol st cs x) ≡ Some r → (inside r.scope ≡ b) × (side r.symbol ≡ b)
        by rest true None f q = absurd cc
        by rest true (Some y) f q =
            let scope_is : c.number ≡ r.scope = ap scope_or q in
            let symbol_is : y ≡ r.symbol = ap symbol_or q in
            (subst (λ m. inside m ≡ b) scope_is a.0, subst (λ m. side m ≡ b) symbol_is (sym (found_side st c.number x y h f) ∙ a.0))
          where
            scope_or : Option PassedSymbol → ℕ
            scope_or None = 0
            scope_or (Some g) = g.scope

            symbol_or : Option PassedSymbol → ℕ
            symbol_or None = 0
            symbol_or (Some g) = g.symbol
        by rest false o f q = rest q

    moved_sided : (st : State) (c t : ℕ) (x : Name) (y : ℕ) (o : Option ℕ) → inside t ≡ b → side y ≡ b → IsSided st → IsSided (move_symbol st c t x y o)
    moved_sided st c t x y (Some r) i s h = h
    moved_sided st c t x y None i s h = record { bindings = of_put (remove st.bindings c x) t x y (i ∙ sym s) (of_remove st.bindings c x h.bindings); remembered = h.remembered }

    hoisted_sided : (st : State) (d : Declaration) (o : Option PassedSymbol) → inside d.route.target.number ≡ b → AllOn b d.route.passed → side (length st.symbols) ≡ b → IsSided st → ((r : PassedSymbol) → o ≡ Some r → side r.symbol ≡ b) → IsSided (hoist_by st d o)
    hoisted_sided st d None i a n h q =
        let f : Option ℕ = found st d.route.target.number d.naming.name in
        let done : IsSided (declare_in st d.route.target.number d f) = declared_sided st d.route.target.number d f i n h in
        record { bindings = done.bindings; remembered = remembered_of (declare_in st d.route.target.number d f).remembered d.route.passed d.naming.name (chosen st f) a (chosen_side st d.route.target.number d f i n h refl) done.remembered }
    hoisted_sided st d (Some r) i a n h q =
        let got : State = note_symbol (record st { symbols = update (redeclared d.naming) st.symbols r.symbol }) d r.symbol in
        let o : Option ℕ = get got.bindings d.route.target.number d.naming.name in
        let done : IsSided (move_symbol got r.scope d.route.target.number d.naming.name r.symbol o) = moved_sided got r.scope d.route.target.number d.naming.name r.symbol o i (q r refl) (record { bindings = h.bindings; remembered = h.remembered }) in
        record { bindings = done.bindings; remembered = remembered_of (move_symbol got r.scope d.route.target.number d.naming.name r.symbol o).remembered d.route.passed d.naming.name r.symbol a (q r refl) done.remembered }

    of_move : (bs : List Binding) (c t : ℕ) (x : Name) → inside c ≡ b → inside t ≡ b → AreOf bs → AreOf (move bs c t x)
    of_move bs c t x i j h = by (get bs c x) refl
      where
        by : (o : Option ℕ) → get bs c x ≡ o → AreOf (elim o [ None ↦ bs | Some y ↦ put (remove bs c x) t x y ])
        by None e = h
        by (Some y) e = of_put (remove bs c x) t x y (j ∙ sym i ∙ of_get bs c x y h e) (of_remove bs c x h)

    out_sided : (st : State) (c t : ℕ) (x : Name) (y : ℕ) (o : Option ℕ) → inside c ≡ b → inside t ≡ b → side y ≡ b → IsSided st → IsSided (move_out st c t x y o)
    out_sided st c t x y (Some r) i j s h = h
    out_sided st c t x y None i j s h = record { bindings = of_move st.bindings c t x i j h.bindings; remembered = of_put st.remembered c x y (i ∙ sym s) h.remembered }

    by_sided : (how : How) (st : State) (d : Declaration) → inside d.route.target.number ≡ b → ArePassedOn b how d → side (length st.symbols) ≡ b → IsSided st → IsSided (declare_by how st d)
    by_sided plain st d i a n h = declared_sided st d.route.target.number d (found st d.route.target.number d.naming.name) i n h
    by_sided caught st d i a n h = declared_sided st d.route.target.number d None i n h
    by_sided hoisted st d i a n h =
        let noted : State = against_all st d (asked_symbols st d.route.passed d.naming.name) in
        hoisted_sided noted d (passed_symbol st d.route.passed d.naming.name) i a (ap (λ ys. side (length ys)) (against_symbols st d (asked_symbols st d.route.passed d.naming.name)) ∙ n) (against_sided st d (asked_symbols st d.route.passed d.naming.name) h)
        (λ r e. (passed_symbol_side st d.route.passed d.naming.name r a h e).1)
    by_sided moved st d i a n h =
        let c : ℕ = stands_in d in
        let o : Option ℕ = found st c d.naming.name in
        out_sided (declare_in st c d o) c d.route.target.number d.naming.name (chosen st o) (get st.bindings d.route.target.number d.naming.name) a i (chosen_side st c d o a n h refl) (declared_sided st c d o a n h)

    -- an event on one side keeps what is bound on its side
    pub act_sided : (st : State) (e : Event) → IsOn b e → side (length st.symbols) ≡ b → IsSided st → IsSided (act st e)
    act_sided st (declares d) o n h = by_sided d.how st d o.0 o.1 n h
    act_sided st (takes_over c d) o n h = record { bindings = of_taken st.bindings c d (o.0 ∙ sym o.1) h.bindings; remembered = h.remembered }
    act_sided st (ends_header c) o n h = h
