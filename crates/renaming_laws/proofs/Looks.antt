-- What a declaration does to the symbol that it gets, and which conflicts it tells.
use Rattle.std.proofs.Common.{◌≡◌, ℕ, zero, suc, ◌<◌, ◌≤◌, ◌==◌, List, [], ◌∷◌, ◌++◌, Bool, true, false, not, cond, Option, Some, None, length, map, flat_map, inl, inr, ◌⊎◌, refl, sym, ap, subst, ◌∙◌, arith, bit_and}
use Rattle.std.specs.Prelude.{slice_get}
use Rattle.std.proofs.lemmas.Bool.{cases_Bool, eqb-true}
use Rattle.std.proofs.lemmas.List.{append_assoc, append-nil}
use Rattle.std.proofs.lemmas.Nat.{and_assoc}
use Rattle.semantic_syntax.specs.declared.symbol_flags.TheConstants.SymbolFlags as symbol
use Rattle.semantic_syntax.specs.Sets.{meets, union}
use Rattle.semantic_syntax.specs.Tables.{Name, Symbol, Bindings}
use Rattle.semantic_model.specs.Declaration.{How, plain, hoisted, moved, caught, Declaration, stands_in}
use Rattle.semantic_model.specs.Fold.{Conflict, State, update, flags_or_none, flags_of, found, redeclared, united, in_scope, new_symbol, note_symbol, conflict_with, against, declare_in, chosen}
use Rattle.semantic_model.specs.Hoist.{PassedSymbol, counts, passed_symbol, asked_symbols, against_all, move_symbol, hoist_by, hoist, move_out, declare_by, rescoped}
use Rattle.semantic_model.specs.Binding.{get}
use Rattle.semantic_model.specs.Naming.{Naming}
use Rattle.semantic_model.specs.Place.{OpenScope}
use Rattle.semantic_model.proofs.lists.Bounds.{IsSound, found_below}
use Rattle.semantic_model.proofs.once.UseLists.{IsBelow}
use Rattle.renaming_laws.specs.KeptDeclarations.{declared_as}

-- symbols without names and scopes
abbrev pub looks : List Symbol → List Symbol
looks ys = map declared_as ys

-- what a declaration makes of them: the symbol is declared once more and gets its flags, or is made
abbrev pub joined : ℕ → Naming → List Symbol → List Symbol
joined r n [] = declared_as (new_symbol 0 n) ∷ []
joined zero n (l ∷ ls) = united n.flags (redeclared n l) ∷ ls
joined (suc r) n (l ∷ ls) = l ∷ joined r n ls

-- ---- the symbol that a declaration gets

abbrev passed_or : State → Declaration → Option PassedSymbol → ℕ
passed_or st d None = chosen st (found st d.route.target.number d.naming.name)
passed_or st d (Some h) = h.symbol

abbrev pub gets : How → State → Declaration → ℕ
gets plain st d = chosen st (found st d.route.target.number d.naming.name)
gets moved st d = chosen st (found st (stands_in d) d.naming.name)
gets caught st d = length st.symbols
gets hoisted st d = passed_or st d (passed_symbol st d.route.passed d.naming.name)

-- ---- conflicts

abbrev told : List Symbol → Declaration → List ℕ → List Conflict
told ys d ss = flat_map (λ s. conflict_with d.naming (slice_get ys s)) ss

-- conflicts that are noted change nothing else
noted_are : (st : State) (d : Declaration) (ss : List ℕ) → against_all st d ss ≡ record st { conflicts = st.conflicts ++ told st.symbols d ss }
noted_are st d [] = λ i. record st { conflicts = sym (append-nil st.conflicts) i }
noted_are st d (s ∷ ss) =
    noted_are (against st d s) d ss
    ∙ (λ i. record st { conflicts = append_assoc st.conflicts (conflict_with d.naming (slice_get st.symbols s)) (told st.symbols d ss) i })

-- a symbol that doesn't count as a value conflicts with no `var`
idle_mask : (f : ℕ) → meets f symbol.ByValue.bits ≡ false → meets f symbol.FunctionScopedVariableExcludes.bits ≡ false
idle_mask f h =
    let zero_there : bit_and f symbol.ByValue.bits ≡ 0 = is_zero (bit_and f symbol.ByValue.bits) h in
    let inside : bit_and symbol.ByValue.bits symbol.FunctionScopedVariableExcludes.bits ≡ symbol.FunctionScopedVariableExcludes.bits = refl in
    ap (λ n. not (n == 0))
    (ap (bit_and f) (sym inside)
    ∙ sym (and_assoc symbol.FunctionScopedVariableExcludes.bits f symbol.ByValue.bits)
    ∙ ap (λ n. bit_and n symbol.FunctionScopedVariableExcludes.bits) zero_there)
  where
    is_true : (b : Bool) → not b ≡ false → b ≡ true
    is_true true e = refl
    is_true false e = absurd cc

    is_zero : (n : ℕ) → not (n == 0) ≡ false → n ≡ 0
    is_zero n e = eqb-true n 0 (is_true (n == 0) e)

idle_symbol : (ys : List Symbol) (n : Naming) (s : ℕ) → n.excluded ≡ symbol.FunctionScopedVariableExcludes.bits → meets (flags_or_none (slice_get ys s)) symbol.ByValue.bits ≡ false → conflict_with n (slice_get ys s) ≡ []
idle_symbol ys n s e h = go (slice_get ys s) h
  where
    go : (o : Option Symbol) → meets (flags_or_none o) symbol.ByValue.bits ≡ false → conflict_with n o ≡ []
    go None k = refl
    go (Some y) k = ap (λ b. cond b (record { name = n.name; earlier = y.span; later = n.span } ∷ []) []) (ap (meets y.flags.bits) e ∙ idle_mask y.flags.bits k)

by_passed : List Symbol → Declaration → Option PassedSymbol → List Conflict
by_passed ys d None = []
by_passed ys d (Some h) = conflict_with d.naming (slice_get ys h.symbol)

-- so of the symbols that a `var` asks at most the one that it gets conflicts
asked_tell : (st : State) (d : Declaration) (cs : List OpenScope) → d.naming.excluded ≡ symbol.FunctionScopedVariableExcludes.bits → told st.symbols d (asked_symbols st cs d.naming.name) ≡ by_passed st.symbols d (passed_symbol st cs d.naming.name)
unfolding by_passed
asked_tell st d [] e = refl
asked_tell st d (c ∷ cs) e = go (found st c.number d.naming.name) refl (asked_tell st d cs e)
  where
    some : (s : ℕ) → found st c.number d.naming.name ≡ Some s → (b : Bool) → meets (flags_of st s) symbol.ByValue.bits ≡ b → told st.symbols d (asked_symbols st cs d.naming.name) ≡ by_passed st.symbols d (passed_symbol st cs d.naming.name) → told st.symbols d (asked_symbols st (c ∷ cs) d.naming.name) ≡ by_passed st.symbols d (passed_symbol st (c ∷ cs) d.naming.name)
    some s f true k h = rw (f, k) (append-nil (conflict_with d.naming (slice_get st.symbols s)))
    some s f false k h = rw (f, k) (ap (λ l. l ++ told st.symbols d (asked_symbols st cs d.naming.name)) (idle_symbol st.symbols d.naming s e k) ∙ h)

    go : (o : Option ℕ) → found st c.number d.naming.name ≡ o → told st.symbols d (asked_symbols st cs d.naming.name) ≡ by_passed st.symbols d (passed_symbol st cs d.naming.name) → told st.symbols d (asked_symbols st (c ∷ cs) d.naming.name) ≡ by_passed st.symbols d (passed_symbol st (c ∷ cs) d.naming.name)
    go None f h = rw f h
    go (Some s) f h = some s f (meets (flags_of st s) symbol.ByValue.bits) refl h

beyond : (ys : List Symbol) → slice_get ys (length ys) ≡ None
beyond [] = refl
beyond (y ∷ ys) = beyond ys

declare_tells : (st : State) (c : ℕ) (d : Declaration) (o : Option ℕ) → (declare_in st c d o).conflicts ≡ st.conflicts ++ conflict_with d.naming (slice_get st.symbols (chosen st o))
declare_tells st c d None = sym (ap (λ w. st.conflicts ++ conflict_with d.naming w) (beyond st.symbols) ∙ append-nil st.conflicts)
declare_tells st c d (Some s) = refl

move_symbol_tells : (st : State) (c t : ℕ) (x : Name) (s : ℕ) (o : Option ℕ) → (move_symbol st c t x s o).conflicts ≡ st.conflicts
move_symbol_tells st c t x s None = refl
move_symbol_tells st c t x s (Some r) = refl

move_out_tells : (st : State) (c t : ℕ) (x : Name) (s : ℕ) (o : Option ℕ) → (move_out st c t x s o).conflicts ≡ st.conflicts
move_out_tells st c t x s None = refl
move_out_tells st c t x s (Some r) = refl

-- what a `var` has told before it is declared
abbrev noted : State → Declaration → Option PassedSymbol → State
noted st d o = record st { conflicts = st.conflicts ++ by_passed st.symbols d o }

noted_by_passed : (st : State) (d : Declaration) → d.naming.excluded ≡ symbol.FunctionScopedVariableExcludes.bits → against_all st d (asked_symbols st d.route.passed d.naming.name) ≡ noted st d (passed_symbol st d.route.passed d.naming.name)
noted_by_passed st d e = noted_are st d (asked_symbols st d.route.passed d.naming.name) ∙ (λ i. record st { conflicts = st.conflicts ++ asked_tell st d d.route.passed e i })

hoist_tells : (st : State) (d : Declaration) → d.naming.excluded ≡ symbol.FunctionScopedVariableExcludes.bits → (hoist st d).conflicts ≡ st.conflicts ++ conflict_with d.naming (slice_get st.symbols (gets hoisted st d))
unfolding by_passed
hoist_tells st d e =
    ap (λ w. (hoist_by w d (passed_symbol st d.route.passed d.naming.name)).conflicts) (noted_by_passed st d e) ∙ go (passed_symbol st d.route.passed d.naming.name)
  where
    go : (o : Option PassedSymbol) → (hoist_by (noted st d o) d o).conflicts ≡ st.conflicts ++ conflict_with d.naming (slice_get st.symbols (passed_or st d o))
    go None =
        let t : ℕ = d.route.target.number in
        declare_tells (noted st d None) t d (found (noted st d None) t d.naming.name)
        ∙ ap (λ cs. cs ++ conflict_with d.naming (slice_get st.symbols (chosen st (found st t d.naming.name)))) (append-nil st.conflicts)
    go (Some h) =
        let w : State = noted st d (Some h) in
        let got : State = note_symbol (record w { symbols = update (redeclared d.naming) w.symbols h.symbol }) d h.symbol in
        move_symbol_tells got h.scope d.route.target.number d.naming.name h.symbol (get got.bindings d.route.target.number d.naming.name)

-- each declaration tells a conflict with the symbol that it gets, if at all
pub tells_by : (how : How) (st : State) (d : Declaration) → (how ≡ hoisted → d.naming.excluded ≡ symbol.FunctionScopedVariableExcludes.bits) → (declare_by how st d).conflicts ≡ st.conflicts ++ conflict_with d.naming (slice_get st.symbols (gets how st d))
tells_by plain st d e = declare_tells st d.route.target.number d (found st d.route.target.number d.naming.name)
tells_by hoisted st d e = hoist_tells st d (e refl)
tells_by moved st d e =
    let c : ℕ = stands_in d in
    let o : Option ℕ = found st c d.naming.name in
    move_out_tells (declare_in st c d o) c d.route.target.number d.naming.name (chosen st o) (get st.bindings d.route.target.number d.naming.name) ∙ declare_tells st c d o
tells_by caught st d e = declare_tells st d.route.target.number d None

-- ---- spans and flags

looks_push : (ys : List Symbol) (y : Symbol) (n : Naming) → declared_as y ≡ declared_as (new_symbol 0 n) → looks (ys ++ y ∷ []) ≡ joined (length ys) n (looks ys)
looks_push [] y n e = λ i. e i ∷ []
looks_push (z ∷ ys) y n e = ap (λ ls. declared_as z ∷ ls) (looks_push ys y n e)

looks_kept : (f : Symbol → Symbol) → ((y : Symbol) → declared_as (f y) ≡ declared_as y) → (ys : List Symbol) (s : ℕ) → looks (update f ys s) ≡ looks ys
looks_kept f h [] s = refl
looks_kept f h (y ∷ ys) zero = λ i. h y i ∷ looks ys
looks_kept f h (y ∷ ys) (suc s) = ap (λ ls. declared_as y ∷ ls) (looks_kept f h ys s)

looks_united : (n : Naming) (ys : List Symbol) (s : ℕ) → s < length ys → looks (update (λ y. united n.flags (redeclared n y)) ys s) ≡ joined s n (looks ys)
looks_united n [] s h = absurd (omega (arith, h))
looks_united n (y ∷ ys) zero h = refl
looks_united n (y ∷ ys) (suc s) h = ap (λ ls. declared_as y ∷ ls) (looks_united n ys s (omega (arith, h)))

declare_looks : (st : State) (c : ℕ) (d : Declaration) (o : Option ℕ) → IsBelow (length st.symbols) o → looks (declare_in st c d o).symbols ≡ joined (chosen st o) d.naming (looks st.symbols)
declare_looks st c d None h = looks_push st.symbols (new_symbol c d.naming) d.naming refl
declare_looks st c d (Some s) h = looks_united d.naming st.symbols s h

move_symbol_looks : (st : State) (c t : ℕ) (x : Name) (s : ℕ) (o : Option ℕ) → looks (move_symbol st c t x s o).symbols ≡ looks st.symbols
move_symbol_looks st c t x s None = looks_kept (in_scope t) (λ y. refl) st.symbols s
move_symbol_looks st c t x s (Some r) = refl

move_out_looks : (st : State) (c t : ℕ) (x : Name) (s : ℕ) (o : Option ℕ) → looks (move_out st c t x s o).symbols ≡ looks st.symbols
move_out_looks st c t x s None = looks_kept (in_scope t) (λ y. refl) st.symbols s
move_out_looks st c t x s (Some r) = refl

pub rescoped_looks : (ys : List Symbol) (bs : Bindings) (c : ℕ) → looks (rescoped ys bs c) ≡ looks ys
rescoped_looks ys [] c = refl
rescoped_looks ys (b ∷ bs) c = rescoped_looks (update (in_scope c) ys b.1) bs c ∙ looks_kept (in_scope c) (λ y. refl) ys b.1

-- a symbol that has all flags of a declaration is declared once more by it
looks_redeclared : (n : Naming) (ys : List Symbol) (s : ℕ) → s < length ys → ((l : Symbol) → slice_get (looks ys) s ≡ Some l → union l.flags.bits n.flags ≡ l.flags.bits) → looks (update (redeclared n) ys s) ≡ joined s n (looks ys)
looks_redeclared n [] s h k = absurd (omega (arith, h))
looks_redeclared n (y ∷ ys) zero h k = λ i. record (redeclared n (declared_as y)) { flags = record { bits = sym (k (declared_as y) refl) i } } ∷ looks ys
looks_redeclared n (y ∷ ys) (suc s) h k = ap (λ ls. declared_as y ∷ ls) (looks_redeclared n ys s (omega (arith, h)) k)

-- so is a symbol of a passed scope by the `var` that gets it
abbrev pub HasFlagsOf : State → Declaration → Type 0
HasFlagsOf st d = (h : PassedSymbol) → passed_symbol st d.route.passed d.naming.name ≡ Some h → looks (update (redeclared d.naming) st.symbols h.symbol) ≡ joined h.symbol d.naming (looks st.symbols)

hoist_looks : (st : State) (d : Declaration) → d.naming.excluded ≡ symbol.FunctionScopedVariableExcludes.bits → IsSound st → HasFlagsOf st d → looks (hoist st d).symbols ≡ joined (gets hoisted st d) d.naming (looks st.symbols)
hoist_looks st d e b has =
    ap (λ w. looks (hoist_by w d (passed_symbol st d.route.passed d.naming.name)).symbols) (noted_by_passed st d e) ∙ go (passed_symbol st d.route.passed d.naming.name) refl
  where
    go : (o : Option PassedSymbol) → passed_symbol st d.route.passed d.naming.name ≡ o → looks (hoist_by (noted st d o) d o).symbols ≡ joined (passed_or st d o) d.naming (looks st.symbols)
    go None f =
        let t : ℕ = d.route.target.number in
        let w : State = noted st d None in
        declare_looks w t d (found w t d.naming.name) (found_below (length st.symbols) w t d.naming.name (record { bindings = b.bindings; remembered = b.remembered }))
    go (Some h) f =
        let w : State = noted st d (Some h) in
        let got : State = note_symbol (record w { symbols = update (redeclared d.naming) w.symbols h.symbol }) d h.symbol in
        move_symbol_looks got h.scope d.route.target.number d.naming.name h.symbol (get got.bindings d.route.target.number d.naming.name)
        ∙ has h f

pub looks_by : (how : How) (st : State) (d : Declaration) → (how ≡ hoisted → (d.naming.excluded ≡ symbol.FunctionScopedVariableExcludes.bits) × HasFlagsOf st d) → IsSound st → looks (declare_by how st d).symbols ≡ joined (gets how st d) d.naming (looks st.symbols)
looks_by plain st d e b = let t : ℕ = d.route.target.number in declare_looks st t d (found st t d.naming.name) (found_below (length st.symbols) st t d.naming.name b)
looks_by hoisted st d e b = hoist_looks st d (e refl).0 b (e refl).1
looks_by moved st d e b =
    let c : ℕ = stands_in d in
    let o : Option ℕ = found st c d.naming.name in
    move_out_looks (declare_in st c d o) c d.route.target.number d.naming.name (chosen st o) (get st.bindings d.route.target.number d.naming.name)
    ∙ declare_looks st c d o (found_below (length st.symbols) st c d.naming.name b)
looks_by caught st d e b = declare_looks st d.route.target.number d None tt

-- ---- the declarations that are made

made_declare : (st : State) (c : ℕ) (d : Declaration) (o : Option ℕ) → (declare_in st c d o).made ≡ st.made ++ record { declaration = d; symbol = chosen st o } ∷ []
made_declare st c d None = refl
made_declare st c d (Some s) = refl

made_move_symbol : (st : State) (c t : ℕ) (x : Name) (s : ℕ) (o : Option ℕ) → (move_symbol st c t x s o).made ≡ st.made
made_move_symbol st c t x s None = refl
made_move_symbol st c t x s (Some r) = refl

made_move_out : (st : State) (c t : ℕ) (x : Name) (s : ℕ) (o : Option ℕ) → (move_out st c t x s o).made ≡ st.made
made_move_out st c t x s None = refl
made_move_out st c t x s (Some r) = refl

made_hoist : (st : State) (d : Declaration) → (hoist st d).made ≡ st.made ++ record { declaration = d; symbol = gets hoisted st d } ∷ []
made_hoist st d =
    let asked : List ℕ = asked_symbols st d.route.passed d.naming.name in
    ap (λ w. (hoist_by w d (passed_symbol st d.route.passed d.naming.name)).made) (noted_are st d asked) ∙ go (passed_symbol st d.route.passed d.naming.name)
  where
    told_state : State
    told_state = record st { conflicts = st.conflicts ++ told st.symbols d (asked_symbols st d.route.passed d.naming.name) }

    go : (o : Option PassedSymbol) → (hoist_by told_state d o).made ≡ st.made ++ record { declaration = d; symbol = passed_or st d o } ∷ []
    go None = made_declare told_state d.route.target.number d (found told_state d.route.target.number d.naming.name)
    go (Some h) =
        let got : State = note_symbol (record told_state { symbols = update (redeclared d.naming) st.symbols h.symbol }) d h.symbol in
        made_move_symbol got h.scope d.route.target.number d.naming.name h.symbol (get got.bindings d.route.target.number d.naming.name)

pub made_by : (how : How) (st : State) (d : Declaration) → (declare_by how st d).made ≡ st.made ++ record { declaration = d; symbol = gets how st d } ∷ []
made_by plain st d = made_declare st d.route.target.number d (found st d.route.target.number d.naming.name)
made_by hoisted st d = made_hoist st d
made_by moved st d =
    let c : ℕ = stands_in d in
    let o : Option ℕ = found st c d.naming.name in
    made_move_out (declare_in st c d o) c d.route.target.number d.naming.name (chosen st o) (get st.bindings d.route.target.number d.naming.name) ∙ made_declare st c d o
made_by caught st d = refl

-- ---- bounds

passed_below : (st : State) (cs : List OpenScope) (x : Name) → IsSound st → (h : PassedSymbol) → passed_symbol st cs x ≡ Some h → h.symbol < length st.symbols
passed_below st [] x b h e = absurd cc
passed_below st (c ∷ cs) x b h e = go (found st c.number x) refl (cases_Bool (counts st (found st c.number x))) (found_below (length st.symbols) st c.number x b) (passed_below st cs x b h)
  where
    go : (o : Option ℕ) → found st c.number x ≡ o → (counts st (found st c.number x) ≡ true) ⊎ (counts st (found st c.number x) ≡ false) → IsBelow (length st.symbols) (found st c.number x) → (passed_symbol st cs x ≡ Some h → h.symbol < length st.symbols) → h.symbol < length st.symbols
    go o f (inr k) w later = later (rw k at e)
    go None f (inl k) w later = let q : counts st None ≡ true = subst (λ o. counts st o ≡ true) f k in absurd cc
    go (Some s) f (inl k) w later =
        let q : Some (record { scope = c.number; symbol = s }) ≡ Some h = rw (k, f) at e in
        let i : record { scope = c.number; symbol = s } ≡ h = cc in
        subst (λ (g : PassedSymbol). g.symbol < length st.symbols) i (subst (IsBelow (length st.symbols)) f w)

below_next : (st : State) (o : Option ℕ) → IsBelow (length st.symbols) o → chosen st o ≤ length st.symbols
below_next st None h = omega arith
below_next st (Some s) h = omega (arith, h)

pub gets_within : (how : How) (st : State) (d : Declaration) → IsSound st → gets how st d ≤ length st.symbols
gets_within plain st d b = below_next st (found st d.route.target.number d.naming.name) (found_below (length st.symbols) st d.route.target.number d.naming.name b)
gets_within moved st d b = below_next st (found st (stands_in d) d.naming.name) (found_below (length st.symbols) st (stands_in d) d.naming.name b)
gets_within caught st d b = omega arith
gets_within hoisted st d b = go (passed_symbol st d.route.passed d.naming.name) refl
  where
    go : (o : Option PassedSymbol) → passed_symbol st d.route.passed d.naming.name ≡ o → passed_or st d o ≤ length st.symbols
    go None e = below_next st (found st d.route.target.number d.naming.name) (found_below (length st.symbols) st d.route.target.number d.naming.name b)
    go (Some h) e = let l : h.symbol < length st.symbols = passed_below st d.route.passed d.naming.name b h e in omega (arith, l)

pub gets_passed : (st : State) (d : Declaration) (h : PassedSymbol) → passed_symbol st d.route.passed d.naming.name ≡ Some h → gets hoisted st d ≡ h.symbol
gets_passed st d h e = ap (passed_or st d) e

pub passed_kept : (st : State) (d : Declaration) → IsSound st → ((l : Symbol) → slice_get (looks st.symbols) (gets hoisted st d) ≡ Some l → union l.flags.bits d.naming.flags ≡ l.flags.bits) → HasFlagsOf st d
passed_kept st d b k h e =
    looks_redeclared d.naming st.symbols h.symbol (passed_below st d.route.passed d.naming.name b h e)
    (λ l f. k l (ap (λ o. slice_get (looks st.symbols) (passed_or st d o)) e ∙ f))
