-- What the walk does for `var` variables and block functions shows what the definitions do.
use Rattle.std.proofs.Common.{◌≡◌, ℕ, ◌<◌, List, [], ◌∷◌, refl, sym, ap, subst, ◌∙◌, Option, Some, None, cond, Bool, true, false, inl, inr, length}
use Rattle.std.specs.Option.{unwrap_or}
use Rattle.semantic_syntax.specs.Tables.{Name}
use Rattle.semantic_syntax.specs.Reading.{bound_in}
use Rattle.semantic_model.proofs.fold.Actions.{IsMovable, declared_movable}
use Rattle.semantic_model.specs.Place.{OpenScope}
use Rattle.semantic_model.specs.Binding.{Binding, get, put, remove, move}
use Rattle.semantic_model.specs.Declaration.{Declaration, stands_in}
use Rattle.semantic_model.specs.Fold.{State, found, update, redeclared, in_scope, note_symbol, against, declare_in, chosen}
use Rattle.semantic_model.specs.Hoist.{PassedSymbol, passed_symbol, passed_symbol_or, counts, asked_symbols, against_all, remembering, move_symbol, hoist_by, hoist, move_out, move_function}
use Rattle.semantic_model.proofs.fits.Outwards.{flags_at}
use Rattle.semantic_model.proofs.lists.BindingLaws.{same_key_tells, get-put_other}
use Rattle.walk_model.specs.WalkState.{WalkState}
use Rattle.walk_model.specs.Declares as writes
use Rattle.walk_model.specs.Hoists as reaches
use Rattle.semantic_model.specs.TablesOf.{numbers}
use Rattle.walk_model.proofs.shows.SymbolLists.{update_twice}
use Rattle.walk_model.proofs.shows.Represents.{Shows, Represents, bound_as, found_as}
use Rattle.walk_model.proofs.shows.ShownChanges.{represents_note_symbol, represents_redeclare, represents_set_symbol_scope, represents_against, represents_declare_in, chosen_as, represents_remember, represents_rebind}

-- the symbol that counts
flags_as : (n : ℕ) (w : WalkState) (st : State) (y : ℕ) → Shows n w st → (reaches.value_symbol w.tables (Some y)) ≡ cond (counts st (Some y)) (Some y) None
flags_as n w st y h = rw (h.symbols, flags_at st.symbols y) refl

passed_symbol_step : (n : ℕ) (w : WalkState) (st : State) (c : ℕ) (o : Option ℕ) (later : Option PassedSymbol) → Shows n w st
    → reaches.passed_symbol_or c (reaches.value_symbol w.tables o) later ≡ cond (counts st o) (passed_symbol_or c o) later
passed_symbol_step n w st c None later h = refl
passed_symbol_step n w st c (Some y) later h = rw (flags_as n w st y h) (by (counts st (Some y)))
  where
    by : (b : Bool) → reaches.passed_symbol_or c (cond b (Some y) None) later ≡ cond b (passed_symbol_or c (Some y)) later
    by true = refl
    by false = refl

pub passed_symbol_as : (n : ℕ) (w : WalkState) (st : State) (cs : List OpenScope) (x : Name) → Shows n w st → reaches.passed_symbol w (numbers cs) x ≡ passed_symbol st cs x
passed_symbol_as n w st [] x h = refl
passed_symbol_as n w st (c ∷ cs) x h =
    rw (found_as n w st c.number x h, passed_symbol_as n w st cs x h) (passed_symbol_step n w st c.number (found st c.number x) (passed_symbol st cs x) h)

-- conflicts don't change what is asked
asked_against : (st : State) (d : Declaration) (y : ℕ) (cs : List OpenScope) (x : Name) → asked_symbols (against st d y) cs x ≡ asked_symbols st cs x
asked_against st d y [] x = refl
asked_against st d y (c ∷ cs) x = rw (asked_against st d y cs x) refl

pub against_way_as : (n : ℕ) (w : WalkState) (st : State) (d : Declaration) (cs : List OpenScope) → Represents n w st
    → Represents n (reaches.against_way w d.naming (numbers cs)) (against_all st d (asked_symbols st cs d.naming.name))
against_way_as n w st d [] h = h
against_way_as n w st d (c ∷ cs) h = rw (found_as n w st c.number d.naming.name h.shows) (by (λ v s r. against_way_as n v s d cs r) (found st c.number d.naming.name) refl)
  where
    Rest : Type 0
    Rest = (v : WalkState) (s : State) → Represents n v s → Represents n (reaches.against_way v d.naming (numbers cs)) (against_all s d (asked_symbols s cs d.naming.name))

    counted : Rest → (y : ℕ) (b : Bool) → Represents n (reaches.unless_passed_symbol (cond b (Some y) None) (writes.against w d.naming y) (reaches.against_way (writes.against w d.naming y) d.naming (numbers cs)))
        (against_all st d (y ∷ cond b [] (asked_symbols st cs d.naming.name)))
    counted rest y true = represents_against n w st y d h
    counted rest y false =
        subst (λ ys. Represents n (reaches.against_way (writes.against w d.naming y) d.naming (numbers cs)) (against_all (against st d y) d ys))
        (asked_against st d y cs d.naming.name) (rest (writes.against w d.naming y) (against st d y) (represents_against n w st y d h))

    by : Rest → (o : Option ℕ) → found st c.number d.naming.name ≡ o
        → Represents n (reaches.unless_passed_symbol (reaches.value_symbol w.tables o) (reaches.against_found w d.naming o) (reaches.against_way (reaches.against_found w d.naming o) d.naming (numbers cs)))
        (against_all st d (asked_symbols st (c ∷ cs) d.naming.name))
    by rest None e = rw e (rest w st h)
    by rest (Some y) e = rw (e, flags_as n w st y h.shows) (counted rest y (counts st (Some y)))

pub remember_all_as : (n : ℕ) (w : WalkState) (st : State) (cs : List OpenScope) (x : Name) (y : ℕ) → Represents n w st
    → Represents n (reaches.remember_all w (numbers cs) x y) (remembering st cs x y)
remember_all_as n w st [] x y h = h
remember_all_as n w st (c ∷ cs) x y h =
    remember_all_as n (reaches.remember w c.number x y) (record st { remembered = put st.remembered c.number x y }) cs x y (represents_remember n w st c.number x y h)

pub move_symbol_as : (n : ℕ) (w : WalkState) (st : State) (from to y : ℕ) (x : Name) → from < n → to < n → (from ≡ to → ⊥) → Represents n w st
    → Represents n (reaches.move_symbol w from to y x) (move_symbol st from to x y (get st.bindings to x))
move_symbol_as n w st from to y x l k apart h = rw (bound_as n w st to x h.shows) (by (get st.bindings to x))
  where
    by : (o : Option ℕ) → Represents n (reaches.unless_bound o w (reaches.rebind w x y from to)) (move_symbol st from to x y o)
    by None = represents_rebind n w st x y from to l k apart h
    by (Some z) = h

-- a state of the walk in which a declaration got a symbol, by whether it is pure
abbrev got : Bool → WalkState → ℕ → Declaration → WalkState
got b w y d = record w { nodes = (writes.note_symbol w y d.naming).nodes; tables = cond b (writes.pure_with w.tables y) w.tables }

-- it is the same whether the declaration gets its symbol before or after the move
move_then_note_symbol : (w : WalkState) (from to y : ℕ) (d : Declaration) → writes.note_symbol (reaches.move_symbol w from to y d.naming.name) y d.naming ≡ reaches.move_symbol (writes.note_symbol w y d.naming) from to y d.naming.name
move_then_note_symbol w from to y d = by d.naming.is_pure (bound_in w.tables to d.naming.name) refl
  where
    by : (b : Bool) (o : Option ℕ) → bound_in w.tables to d.naming.name ≡ o → got b (reaches.move_symbol w from to y d.naming.name) y d ≡ reaches.move_symbol (got b w y d) from to y d.naming.name
    by true None e = rw e refl
    by true (Some z) e = rw e refl
    by false None e = rw e refl
    by false (Some z) e = rw e refl

hoist_none : (n : ℕ) (w : WalkState) (st : State) (d : Declaration) → d.route.target.number < n → Represents n w st
    → Represents n (reaches.remember_all (writes.note_symbol (writes.with_symbol_in w d.route.target.number d.naming) (writes.symbol_in w d.route.target.number d.naming) d.naming) (numbers d.route.passed) d.naming.name (writes.symbol_in w d.route.target.number d.naming))
    (hoist_by st d None)
hoist_none n w st d l h =
    let o : Option ℕ = found st d.route.target.number d.naming.name in
    rw (found_as n w st d.route.target.number d.naming.name h.shows)
    (subst (λ y. Represents n (reaches.remember_all (writes.note_symbol (writes.with_found_symbol w d.route.target.number d.naming o) (unwrap_or o (length w.tables.symbols)) d.naming) (numbers d.route.passed) d.naming.name y) (hoist_by st d None))
    (sym (chosen_as n w st o h.shows))
    (remember_all_as n (writes.note_symbol (writes.with_found_symbol w d.route.target.number d.naming o) (unwrap_or o (length w.tables.symbols)) d.naming) (declare_in st d.route.target.number d o) d.route.passed d.naming.name (chosen st o)
    (represents_declare_in n w st d.route.target.number d o l h)))

hoist_some : (n : ℕ) (w : WalkState) (st : State) (d : Declaration) (r : PassedSymbol) → r.scope < n → d.route.target.number < n → (r.scope ≡ d.route.target.number → ⊥) → Represents n w st
    → Represents n (reaches.remember_all (writes.note_symbol (reaches.move_symbol (writes.redeclare w r.symbol d.naming) r.scope d.route.target.number r.symbol d.naming.name) r.symbol d.naming) (numbers d.route.passed) d.naming.name r.symbol)
    (hoist_by st d (Some r))
hoist_some n w st d r l k apart h =
    let redone : State = record st { symbols = update (redeclared d.naming) st.symbols r.symbol } in
    let again : WalkState = writes.redeclare w r.symbol d.naming in
    let got_it : Represents n (writes.note_symbol again r.symbol d.naming) (note_symbol redone d r.symbol) = represents_note_symbol n again redone r.symbol d (represents_redeclare n w st r.symbol d h) in
    let went : Represents n (reaches.move_symbol (writes.note_symbol again r.symbol d.naming) r.scope d.route.target.number r.symbol d.naming.name) (move_symbol (note_symbol redone d r.symbol) r.scope d.route.target.number d.naming.name r.symbol (get st.bindings d.route.target.number d.naming.name)) =
    move_symbol_as n (writes.note_symbol again r.symbol d.naming) (note_symbol redone d r.symbol) r.scope d.route.target.number r.symbol d.naming.name l k apart got_it in
    remember_all_as n (writes.note_symbol (reaches.move_symbol again r.scope d.route.target.number r.symbol d.naming.name) r.symbol d.naming)
    (move_symbol (note_symbol redone d r.symbol) r.scope d.route.target.number d.naming.name r.symbol (get st.bindings d.route.target.number d.naming.name)) d.route.passed d.naming.name r.symbol
    (subst (λ v. Represents n v (move_symbol (note_symbol redone d r.symbol) r.scope d.route.target.number d.naming.name r.symbol (get st.bindings d.route.target.number d.naming.name))) (sym (move_then_note_symbol again r.scope d.route.target.number r.symbol d)) went)

-- the scopes are open, and apart from the target
abbrev pub ArePassed : ℕ → List OpenScope → ℕ → Type 0
ArePassed n [] t = Unit {0}
ArePassed n (c ∷ cs) t = (c.number < n) × (c.number ≡ t → ⊥) × ArePassed n cs t

passed_symbol_passed : (n : ℕ) (st : State) (cs : List OpenScope) (t : ℕ) (x : Name) (r : PassedSymbol) → ArePassed n cs t → passed_symbol st cs x ≡ Some r → (r.scope < n) × (r.scope ≡ t → ⊥)
passed_symbol_passed n st [] t x r a e = absurd cc
passed_symbol_passed n st (c ∷ cs) t x r a e = by (passed_symbol_passed n st cs t x r a.2) (counts st (found st c.number x)) (found st c.number x) e
  where
    by : (passed_symbol st cs x ≡ Some r → (r.scope < n) × (r.scope ≡ t → ⊥)) → (b : Bool) (o : Option ℕ) → cond b (passed_symbol_or c.number o) (passed_symbol st cs x) ≡ Some r → (r.scope < n) × (r.scope ≡ t → ⊥)
    by rest true None q = absurd cc
    by rest true (Some y) q =
        let i : c.number ≡ r.scope = ap scope_or q in
        (subst (λ m. m < n) i a.0, λ j. a.1 (i ∙ j))
      where
        scope_or : Option PassedSymbol → ℕ
        scope_or None = 0
        scope_or (Some g) = g.scope
    by rest false o q = rest q

pub hoist_as : (n : ℕ) (w : WalkState) (st : State) (d : Declaration) → d.route.target.number < n → ArePassed n d.route.passed d.route.target.number → Represents n w st
    → Represents n (reaches.hoist w (numbers d.route.passed) d.route.target.number d.naming) (hoist st d)
hoist_as n w st d l a h = rw (passed_symbol_as n w st d.route.passed d.naming.name h.shows) (by (passed_symbol st d.route.passed d.naming.name) refl)
  where
    noted : Represents n (reaches.against_way w d.naming (numbers d.route.passed)) (against_all st d (asked_symbols st d.route.passed d.naming.name))
    noted = against_way_as n w st d d.route.passed h

    by : (o : Option PassedSymbol) → passed_symbol st d.route.passed d.naming.name ≡ o
        → Represents n (reaches.remember_all (writes.note_symbol (reaches.hoisted_by (reaches.against_way w d.naming (numbers d.route.passed)) d.route.target.number d.naming o) (reaches.hoisted_symbol (reaches.against_way w d.naming (numbers d.route.passed)) d.route.target.number d.naming o) d.naming) (numbers d.route.passed) d.naming.name (reaches.hoisted_symbol (reaches.against_way w d.naming (numbers d.route.passed)) d.route.target.number d.naming o))
        (hoist_by (against_all st d (asked_symbols st d.route.passed d.naming.name)) d o)
    by None e = hoist_none n (reaches.against_way w d.naming (numbers d.route.passed)) (against_all st d (asked_symbols st d.route.passed d.naming.name)) d l noted
    by (Some r) e =
        let q : (r.scope < n) × (r.scope ≡ d.route.target.number → ⊥) = passed_symbol_passed n st d.route.passed d.route.target.number d.naming.name r a e in
        hoist_some n (reaches.against_way w d.naming (numbers d.route.passed)) (against_all st d (asked_symbols st d.route.passed d.naming.name)) d r q.0 l q.1 noted

move_some : (bs : List Binding) (c t y : ℕ) (x : Name) → get bs c x ≡ Some y → move bs c t x ≡ put (remove bs c x) t x y
move_some bs c t y x g = rw (move, g) refl

move_absent : (bs : List Binding) (c t : ℕ) (x : Name) → get bs c x ≡ None → move bs c t x ≡ bs
move_absent bs c t x g = rw (move, g) refl

move_out_none : (n : ℕ) (w : WalkState) (st : State) (c t y : ℕ) (x : Name) → c < n → t < n → (c ≡ t → ⊥) → IsMovable st c x y → Represents n w st
    → Represents n (reaches.remember (reaches.set_symbol_scope (reaches.rebind_bound w x (get st.bindings c x) c t) y t) c x y) (move_out st c t x y None)
move_out_none n w st c t y x l k apart (inl g) h =
    subst (λ o. Represents n (reaches.remember (reaches.set_symbol_scope (reaches.rebind_bound w x o c t) y t) c x y) (move_out st c t x y None)) (sym g)
    (subst (λ bs. Represents n (reaches.remember (reaches.set_symbol_scope (reaches.rebind w x y c t) y t) c x y) (record st { bindings = bs; symbols = update (in_scope t) st.symbols y; remembered = put st.remembered c x y })) (sym (move_some st.bindings c t y x g))
    (represents_remember n (reaches.set_symbol_scope (reaches.rebind w x y c t) y t) (record st { bindings = put (remove st.bindings c x) t x y; symbols = update (in_scope t) st.symbols y }) c x y
    (subst (λ ys. Represents n (reaches.set_symbol_scope (reaches.rebind w x y c t) y t) (record st { bindings = put (remove st.bindings c x) t x y; symbols = ys })) (update_twice (in_scope t) (in_scope t) st.symbols y)
    (represents_set_symbol_scope n (reaches.rebind w x y c t) (record st { bindings = put (remove st.bindings c x) t x y; symbols = update (in_scope t) st.symbols y }) y t
    (represents_rebind n w st x y c t l k apart h)))))
move_out_none n w st c t y x l k apart (inr g) h =
    subst (λ o. Represents n (reaches.remember (reaches.set_symbol_scope (reaches.rebind_bound w x o c t) y t) c x y) (move_out st c t x y None)) (sym g)
    (subst (λ bs. Represents n (reaches.remember (reaches.set_symbol_scope w y t) c x y) (record st { bindings = bs; symbols = update (in_scope t) st.symbols y; remembered = put st.remembered c x y })) (sym (move_absent st.bindings c t x g))
    (represents_remember n (reaches.set_symbol_scope w y t) (record st { symbols = update (in_scope t) st.symbols y }) c x y (represents_set_symbol_scope n w st y t h)))

pub move_out_as : (n : ℕ) (w : WalkState) (st : State) (c t y : ℕ) (x : Name) → c < n → t < n → (c ≡ t → ⊥) → IsMovable st c x y → Represents n w st
    → Represents n (reaches.move_out w c t y x) (move_out st c t x y (get st.bindings t x))
move_out_as n w st c t y x l k apart m h = rw (bound_as n w st t x h.shows) (by (get st.bindings t x))
  where
    by : (o : Option ℕ) → Represents n (reaches.unless_bound o w (reaches.remember (reaches.set_symbol_scope (reaches.move_name w x c t) y t) c x y)) (move_out st c t x y o)
    by None = subst (λ o. Represents n (reaches.remember (reaches.set_symbol_scope (reaches.rebind_bound w x o c t) y t) c x y) (move_out st c t x y None)) (sym (bound_as n w st c x h.shows)) (move_out_none n w st c t y x l k apart m h)
    by (Some z) = h

target_kept : (st : State) (c t : ℕ) (d : Declaration) (o : Option ℕ) → (c ≡ t → ⊥) → get (declare_in st c d o).bindings t d.naming.name ≡ get st.bindings t d.naming.name
target_kept st c t d None apart = elim (same_key_tells c t d.naming.name d.naming.name) [
  | inl k ↦ absurd (apart k.1)
  | inr k ↦ get-put_other st.bindings c d.naming.name (length st.symbols) t d.naming.name k.0
]
target_kept st c t d (Some y) apart = refl

pub declare_and_move_as : (n : ℕ) (w : WalkState) (st : State) (d : Declaration) → stands_in d < n → d.route.target.number < n → (stands_in d ≡ d.route.target.number → ⊥) → Represents n w st
    → Represents n (reaches.declare_and_move w (stands_in d) d.route.target.number d.naming) (move_function st d)
declare_and_move_as n w st d l k apart h =
    let c : ℕ = stands_in d in
    let o : Option ℕ = found st c d.naming.name in
    let done : Represents n (writes.note_symbol (writes.with_found_symbol w c d.naming o) (unwrap_or o (length w.tables.symbols)) d.naming) (declare_in st c d o) = represents_declare_in n w st c d o l h in
    rw (found_as n w st c d.naming.name h.shows)
    (subst (λ y. Represents n (reaches.move_out (writes.note_symbol (writes.with_found_symbol w c d.naming o) y d.naming) c d.route.target.number y d.naming.name) (move_function st d)) (sym (chosen_as n w st o h.shows))
    (subst (λ p. Represents n (reaches.move_out (writes.note_symbol (writes.with_found_symbol w c d.naming o) (chosen st o) d.naming) c d.route.target.number (chosen st o) d.naming.name) (move_out (declare_in st c d o) c d.route.target.number d.naming.name (chosen st o) p))
    (target_kept st c d.route.target.number d o apart)
    (move_out_as n (writes.note_symbol (writes.with_found_symbol w c d.naming o) (chosen st o) d.naming) (declare_in st c d o) c d.route.target.number (chosen st o) d.naming.name l k apart (declared_movable st d c o refl)
    (subst (λ y. Represents n (writes.note_symbol (writes.with_found_symbol w c d.naming o) y d.naming) (declare_in st c d o)) (chosen_as n w st o h.shows) done))))
