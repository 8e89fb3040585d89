-- The fold keeps every binding to a symbol that exists.
use Rattle.std.proofs.Common.{◌≡◌, ℕ, ◌<◌, ◌≤◌, List, [], ◌∷◌, length, Option, Some, None, Bool, true, false, cond, refl, arith}
use Rattle.semantic_syntax.specs.Tables.{Name, Symbol, Bindings}
use Rattle.semantic_model.specs.Place.{OpenScope}
use Rattle.semantic_model.specs.Declaration.{Declaration, stands_in, How, plain, hoisted, moved, caught}
use Rattle.semantic_model.specs.Binding.{Binding, get, put, remove, bound_by}
use Rattle.semantic_model.specs.Event.{Event, declares, takes_over, ends_header}
use Rattle.semantic_model.specs.Fold.{State, start, found, update, redeclared, in_scope, note_symbol, against, declare_in, chosen}
use Rattle.semantic_model.specs.Hoist.{PassedSymbol, passed_symbol, passed_symbol_or, counts, asked_symbols, against_all, remember, remembering, move_symbol, hoist_by, hoist, move_out, move_function, declare_by, rescoped, act, run}
use Rattle.semantic_model.proofs.once.UseLists.{IsBelow}
use Rattle.semantic_model.proofs.lists.Bounds.{AllBelow, put_below, remove_below, move_below, take_over_below, update_length, Bounded, IsSound, found_below, Grows, make_grows, same_grows, declare_grows, chosen_below}

no_growth : (st : State) → IsSound st → Grows st st
no_growth st b = record { longer = omega arith; sound = b }

then_grows : (a b c : State) → Grows a b → Grows b c → Grows a c
then_grows a b c g h = record { longer = omega (arith, g.longer, h.longer); sound = h.sound }

against_grows : (st : State) (d : Declaration) (ss : List ℕ) → IsSound st → Grows st (against_all st d ss)
against_grows st d [] b = no_growth st b
against_grows st d (s ∷ ss) b =
    then_grows st (against st d s) (against_all (against st d s) d ss) (same_grows st (against st d s) refl b.bindings b.remembered)
    (against_grows (against st d s) d ss (record { bindings = b.bindings; remembered = b.remembered }))

remember_below : (k : ℕ) (bs : List Binding) (cs : List OpenScope) (x : Name) (s : ℕ) → s < k → AllBelow k bs → AllBelow k (remember bs cs x s)
remember_below k bs [] x s h a = a
remember_below k bs (c ∷ cs) x s h a = remember_below k (put bs c.number x s) cs x s h (put_below k bs c.number x s h a)

remembering_grows : (st : State) (cs : List OpenScope) (x : Name) (s : ℕ) → s < length st.symbols → IsSound st → Grows st (remembering st cs x s)
remembering_grows st cs x s h b = same_grows st (remembering st cs x s) refl b.bindings (remember_below (length st.symbols) st.remembered cs x s h b.remembered)

abbrev IsPassedSymbolBelow : ℕ → Option PassedSymbol → Type 0
IsPassedSymbolBelow k None = Unit {0}
IsPassedSymbolBelow k (Some h) = h.symbol < k

passed_symbol_or_below : (k c : ℕ) (o : Option ℕ) → IsBelow k o → IsPassedSymbolBelow k (passed_symbol_or c o)
passed_symbol_or_below k c None h = tt
passed_symbol_or_below k c (Some s) h = h

passed_symbol_below : (k : ℕ) (st : State) (cs : List OpenScope) (x : Name) → Bounded k st → IsPassedSymbolBelow k (passed_symbol st cs x)
passed_symbol_below k st [] x b = tt
passed_symbol_below k st (c ∷ cs) x b = by (counts st (found st c.number x)) (passed_symbol_below k st cs x b)
  where
    by : (t : Bool) → IsPassedSymbolBelow k (passed_symbol st cs x) → IsPassedSymbolBelow k (cond t (passed_symbol_or c.number (found st c.number x)) (passed_symbol st cs x))
    by true h = passed_symbol_or_below k c.number (found st c.number x) (found_below k st c.number x b)
    by false h = h

move_symbol_grows : (st : State) (c t : ℕ) (x : Name) (s : ℕ) (o : Option ℕ) → s < length st.symbols → IsSound st → Grows st (move_symbol st c t x s o)
move_symbol_grows st c t x s (Some r) h b = no_growth st b
move_symbol_grows st c t x s None h b =
    same_grows st (move_symbol st c t x s None) (update_length (in_scope t) st.symbols s)
    (put_below (length st.symbols) (remove st.bindings c x) t x s h (remove_below (length st.symbols) st.bindings c x b.bindings)) b.remembered

hoist_grows : (st : State) (d : Declaration) (o : Option PassedSymbol) → IsPassedSymbolBelow (length st.symbols) o → IsSound st → Grows st (hoist_by st d o)
hoist_grows st d None h b =
    let o : Option ℕ = found st d.route.target.number d.naming.name in
    let next : State = declare_in st d.route.target.number d o in
    let g : Grows st next = declare_grows st d.route.target.number d o b in
    then_grows st next (hoist_by st d None) g
    (remembering_grows next d.route.passed d.naming.name (chosen st o) (chosen_below st d.route.target.number d o (found_below (length st.symbols) st d.route.target.number d.naming.name b)) g.sound)
hoist_grows st d (Some passed_symbol) h b =
    let next : State = note_symbol (record st { symbols = update (redeclared d.naming) st.symbols passed_symbol.symbol }) d passed_symbol.symbol in
    let g : Grows st next = same_grows st next (update_length (redeclared d.naming) st.symbols passed_symbol.symbol) b.bindings b.remembered in
    let last : State = move_symbol next passed_symbol.scope d.route.target.number d.naming.name passed_symbol.symbol (get next.bindings d.route.target.number d.naming.name) in
    let there : passed_symbol.symbol < length next.symbols = omega (arith, h, g.longer) in
    let g' : Grows next last = move_symbol_grows next passed_symbol.scope d.route.target.number d.naming.name passed_symbol.symbol (get next.bindings d.route.target.number d.naming.name) there g.sound in
    then_grows st last (hoist_by st d (Some passed_symbol)) (then_grows st next last g g')
    (remembering_grows last d.route.passed d.naming.name passed_symbol.symbol (omega (arith, there, g'.longer)) g'.sound)

move_out_grows : (st : State) (c t : ℕ) (x : Name) (s : ℕ) (o : Option ℕ) → s < length st.symbols → IsSound st → Grows st (move_out st c t x s o)
move_out_grows st c t x s (Some r) h b = no_growth st b
move_out_grows st c t x s None h b =
    same_grows st (move_out st c t x s None) (update_length (in_scope t) st.symbols s)
    (move_below (length st.symbols) st.bindings c t x b.bindings) (put_below (length st.symbols) st.remembered c x s h b.remembered)

same_passed_symbol : (st : State) (d : Declaration) (ss : List ℕ) → length (against_all st d ss).symbols ≡ length st.symbols
same_passed_symbol st d [] = refl
same_passed_symbol st d (s ∷ ss) = same_passed_symbol (against st d s) d ss

passed_symbol_more : (k m : ℕ) (o : Option PassedSymbol) → k ≤ m → IsPassedSymbolBelow k o → IsPassedSymbolBelow m o
passed_symbol_more k m None h b = tt
passed_symbol_more k m (Some x) h b = omega (arith, h, b)

declare_by_grows : (how : How) (st : State) (d : Declaration) → IsSound st → Grows st (declare_by how st d)
declare_by_grows plain st d b = declare_grows st d.route.target.number d (found st d.route.target.number d.naming.name) b
declare_by_grows hoisted st d b =
    let noted : State = against_all st d (asked_symbols st d.route.passed d.naming.name) in
    let g : Grows st noted = against_grows st d (asked_symbols st d.route.passed d.naming.name) b in
    then_grows st noted (hoist st d) g
    (hoist_grows noted d (passed_symbol st d.route.passed d.naming.name) (passed_symbol_more (length st.symbols) (length noted.symbols) (passed_symbol st d.route.passed d.naming.name) g.longer (passed_symbol_below (length st.symbols) st d.route.passed d.naming.name b)) g.sound)
declare_by_grows moved st d b =
    let c : ℕ = stands_in d in
    let o : Option ℕ = found st c d.naming.name in
    let next : State = declare_in st c d o in
    let g : Grows st next = declare_grows st c d o b in
    then_grows st next (move_function st d) g
    (move_out_grows next c d.route.target.number d.naming.name (chosen st o) (get st.bindings d.route.target.number d.naming.name) (chosen_below st c d o (found_below (length st.symbols) st c d.naming.name b)) g.sound)
declare_by_grows caught st d b = make_grows st d.route.target.number d b

pub rescoped_length : (ys : List Symbol) (bs : Bindings) (c : ℕ) → length (rescoped ys bs c) ≡ length ys
rescoped_length ys [] c = refl
rescoped_length ys (b ∷ bs) c = omega (arith, rescoped_length (update (in_scope c) ys b.1) bs c, update_length (in_scope c) ys b.1)

pub act_grows : (st : State) (e : Event) → IsSound st → Grows st (act st e)
act_grows st (declares d) b = declare_by_grows d.how st d b
act_grows st (takes_over c d) b =
    same_grows st (act st (takes_over c d)) (rescoped_length st.symbols (bound_by st.bindings c) d) (take_over_below (length st.symbols) st.bindings c d b.bindings) b.remembered
act_grows st (ends_header c) b = no_growth st b

-- every state of the fold is sound, and symbols only grow
pub run_grows : (st : State) (es : List Event) → IsSound st → Grows st (run st es)
run_grows st [] b = no_growth st b
run_grows st (e ∷ es) b = let g : Grows st (act st e) = act_grows st e b in then_grows st (act st e) (run (act st e) es) g (run_grows (act st e) es g.sound)

pub start_is_sound : IsSound start
start_is_sound = record { bindings = tt; remembered = tt }
