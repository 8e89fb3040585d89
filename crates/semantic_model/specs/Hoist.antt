-- How `var`, block functions and catch clauses reach past a scope, and the whole fold.
use Rattle.std.specs.Prelude.{ℕ, List, [], ◌∷◌, Bool, false, Option, Some, None, cond}
use Rattle.semantic_syntax.specs.declared.symbol_flags.TheConstants.SymbolFlags as symbol
use Rattle.semantic_syntax.specs.Sets.{meets}
use Rattle.semantic_syntax.specs.Tables.{Name, Symbol, Bindings}
use Rattle.semantic_model.specs.Place.{OpenScope}
use Rattle.semantic_model.specs.Declaration.{Declaration, stands_in, How, plain, hoisted, moved, caught}
use Rattle.semantic_model.specs.Binding.{Binding, get, put, remove, move, take_over, bound_by}
use Rattle.semantic_model.specs.Event.{Event, declares, takes_over, ends_header}
use Rattle.semantic_model.specs.Fold.{State, flags_of, found, update, redeclared, in_scope, note_symbol, make, against, declare_in, chosen}

-- a passed scope, and its symbol that counts as the variable
pub record PassedSymbol : Type 0 where
  pub scope : ℕ
  pub symbol : ℕ

-- values and imports count
abbrev pub counts : State → Option ℕ → Bool
counts st None = false
counts st (Some s) = meets (flags_of st s) symbol.ByValue.bits

abbrev pub passed_symbol_or : ℕ → Option ℕ → Option PassedSymbol
passed_symbol_or c None = None
passed_symbol_or c (Some s) = Some (record { scope = c; symbol = s })

-- the first passed scope with a symbol that counts
abbrev pub passed_symbol : State → List OpenScope → Name → Option PassedSymbol
passed_symbol st [] x = None
passed_symbol st (c ∷ cs) x = let s : Option ℕ = found st c.number x in cond (counts st s) (passed_symbol_or c.number s) (passed_symbol st cs x)

-- the symbols that are asked on the way there
abbrev pub asked_symbols : State → List OpenScope → Name → List ℕ
asked_symbols st [] x = []
asked_symbols st (c ∷ cs) x = let s : Option ℕ = found st c.number x in with_found s (cond (counts st s) [] (asked_symbols st cs x))
  where
    with_found : Option ℕ → List ℕ → List ℕ
    with_found None later = later
    with_found (Some s) later = s ∷ later

abbrev pub against_all : State → Declaration → List ℕ → State
against_all st d [] = st
against_all st d (s ∷ ss) = against_all (against st d s) d ss

abbrev pub remember : List Binding → List OpenScope → Name → ℕ → List Binding
remember bs [] x s = bs
remember bs (c ∷ cs) x s = remember (put bs c.number x s) cs x s

-- every passed scope remembers the name with the symbol
abbrev pub remembering : State → List OpenScope → Name → ℕ → State
remembering st cs x s = record st { remembered = remember st.remembered cs x s }

-- the symbol moves from scope c to scope t, unless t binds the name
abbrev pub move_symbol : State → ℕ → ℕ → Name → ℕ → Option ℕ → State
move_symbol st c t x s (Some r) = st
move_symbol st c t x s None =
    record st { bindings = put (remove st.bindings c x) t x s; symbols = update (in_scope t) st.symbols s }

abbrev pub hoist_by : State → Declaration → Option PassedSymbol → State
hoist_by st d None =
    let s : Option ℕ = found st d.route.target.number d.naming.name in
    remembering (declare_in st d.route.target.number d s) d.route.passed d.naming.name (chosen st s)
hoist_by st d (Some h) =
    let st' : State = note_symbol (record st { symbols = update (redeclared d.naming) st.symbols h.symbol }) d h.symbol in
    remembering (move_symbol st' h.scope d.route.target.number d.naming.name h.symbol (get st'.bindings d.route.target.number d.naming.name)) d.route.passed d.naming.name h.symbol

-- a `var` is the symbol of a passed scope that counts, else it is declared in its target
abbrev pub hoist : State → Declaration → State
hoist st d = hoist_by (against_all st d (asked_symbols st d.route.passed d.naming.name)) d (passed_symbol st d.route.passed d.naming.name)

-- a block function's binding moves out of block c, if the target lacks the name; the block remembers it
abbrev pub move_out : State → ℕ → ℕ → Name → ℕ → Option ℕ → State
move_out st c t x s (Some r) = st
move_out st c t x s None =
    record st {
      bindings = move st.bindings c t x;
      symbols = update (in_scope t) st.symbols s;
      remembered = put st.remembered c x s;
    }

-- a block function is declared in its block, and moves then (ECMAScript, Annex B.3.2)
abbrev pub move_function : State → Declaration → State
move_function st d =
    let c : ℕ = stands_in d in
    let s : Option ℕ = found st c d.naming.name in
    move_out (declare_in st c d s) c d.route.target.number d.naming.name (chosen st s) (get st.bindings d.route.target.number d.naming.name)

abbrev pub declare_by : How → State → Declaration → State
declare_by plain st d = declare_in st d.route.target.number d (found st d.route.target.number d.naming.name)
declare_by hoisted st d = hoist st d
declare_by moved st d = move_function st d
declare_by caught st d = make st d.route.target.number d

abbrev pub rescoped : List Symbol → Bindings → ℕ → List Symbol
rescoped ys [] c = ys
rescoped ys (b ∷ bs) c = rescoped (update (in_scope c) ys b.1) bs c

-- what one event does
abbrev pub act : State → Event → State
act st (declares d) = declare_by d.how st d
act st (takes_over c b) =
    record st { bindings = take_over st.bindings c b; symbols = rescoped st.symbols (bound_by st.bindings c) b }
act st (ends_header c) = st

-- what events do in order
abbrev pub run : State → List Event → State
run st [] = st
run st (e ∷ es) = run (act st e) es
