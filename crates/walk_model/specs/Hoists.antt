-- How `var` variables, block functions and catch names reach past a scope.
use Rattle.std.specs.Prelude.{ℕ, List, [], ◌∷◌, Option, Some, None, cond}
use Rattle.semantic_syntax.specs.declared.symbol_flags.TheConstants.SymbolFlags as symbol
use Rattle.semantic_syntax.specs.Sets.{meets}
use Rattle.semantic_syntax.specs.Tables.{Name, Tables}
use Rattle.semantic_syntax.specs.Reading.{bound_in, symbol_of}
use Rattle.semantic_syntax.specs.Writing.{bound, unbound, with_symbol}
use Rattle.semantic_model.specs.Naming.{Naming}
use Rattle.semantic_model.specs.Binding.{put}
use Rattle.semantic_model.specs.Hoist.{PassedSymbol}
use Rattle.walk_model.specs.WalkState.{WalkState}
use Rattle.walk_model.specs.Declares.{found, against, redeclare, with_symbol_in, symbol_in, note_symbol}

-- the symbol that is found, if it counts as the variable: if it is a value or an import
abbrev pub value_symbol : Tables → Option ℕ → Option ℕ
value_symbol t None = None
value_symbol t (Some y) = cond (meets (symbol_of t y).flags.bits symbol.ByValue.bits) (Some y) None

abbrev pub passed_symbol_or : ℕ → Option ℕ → Option PassedSymbol → Option PassedSymbol
passed_symbol_or s None later = later
passed_symbol_or s (Some y) later = Some (record { scope = s; symbol = y })

-- the first passed scope with a symbol that counts
abbrev pub passed_symbol : WalkState → List ℕ → Name → Option PassedSymbol
passed_symbol w [] x = None
passed_symbol w (s ∷ ss) x = passed_symbol_or s (value_symbol w.tables (found w s x)) (passed_symbol w ss x)

-- a symbol that is found may be a conflict
abbrev pub against_found : WalkState → Naming → Option ℕ → WalkState
against_found w d None = w
against_found w d (Some y) = against w d y

abbrev pub unless_passed_symbol : Option ℕ → WalkState → WalkState → WalkState
unless_passed_symbol None w later = later
unless_passed_symbol (Some y) w later = w

-- each symbol that is found on the way there may be a conflict
abbrev pub against_way : WalkState → Naming → List ℕ → WalkState
against_way w d [] = w
against_way w d (s ∷ ss) =
    let noted : WalkState = against_found w d (found w s d.name) in
    unless_passed_symbol (value_symbol w.tables (found w s d.name)) noted (against_way noted d ss)

abbrev pub in_scope : Tables → ℕ → ℕ → Tables
in_scope t y s = with_symbol t y (record (symbol_of t y) { scope = s })

-- the symbol is the scope's
abbrev pub set_symbol_scope : WalkState → ℕ → ℕ → WalkState
set_symbol_scope w y s = record w { tables = in_scope w.tables y s }

-- the symbol moves from one scope to another, which binds the name to it then
abbrev pub rebind : WalkState → Name → ℕ → (from to : ℕ) → WalkState
rebind w x y from to = record w { tables = in_scope (unbound (bound w.tables to x y) from x) y to }

abbrev pub unless_bound : Option ℕ → WalkState → WalkState → WalkState
unless_bound None w moved = moved
unless_bound (Some y) w moved = w

-- the symbol moves from a passed scope to the target, unless the target binds the name
abbrev pub move_symbol : WalkState → (from target y : ℕ) → Name → WalkState
move_symbol w from target y x = unless_bound (bound_in w.tables target x) w (rebind w x y from target)

-- the scope remembers the name with the symbol
abbrev pub remember : WalkState → ℕ → Name → ℕ → WalkState
remember w s x y = record w { remembered = put w.remembered s x y }

-- each of the scopes does
abbrev pub remember_all : WalkState → List ℕ → Name → ℕ → WalkState
remember_all w [] x y = w
remember_all w (s ∷ ss) x y = remember_all (remember w s x y) ss x y

-- the symbol of the passed scope moves to the target, else the name is declared there
abbrev pub hoisted_by : WalkState → ℕ → Naming → Option PassedSymbol → WalkState
hoisted_by w target d None = with_symbol_in w target d
hoisted_by w target d (Some h) = move_symbol (redeclare w h.symbol d) h.scope target h.symbol d.name

-- the symbol that the variable has then
abbrev pub hoisted_symbol : WalkState → ℕ → Naming → Option PassedSymbol → ℕ
hoisted_symbol w target d None = symbol_in w target d
hoisted_symbol w target d (Some h) = h.symbol

-- a `var` is the symbol of a passed scope that counts, else it is declared in its target; each passed scope remembers it
abbrev pub hoist : WalkState → List ℕ → ℕ → Naming → WalkState
hoist w passed target d =
    let noted : WalkState = against_way w d passed in
    let found_on_way : Option PassedSymbol = passed_symbol w passed d.name in
    let y : ℕ = hoisted_symbol noted target d found_on_way in
    remember_all (note_symbol (hoisted_by noted target d found_on_way) y d) passed d.name y

abbrev pub rebind_bound : WalkState → Name → Option ℕ → (from to : ℕ) → WalkState
rebind_bound w x None from to = w
rebind_bound w x (Some y) from to = rebind w x y from to

-- the name moves from one scope to another, where it is bound, and its symbol too
abbrev pub move_name : WalkState → Name → (from to : ℕ) → WalkState
move_name w x from to = rebind_bound w x (bound_in w.tables from x) from to

-- a block's binding of the name moves to the target, if that lacks the name, and the block remembers it
abbrev pub move_out : WalkState → (block target y : ℕ) → Name → WalkState
move_out w block target y x =
    unless_bound (bound_in w.tables target x) w (remember (set_symbol_scope (move_name w x block target) y target) block x y)

-- a block function is declared in its block, and moves then
abbrev pub declare_and_move : WalkState → (block target : ℕ) → Naming → WalkState
declare_and_move w block target d =
    let y : ℕ = symbol_in w block d in
    move_out (note_symbol (with_symbol_in w block d) y d) block target y d.name
