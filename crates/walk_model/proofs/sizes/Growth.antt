-- How many scopes, symbols and references each step of the walk adds at most.
use Rattle.std.proofs.Common.{◌≡◌, ℕ, suc, ◌+◌, ◌≤◌, List, [], ◌∷◌, ◌++◌, Option, Some, None, Bool, true, false, cond, length, map, fold, slice_index_or, refl, sym, subst, ◌∙◌, arith}
use Rattle.std.specs.Option.{option_map_or}
use Rattle.std.specs.Map.{values_of}
use Rattle.std.proofs.lemmas.List.{length-append, length-set}
use Rattle.semantic_kinds.specs.declared.kind.AstType.TheVariants as kind
use Rattle.semantic_syntax.specs.Sets.{meets}
use Rattle.semantic_syntax.specs.declared.scope_flags.TheConstants.ScopeFlags as flag
use Rattle.semantic_syntax.specs.Tables.{Name, Symbol, Tables}
use Rattle.semantic_syntax.specs.Reading.{bindings_of, bound_in, no_symbol, reference_of, scope_of, symbol_of, uses_of}
use Rattle.semantic_syntax.specs.Told.{source_of}
use Rattle.semantic_syntax.specs.Writing.{with_symbol, with_uses, with_home}
use Rattle.semantic_syntax.specs.Writing as writing
use Rattle.semantic_tree.specs.Views.{is}
use Rattle.semantic_model.specs.Naming.{Naming}
use Rattle.semantic_model.specs.Place.{Place, OpenScope, scope_of_place, innermost}
use Rattle.semantic_model.specs.Cursor.{way_or_read}
use Rattle.semantic_model.specs.Declaration.{How, plain, hoisted, moved, caught, Declaration, stands_in}
use Rattle.semantic_model.specs.Binder.{declared_on_entering, declared_on_opening}
use Rattle.semantic_model.specs.Event.{takes_over, is_catch_body, taken_over, placed, declares_all}
use Rattle.semantic_model.specs.Fold.{new_symbol, redeclared, united}
use Rattle.semantic_model.specs.Hoist.{PassedSymbol}
use Rattle.semantic_syntax.specs.Outcome.{Pending, Outcome, means, is_free, waits, header_outcome}
use Rattle.semantic_model.specs.Step.{Step, entering, opening, header_ending, closing, leaving}
use Rattle.semantic_model.specs.TablesOf.{is_direct_eval, numbers}
use Rattle.walk_model.specs.WalkState.{WalkState}
use Rattle.walk_model.specs.Declares as writes
use Rattle.walk_model.specs.Hoists as reaches
use Rattle.walk_model.specs.Opens.{with_eval, open_scope, note_reference, close_scope, add_eval, refer, innermost_number}
use Rattle.walk_model.specs.Settles.{settle, settle_one, tied_to}
use Rattle.walk_model.specs.Walks.{declare_by, act_all, prepare, after}
use Rattle.walk_model.proofs.turns.RowEvents.{acts-append}
use Rattle.walk_model.specs.Room.{opened_by, names_declared_by, referred_by}

-- at most so many come up
pub record Adds (scopes symbols references : ℕ) (t u : Tables) : Type 0 where
  pub of_scopes : length u.scopes ≤ length t.scopes + scopes
  pub of_symbols : length u.symbols ≤ length t.symbols + symbols
  pub of_references : length u.references ≤ length t.references + references

abbrev pub AddsNone : Tables → Tables → Type 0
AddsNone t u = Adds 0 0 0 t u

pub adds_none : (t : Tables) → AddsNone t t
adds_none t = record { of_scopes = omega arith; of_symbols = omega arith; of_references = omega arith }

pub then_none : (a b c : ℕ) (t u v : Tables) → Adds a b c t u → AddsNone u v → Adds a b c t v
then_none a b c t u v h k = record {
  of_scopes = omega (arith, h.of_scopes, k.of_scopes);
  of_symbols = omega (arith, h.of_symbols, k.of_symbols);
  of_references = omega (arith, h.of_references, k.of_references);
}

pub none_then : (a b c : ℕ) (t u v : Tables) → AddsNone t u → Adds a b c u v → Adds a b c t v
none_then a b c t u v h k = record {
  of_scopes = omega (arith, h.of_scopes, k.of_scopes);
  of_symbols = omega (arith, h.of_symbols, k.of_symbols);
  of_references = omega (arith, h.of_references, k.of_references);
}

-- one more symbol, and so many
one_more : (n : ℕ) (t u v : Tables) → Adds 0 1 0 t u → Adds 0 n 0 u v → Adds 0 (suc n) 0 t v
one_more n t u v h k = record {
  of_scopes = omega (arith, h.of_scopes, k.of_scopes);
  of_symbols = omega (arith, h.of_symbols, k.of_symbols);
  of_references = omega (arith, h.of_references, k.of_references);
}

none_is_few : (b : ℕ) (t u : Tables) → AddsNone t u → Adds 0 b 0 t u
none_is_few b t u h = record { of_scopes = h.of_scopes; of_symbols = omega (arith, h.of_symbols); of_references = h.of_references }

pub same_adds : (t u : Tables) → u ≡ t → AddsNone t u
same_adds t u e = subst (λ v. AddsNone t v) (sym e) (adds_none t)

changes_symbol : (t : Tables) (y : ℕ) (x : Symbol) → AddsNone t (with_symbol t y x)
changes_symbol t y x = record { of_scopes = omega arith; of_symbols = omega (arith, length-set t.symbols y x); of_references = omega arith }

changes_then : (t : Tables) (y : ℕ) (x : Symbol) (v : Tables) → AddsNone (with_symbol t y x) v → AddsNone t v
changes_then t y x v h = none_then 0 0 0 t (with_symbol t y x) v (changes_symbol t y x) h

-- a name is declared in one scope

note_symbol_adds : (w : WalkState) (y : ℕ) (d : Naming) → AddsNone w.tables (writes.note_symbol w y d).tables
note_symbol_adds w y d = by d.is_pure
  where
    by : (b : Bool) → AddsNone w.tables (cond b (writes.pure_with w.tables y) w.tables)
    by true = record { of_scopes = omega arith; of_symbols = omega arith; of_references = omega arith }
    by false = adds_none w.tables

make_adds : (w : WalkState) (s : ℕ) (d : Naming) → Adds 0 1 0 w.tables (writes.make w s d).tables
make_adds w s d = record { of_scopes = omega arith; of_symbols = omega (arith, length-append w.tables.symbols (new_symbol s d ∷ [])); of_references = omega arith }

unite_adds : (w : WalkState) (y : ℕ) (d : Naming) → AddsNone w.tables (writes.unite w y d).tables
unite_adds w y d =
    let more : WalkState = writes.redeclare (writes.against w d y) y d in
    changes_then w.tables y (redeclared d (symbol_of w.tables y)) (writes.unite w y d).tables (changes_symbol more.tables y (united d.flags (symbol_of more.tables y)))

found_adds : (w : WalkState) (s : ℕ) (d : Naming) (o : Option ℕ) → Adds 0 1 0 w.tables (writes.with_found_symbol w s d o).tables
found_adds w s d None = make_adds w s d
found_adds w s d (Some y) = none_is_few 1 w.tables (writes.unite w y d).tables (unite_adds w y d)

pub declare_adds : (w : WalkState) (s : ℕ) (d : Naming) → Adds 0 1 0 w.tables (writes.declare w s d).tables
declare_adds w s d =
    let noted : WalkState = writes.with_symbol_in w s d in
    then_none 0 1 0 w.tables noted.tables (writes.declare w s d).tables (found_adds w s d (writes.found w s d.name)) (note_symbol_adds noted (writes.symbol_in w s d) d)

pub anew_adds : (w : WalkState) (s : ℕ) (d : Naming) → Adds 0 1 0 w.tables (writes.declare_anew w s d).tables
anew_adds w s d =
    then_none 0 1 0 w.tables (writes.make w s d).tables (writes.declare_anew w s d).tables (make_adds w s d) (note_symbol_adds (writes.make w s d) (length w.tables.symbols) d)

-- a `var` and a function of a block

against_keeps : (w : WalkState) (d : Naming) (o : Option ℕ) → (reaches.against_found w d o).tables ≡ w.tables
against_keeps w d None = refl
against_keeps w d (Some y) = refl

-- conflicts on the way change no table
pub way_keeps : (w : WalkState) (d : Naming) (ss : List ℕ) → (reaches.against_way w d ss).tables ≡ w.tables
way_keeps w d [] = refl
way_keeps w d (s ∷ ss) =
    let noted : WalkState = reaches.against_found w d (writes.found w s d.name) in
    by noted (reaches.value_symbol w.tables (writes.found w s d.name)) (against_keeps w d (writes.found w s d.name)) (way_keeps noted d ss)
  where
    by : (noted : WalkState) (o : Option ℕ) → noted.tables ≡ w.tables → (reaches.against_way noted d ss).tables ≡ noted.tables → (reaches.unless_passed_symbol o noted (reaches.against_way noted d ss)).tables ≡ w.tables
    by noted None h k = k ∙ h
    by noted (Some y) h k = h

remember_keeps : (w : WalkState) (ss : List ℕ) (x : Name) (y : ℕ) → (reaches.remember_all w ss x y).tables ≡ w.tables
remember_keeps w [] x y = refl
remember_keeps w (s ∷ ss) x y = remember_keeps (reaches.remember w s x y) ss x y

move_adds : (w : WalkState) (from target y : ℕ) (x : Name) → AddsNone w.tables (reaches.move_symbol w from target y x).tables
move_adds w from target y x = by (bound_in w.tables target x)
  where
    by : (o : Option ℕ) → AddsNone w.tables (reaches.unless_bound o w (reaches.rebind w x y from target)).tables
    by None = record { of_scopes = omega arith; of_symbols = omega (arith, length-set w.tables.symbols y (record (symbol_of w.tables y) { scope = target })); of_references = omega arith }
    by (Some z) = adds_none w.tables

hoisted_adds : (w : WalkState) (target : ℕ) (d : Naming) (o : Option PassedSymbol) → Adds 0 1 0 w.tables (reaches.hoisted_by w target d o).tables
hoisted_adds w target d None = found_adds w target d (writes.found w target d.name)
hoisted_adds w target d (Some h) =
    none_is_few 1 w.tables (reaches.hoisted_by w target d (Some h)).tables
    (changes_then w.tables h.symbol (redeclared d (symbol_of w.tables h.symbol)) (reaches.hoisted_by w target d (Some h)).tables
    (move_adds (writes.redeclare w h.symbol d) h.scope target h.symbol d.name))

pub hoist_adds : (w : WalkState) (passed : List ℕ) (target : ℕ) (d : Naming) → Adds 0 1 0 w.tables (reaches.hoist w passed target d).tables
hoist_adds w passed target d =
    let noted : WalkState = reaches.against_way w d passed in
    let passed_symbol : Option PassedSymbol = reaches.passed_symbol w passed d.name in
    let y : ℕ = reaches.hoisted_symbol noted target d passed_symbol in
    let had : WalkState = reaches.hoisted_by noted target d passed_symbol in
    let more : Adds 0 1 0 noted.tables (writes.note_symbol had y d).tables = then_none 0 1 0 noted.tables had.tables (writes.note_symbol had y d).tables (hoisted_adds noted target d passed_symbol) (note_symbol_adds had y d) in
    let kept : AddsNone (writes.note_symbol had y d).tables (reaches.hoist w passed target d).tables = same_adds (writes.note_symbol had y d).tables (reaches.hoist w passed target d).tables (remember_keeps (writes.note_symbol had y d) passed d.name y) in
    none_then 0 1 0 w.tables noted.tables (reaches.hoist w passed target d).tables (same_adds w.tables noted.tables (way_keeps w d passed))
    (then_none 0 1 0 noted.tables (writes.note_symbol had y d).tables (reaches.hoist w passed target d).tables more kept)

name_moves_adds : (w : WalkState) (x : Name) (o : Option ℕ) (from to : ℕ) → AddsNone w.tables (reaches.rebind_bound w x o from to).tables
name_moves_adds w x None from to = adds_none w.tables
name_moves_adds w x (Some y) from to =
    record { of_scopes = omega arith; of_symbols = omega (arith, length-set w.tables.symbols y (record (symbol_of w.tables y) { scope = to })); of_references = omega arith }

out_adds : (w : WalkState) (block target y : ℕ) (x : Name) → AddsNone w.tables (reaches.move_out w block target y x).tables
out_adds w block target y x = by (bound_in w.tables target x)
  where
    gone : WalkState
    gone = reaches.move_name w x block target

    by : (o : Option ℕ) → AddsNone w.tables (reaches.unless_bound o w (reaches.remember (reaches.set_symbol_scope gone y target) block x y)).tables
    by None =
        then_none 0 0 0 w.tables gone.tables (reaches.set_symbol_scope gone y target).tables (name_moves_adds w x (bound_in w.tables block x) block target)
        (changes_symbol gone.tables y (record (symbol_of gone.tables y) { scope = target }))
    by (Some z) = adds_none w.tables

pub moved_adds : (w : WalkState) (block target : ℕ) (d : Naming) → Adds 0 1 0 w.tables (reaches.declare_and_move w block target d).tables
moved_adds w block target d =
    let y : ℕ = writes.symbol_in w block d in
    let had : WalkState = writes.note_symbol (writes.with_symbol_in w block d) y d in
    then_none 0 1 0 w.tables had.tables (reaches.declare_and_move w block target d).tables (declare_adds w block d) (out_adds had block target y d.name)

by_adds : (how : How) (w : WalkState) (d : Declaration) → Adds 0 1 0 w.tables (declare_by how w d).tables
by_adds plain w d = declare_adds w d.route.target.number d.naming
by_adds hoisted w d = hoist_adds w (numbers d.route.passed) d.route.target.number d.naming
by_adds moved w d = moved_adds w (stands_in d) d.route.target.number d.naming
by_adds caught w d = anew_adds w d.route.target.number d.naming

-- declarations make a symbol each at most
pub declares_add : (ds new : List Declaration) (w : WalkState) → Adds 0 (length new) 0 w.tables (act_all w (declares_all ds new)).tables
declares_add ds [] w = adds_none w.tables
declares_add ds (d ∷ new) w =
    let there : Declaration = placed ds d in
    let next : WalkState = declare_by there.how w there in
    one_more (length new) w.tables next.tables (act_all next (declares_all ds new)).tables (by_adds there.how w there) (declares_add ds new next)

-- symbols that change their scope stay as many
pub homes_count : (to : ℕ) (ids : List ℕ) (ys : List Symbol) → length (fold (with_home to) ys ids) ≡ length ys
homes_count to [] ys = refl
homes_count to (y ∷ ids) ys = homes_count to ids (with_home to ys y) ∙ length-set ys y (record (slice_index_or ys y no_symbol) { scope = to })

pub taken_adds : (t : Tables) (from to : ℕ) → AddsNone t (writing.bindings_taken_over t from to)
taken_adds t from to = record { of_scopes = omega arith; of_symbols = omega (arith, homes_count to (values_of (bindings_of t from)) t.symbols); of_references = omega arith }

-- what is settled is there already

settle_one_adds : (t : Tables) (e : Pending) (o : Outcome) → AddsNone t (settle_one t e o)
settle_one_adds t e (means y) =
    let used : Tables = with_uses t y (uses_of t y ++ e.reference ∷ []) in
    record { of_scopes = omega arith; of_symbols = omega arith; of_references = omega (arith, length-set t.references e.reference (tied_to y (symbol_of t y) (reference_of used e.reference))) }
settle_one_adds t e is_free = record { of_scopes = omega arith; of_symbols = omega arith; of_references = omega arith }
settle_one_adds t e (waits s) = adds_none t

settle_adds : (t : Tables) (es : List Pending) (os : List Outcome) → AddsNone t (settle t es os)
settle_adds t [] os = adds_none t
settle_adds t (e ∷ es) [] = adds_none t
settle_adds t (e ∷ es) (o ∷ os) = none_then 0 0 0 t (settle_one t e o) (settle (settle_one t e o) es os) (settle_one_adds t e o) (settle_adds (settle_one t e o) es os)

-- the steps of the walk

eval_adds : (w : WalkState) (c : ℕ) → AddsNone w.tables (add_eval w c).tables
eval_adds w c = record { of_scopes = omega (arith, length-set w.tables.scopes c (with_eval (scope_of w.tables c))); of_symbols = omega arith; of_references = omega arith }

enters_adds : (w : WalkState) (p : Place) → Adds 0 0 (referred_by (entering p)) w.tables (prepare w (entering p)).tables
enters_adds w p = evaluated (is_direct_eval p.node) (note_reference w p) (referred (is kind.IdentifierReference p.node))
  where
    referred : (b : Bool) → Adds 0 0 (cond b 1 0) w.tables (cond b (refer w p) w).tables
    referred true = record { of_scopes = omega arith; of_symbols = omega arith; of_references = omega (arith, length-append w.tables.references (record { node_id = p.node.node_id; scope_id = scope_of_place p; flags = record { bits = way_or_read p.cursor }; symbol_id = None } ∷ [])) }
    referred false = adds_none w.tables

    evaluated : (b : Bool) (v : WalkState) → Adds 0 0 (referred_by (entering p)) w.tables v.tables → Adds 0 0 (referred_by (entering p)) w.tables (cond b (add_eval v (scope_of_place p)) v).tables
    evaluated true v h = then_none 0 0 (referred_by (entering p)) w.tables v.tables (add_eval v (scope_of_place p)).tables h (eval_adds v (scope_of_place p))
    evaluated false v h = h

closes_adds : (w : WalkState) (s : ℕ) → AddsNone w.tables (close_scope w s).tables
closes_adds w s = by (meets (scope_of w.tables s).flags.bits flag.DirectEval.bits) (scope_of w.tables s).parent
  where
    by : (b : Bool) (o : Option ℕ) → AddsNone w.tables (cond b (option_map_or (add_eval w) o w) w).tables
    by true None = adds_none w.tables
    by true (Some q) = eval_adds w q
    by false o = adds_none w.tables

opens_adds : (w : WalkState) (p : Place) (s : OpenScope) → Adds 1 0 0 w.tables (open_scope w p s).tables
opens_adds w p s = record { of_scopes = omega (arith, length-append w.tables.scopes (record { parent = innermost_number p.chain; node = s.opener; flags = record { bits = s.flags } } ∷ [])); of_symbols = omega arith; of_references = omega arith }

taken_if : (p : Place) (s : OpenScope) (w : WalkState) → AddsNone w.tables (act_all w (taken_over p s)).tables
taken_if p s w = by (is_catch_body p)
  where
    by : (b : Bool) → AddsNone w.tables (act_all w (cond b (takes_over (innermost p.chain).number s.number ∷ []) [])).tables
    by true = taken_adds w.tables (innermost p.chain).number s.number
    by false = adds_none w.tables

-- what one step adds, of each kind
pub step_adds : (ds : List Declaration) (w : WalkState) (step : Step) → Adds (opened_by step) (names_declared_by step) (referred_by step) w.tables (after ds w step).tables
step_adds ds w (entering p) =
    let here : Adds 0 0 (referred_by (entering p)) w.tables (prepare w (entering p)).tables = enters_adds w p in
    let more : Adds 0 (names_declared_by (entering p)) 0 (prepare w (entering p)).tables (after ds w (entering p)).tables = declares_add ds (declared_on_entering p) (prepare w (entering p)) in
    record { of_scopes = omega (arith, here.of_scopes, more.of_scopes); of_symbols = omega (arith, here.of_symbols, more.of_symbols); of_references = omega (arith, here.of_references, more.of_references) }
step_adds ds w (opening p s) =
    let opened : WalkState = open_scope w p s in
    let took : WalkState = act_all opened (taken_over p s) in
    let here : Adds 1 0 0 w.tables took.tables = then_none 1 0 0 w.tables opened.tables took.tables (opens_adds w p s) (taken_if p s opened) in
    let more : Adds 0 (names_declared_by (opening p s)) 0 took.tables (act_all took (declares_all ds (declared_on_opening p s))).tables = declares_add ds (declared_on_opening p s) took in
    subst (λ (v : WalkState). Adds 1 (names_declared_by (opening p s)) 0 w.tables v.tables) (sym (acts-append opened (taken_over p s) (declares_all ds (declared_on_opening p s))))
    (record { of_scopes = omega (arith, here.of_scopes, more.of_scopes); of_symbols = omega (arith, here.of_symbols, more.of_symbols); of_references = omega (arith, here.of_references, more.of_references) })
step_adds ds w (header_ending p s) = settle_adds w.tables w.waiting (map (header_outcome (source_of w.tables) s.number) w.waiting)
step_adds ds w (closing p s) = closes_adds w s.number
step_adds ds w (leaving p) = adds_none w.tables
