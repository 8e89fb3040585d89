-- The symbols that declarations make are bounded, and so are the conflicts.
use Rattle.std.proofs.Common.{ℕ, zero, suc, List, [], ◌∷◌, ◌++◌, Bool, true, false, cond, Option, Some, None}
use Rattle.std.specs.Prelude.{slice_get}
use Rattle.std.specs.Option.{unwrap_or}
use Rattle.std.specs.List.{AllByRecursion}
use Rattle.semantic_syntax.proofs.Every.{every-append}
use Rattle.semantic_syntax.specs.Sets.{meets}
use Rattle.semantic_syntax.specs.Reading.{own_entry}
use Rattle.semantic_syntax.specs.Tables.{Name, Symbol, Bindings}
use Rattle.semantic_syntax.specs.declared.references.Redeclaration.{Redeclaration}
use Rattle.semantic_model.specs.Binding.{get, bound_by}
use Rattle.semantic_model.specs.Declaration.{Declaration, How, plain, hoisted, moved, caught, stands_in}
use Rattle.semantic_model.specs.Event.{Event, declares, takes_over, ends_header}
use Rattle.semantic_model.specs.Fold.{State, Conflict, start, update, found, redeclared, united, in_scope, redeclaration_of, new_symbol, make, against, conflict_with, note_symbol, declare_in, chosen}
use Rattle.semantic_model.specs.Hoist.{PassedSymbol, passed_symbol, asked_symbols, against_all, move_symbol, hoist_by, move_out, declare_by, rescoped, act, run}
use Rattle.table_bounds.specs.Tellable.{IsWrittenWhole, IsTellableEntry, AreTellableEntries, IsTellableSymbol}
use Rattle.table_bounds.proofs.Declared.{IsBoundedDeclaration, IsBoundedEvent, both, last_target}

pub record IsBoundedConflict (c : Conflict) : Type 0 where
  pub earlier_start : IsWrittenWhole c.earlier.start
  pub earlier_end : IsWrittenWhole c.earlier.end
  pub later_start : IsWrittenWhole c.later.start
  pub later_end : IsWrittenWhole c.later.end

pub record IsBoundedState (st : State) : Type 0 where
  pub symbols : AllByRecursion IsTellableSymbol st.symbols
  pub conflicts : AllByRecursion IsBoundedConflict st.conflicts

-- ---- one symbol

new_bounded : (c : ℕ) (d : Declaration) → IsWrittenWhole c → IsBoundedDeclaration d → IsTellableSymbol (new_symbol c d.naming)
new_bounded c d small h = record { scope = small; node = h.node; start = h.start; end = h.end; flags = h.flags; redeclarations = tt }

some_entries : (xs : List Redeclaration) (e : Redeclaration) → AllByRecursion IsTellableEntry xs → IsTellableEntry e → AreTellableEntries (Some (xs ++ e ∷ []))
some_entries [] e h k = (k, tt)
some_entries (x ∷ xs) e h k = (h.0, every-append IsTellableEntry xs (e ∷ []) h.1 (k, tt))

old_entries : (o : Option (List Redeclaration)) (own : Redeclaration) → AreTellableEntries o → IsTellableEntry own → AllByRecursion IsTellableEntry (unwrap_or o (own ∷ []))
old_entries None own h k = (k, tt)
old_entries (Some []) own h k = absurd h
old_entries (Some (e ∷ es)) own h k = h

redeclared_bounded : (d : Declaration) (y : Symbol) → IsBoundedDeclaration d → IsTellableSymbol y → IsTellableSymbol (redeclared d.naming y)
redeclared_bounded d y h k = record {
  scope = k.scope;
  node = k.node;
  start = k.start;
  end = k.end;
  flags = k.flags;
  redeclarations =
      some_entries (unwrap_or y.redeclarations (own_entry y ∷ [])) (redeclaration_of d.naming)
      (old_entries y.redeclarations (own_entry y) k.redeclarations (record { declaration = k.node; start = k.start; end = k.end; flags = k.flags }))
      (record { declaration = h.node; start = h.start; end = h.end; flags = h.flags });
}

united_bounded : (d : Declaration) (y : Symbol) → IsBoundedDeclaration d → IsTellableSymbol y → IsTellableSymbol (united d.naming.flags y)
united_bounded d y h k = record { scope = k.scope; node = k.node; start = k.start; end = k.end; flags = both y.flags.bits d.naming.flags k.flags h.flags; redeclarations = k.redeclarations }

scoped_bounded : (c : ℕ) (y : Symbol) → IsWrittenWhole c → IsTellableSymbol y → IsTellableSymbol (in_scope c y)
scoped_bounded c y small k = record { scope = small; node = k.node; start = k.start; end = k.end; flags = k.flags; redeclarations = k.redeclarations }

update_bounded : (f : Symbol → Symbol) → ((y : Symbol) → IsTellableSymbol y → IsTellableSymbol (f y)) → (ys : List Symbol) (n : ℕ) → AllByRecursion IsTellableSymbol ys → AllByRecursion IsTellableSymbol (update f ys n)
update_bounded f keeps [] n h = tt
update_bounded f keeps (y ∷ ys) zero h = (keeps y h.0, h.1)
update_bounded f keeps (y ∷ ys) (suc n) h = (h.0, update_bounded f keeps ys n h.1)

-- ---- what a declaration does

conflict_bounded : (d : Declaration) (ys : List Symbol) (s : ℕ) → IsBoundedDeclaration d → AllByRecursion IsTellableSymbol ys → AllByRecursion IsBoundedConflict (conflict_with d.naming (slice_get ys s))
conflict_bounded d [] s h k = tt
conflict_bounded d (y ∷ ys) zero h k = by (meets y.flags.bits d.naming.excluded)
  where
    by : (b : Bool) → AllByRecursion IsBoundedConflict (cond b (record { name = d.naming.name; earlier = y.span; later = d.naming.span } ∷ []) [])
    by true = (record { earlier_start = k.0.start; earlier_end = k.0.end; later_start = h.start; later_end = h.end }, tt)
    by false = tt
conflict_bounded d (y ∷ ys) (suc s) h k = conflict_bounded d ys s h k.1

against_bounded : (st : State) (d : Declaration) (s : ℕ) → IsBoundedDeclaration d → IsBoundedState st → IsBoundedState (against st d s)
against_bounded st d s h k = record {
  symbols = k.symbols;
  conflicts = every-append IsBoundedConflict st.conflicts (conflict_with d.naming (slice_get st.symbols s)) k.conflicts (conflict_bounded d st.symbols s h k.symbols);
}

against_all_bounded : (st : State) (d : Declaration) (ss : List ℕ) → IsBoundedDeclaration d → IsBoundedState st → IsBoundedState (against_all st d ss)
against_all_bounded st d [] h k = k
against_all_bounded st d (s ∷ ss) h k = against_all_bounded (against st d s) d ss h (against_bounded st d s h k)

make_bounded : (st : State) (c : ℕ) (d : Declaration) → IsWrittenWhole c → IsBoundedDeclaration d → IsBoundedState st → IsBoundedState (make st c d)
make_bounded st c d small h k = record {
  symbols = every-append IsTellableSymbol st.symbols (new_symbol c d.naming ∷ []) k.symbols (new_bounded c d small h, tt);
  conflicts = k.conflicts;
}

declare_in_bounded : (st : State) (c : ℕ) (d : Declaration) (o : Option ℕ) → IsWrittenWhole c → IsBoundedDeclaration d → IsBoundedState st → IsBoundedState (declare_in st c d o)
declare_in_bounded st c d None small h k = make_bounded st c d small h k
declare_in_bounded st c d (Some s) small h k =
    let noted : IsBoundedState (against st d s) = against_bounded st d s h k in
    record {
      symbols = update_bounded (λ y. united d.naming.flags (redeclared d.naming y)) (λ y b. united_bounded d (redeclared d.naming y) h (redeclared_bounded d y h b)) st.symbols s noted.symbols;
      conflicts = noted.conflicts;
    }

move_symbol_bounded : (st : State) (c t : ℕ) (x : Name) (s : ℕ) (o : Option ℕ) → IsWrittenWhole t → IsBoundedState st → IsBoundedState (move_symbol st c t x s o)
move_symbol_bounded st c t x s (Some r) small k = k
move_symbol_bounded st c t x s None small k = record { symbols = update_bounded (in_scope t) (λ y b. scoped_bounded t y small b) st.symbols s k.symbols; conflicts = k.conflicts }

move_out_bounded : (st : State) (c t : ℕ) (x : Name) (s : ℕ) (o : Option ℕ) → IsWrittenWhole t → IsBoundedState st → IsBoundedState (move_out st c t x s o)
move_out_bounded st c t x s (Some r) small k = k
move_out_bounded st c t x s None small k = record { symbols = update_bounded (in_scope t) (λ y b. scoped_bounded t y small b) st.symbols s k.symbols; conflicts = k.conflicts }

hoist_by_bounded : (st : State) (d : Declaration) (o : Option PassedSymbol) → IsBoundedDeclaration d → IsBoundedState st → IsBoundedState (hoist_by st d o)
hoist_by_bounded st d None h k =
    let next : IsBoundedState (declare_in st d.route.target.number d (found st d.route.target.number d.naming.name)) =
    declare_in_bounded st d.route.target.number d (found st d.route.target.number d.naming.name) h.route.target.number h k in
    record { symbols = next.symbols; conflicts = next.conflicts }
hoist_by_bounded st d (Some p) h k =
    let got : State = note_symbol (record st { symbols = update (redeclared d.naming) st.symbols p.symbol }) d p.symbol in
    let noted : IsBoundedState got = record { symbols = update_bounded (redeclared d.naming) (λ y b. redeclared_bounded d y h b) st.symbols p.symbol k.symbols; conflicts = k.conflicts } in
    let next : IsBoundedState (move_symbol got p.scope d.route.target.number d.naming.name p.symbol (get got.bindings d.route.target.number d.naming.name)) =
    move_symbol_bounded got p.scope d.route.target.number d.naming.name p.symbol (get got.bindings d.route.target.number d.naming.name) h.route.target.number noted in
    record { symbols = next.symbols; conflicts = next.conflicts }

stands_bounded : (d : Declaration) → IsBoundedDeclaration d → IsWrittenWhole (stands_in d)
stands_bounded d h = (last_target d.route.passed d.route.target h.route.passed h.route.target).number

declare_by_bounded : (how : How) (st : State) (d : Declaration) → IsBoundedDeclaration d → IsBoundedState st → IsBoundedState (declare_by how st d)
declare_by_bounded plain st d h k = declare_in_bounded st d.route.target.number d (found st d.route.target.number d.naming.name) h.route.target.number h k
declare_by_bounded hoisted st d h k =
    hoist_by_bounded (against_all st d (asked_symbols st d.route.passed d.naming.name)) d (passed_symbol st d.route.passed d.naming.name) h
    (against_all_bounded st d (asked_symbols st d.route.passed d.naming.name) h k)
declare_by_bounded moved st d h k =
    let c : ℕ = stands_in d in
    let o : Option ℕ = found st c d.naming.name in
    move_out_bounded (declare_in st c d o) c d.route.target.number d.naming.name (chosen st o) (get st.bindings d.route.target.number d.naming.name) h.route.target.number
    (declare_in_bounded st c d o (stands_bounded d h) h k)
declare_by_bounded caught st d h k = make_bounded st d.route.target.number d h.route.target.number h k

rescoped_bounded : (ys : List Symbol) (bs : Bindings) (c : ℕ) → IsWrittenWhole c → AllByRecursion IsTellableSymbol ys → AllByRecursion IsTellableSymbol (rescoped ys bs c)
rescoped_bounded ys [] c small k = k
rescoped_bounded ys (b ∷ bs) c small k = rescoped_bounded (update (in_scope c) ys b.1) bs c small (update_bounded (in_scope c) (λ y h. scoped_bounded c y small h) ys b.1 k)

act_bounded : (st : State) (e : Event) → IsBoundedEvent e → IsBoundedState st → IsBoundedState (act st e)
act_bounded st (declares d) h k = declare_by_bounded d.how st d h k
act_bounded st (takes_over c b) h k = record { symbols = rescoped_bounded st.symbols (bound_by st.bindings c) b h k.symbols; conflicts = k.conflicts }
act_bounded st (ends_header c) h k = k

pub run_bounded : (st : State) (es : List Event) → AllByRecursion IsBoundedEvent es → IsBoundedState st → IsBoundedState (run st es)
run_bounded st [] h k = k
run_bounded st (e ∷ es) h k = run_bounded (act st e) es h.1 (act_bounded st e h.0 k)

pub start_bounded : IsBoundedState start
start_bounded = record { symbols = tt; conflicts = tt }
