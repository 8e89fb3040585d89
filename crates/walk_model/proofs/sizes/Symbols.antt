-- A program has no more symbols than nodes that may declare one.
use Rattle.std.proofs.Common.{◌≡◌, ℕ, ◌+◌, ◌≤◌, List, [], ◌∷◌, Option, Some, None, length, refl, ap, ◌∙◌, arith, inl, inr, length-append}
use Rattle.std.proofs.lemmas.Bool.Decides.{leb_tells}
use Rattle.std.proofs.lemmas.List.{length-map}
use Rattle.semantic_syntax.specs.Tables.{Name, Symbol, Bindings}
use Rattle.semantic_kinds.specs.declared.role.Role.TheVariants as role
use Rattle.semantic_tree.specs.Children.{single}
use Rattle.semantic_tree.specs.Faults.{first_fault}
use Rattle.semantic_tree.specs.Tree.{Tree, IsNumbered}
use Rattle.semantic_model.specs.Entries.{times}
use Rattle.semantic_model.specs.Declaration.{Declaration, How, plain, hoisted, moved, caught, stands_in}
use Rattle.semantic_model.specs.Step.{steps}
use Rattle.semantic_model.specs.Event.{Event, declares, takes_over, ends_header, events}
use Rattle.semantic_model.specs.Fold.{State, Made, start, found, update, united, redeclared, in_scope, note_symbol, make, against, declare_in, chosen, new_symbol}
use Rattle.semantic_model.specs.Binding.{get, bound_by}
use Rattle.semantic_model.specs.Hoist.{PassedSymbol, passed_symbol, asked_symbols, against_all, move_symbol, hoist_by, move_out, move_function, declare_by, rescoped, act, run}
use Rattle.semantic_model.specs.TablesOf.{tables_of}
use Rattle.semantic_model.proofs.lists.Bounds.{update_length}
use Rattle.walk_model.proofs.once.SymbolsOnce.{nodes_are, symbols_times}
use Rattle.walk_model.proofs.once.Weighing.{identifiers}
use Rattle.semantic_tree.specs.KindCounts.{how_many}
use Rattle.walk_model.specs.Counted.{declares_symbol}
use Rattle.walk_model.proofs.sizes.Fewer.{no_longer}
use Rattle.walk_model.proofs.sizes.SymbolNodes.{symbol_ids, ids_counted, ids_times}
use Rattle.walk_model.proofs.sizes.MadeOnce.{made_within}

-- each symbol that is made has a declaration that made it
abbrev Covers : State → State → Type 0
Covers old new = length new.symbols + length old.made ≤ length old.symbols + length new.made

covers : (a b c : State) → Covers a b → Covers b c → Covers a c
covers a b c h k = omega (arith, h, k)

note_symbol_length : (st : State) (d : Declaration) (s : ℕ) → length (note_symbol st d s).made ≡ length st.made + 1
note_symbol_length st d s = length-append st.made (record { declaration = d; symbol = s } ∷ [])

made_covers : (st : State) (c : ℕ) (d : Declaration) → Covers st (make st c d)
made_covers st c d = omega (arith, note_symbol_length st d (length st.symbols), length-append st.symbols (new_symbol c d.naming ∷ []))

-- where no symbol is made
kept_covers : (old new : State) → length new.symbols ≡ length old.symbols → length old.made ≤ length new.made → Covers old new
kept_covers old new h k = omega (arith, h, k)

declared_covers : (st : State) (c : ℕ) (d : Declaration) (s : Option ℕ) → Covers st (declare_in st c d s)
declared_covers st c d None = made_covers st c d
declared_covers st c d (Some s) = omega (arith, update_length (λ y. united d.naming.flags (redeclared d.naming y)) st.symbols s, note_symbol_length (record (against st d s) { symbols = update (λ y. united d.naming.flags (redeclared d.naming y)) st.symbols s }) d s)

against_same : (st : State) (d : Declaration) (ss : List ℕ) → ((against_all st d ss).symbols ≡ st.symbols) × ((against_all st d ss).made ≡ st.made)
against_same st d [] = (refl, refl)
against_same st d (s ∷ ss) = let rest = against_same (against st d s) d ss in (rest.0, rest.1)

moved_covers : (st : State) (c t : ℕ) (x : Name) (s : ℕ) (o : Option ℕ) → Covers st (move_symbol st c t x s o)
moved_covers st c t x s (Some r) = omega arith
moved_covers st c t x s None = omega (arith, update_length (in_scope t) st.symbols s)

hoisted_covers : (st : State) (d : Declaration) (o : Option PassedSymbol) → Covers st (hoist_by st d o)
hoisted_covers st d None = declared_covers st d.route.target.number d (found st d.route.target.number d.naming.name)
hoisted_covers st d (Some h) =
    let st1 : State = note_symbol (record st { symbols = update (redeclared d.naming) st.symbols h.symbol }) d h.symbol in
    covers st st1 (move_symbol st1 h.scope d.route.target.number d.naming.name h.symbol (get st1.bindings d.route.target.number d.naming.name))
    (omega (arith, update_length (redeclared d.naming) st.symbols h.symbol, note_symbol_length (record st { symbols = update (redeclared d.naming) st.symbols h.symbol }) d h.symbol))
    (moved_covers st1 h.scope d.route.target.number d.naming.name h.symbol (get st1.bindings d.route.target.number d.naming.name))

out_covers : (st : State) (c t : ℕ) (x : Name) (s : ℕ) (o : Option ℕ) → Covers st (move_out st c t x s o)
out_covers st c t x s (Some r) = omega arith
out_covers st c t x s None = omega (arith, update_length (in_scope t) st.symbols s)

by_covers : (how : How) (st : State) (d : Declaration) → Covers st (declare_by how st d)
by_covers plain st d = declared_covers st d.route.target.number d (found st d.route.target.number d.naming.name)
by_covers hoisted st d =
    let noted : State = against_all st d (asked_symbols st d.route.passed d.naming.name) in
    let same = against_same st d (asked_symbols st d.route.passed d.naming.name) in
    let later = hoisted_covers noted d (passed_symbol st d.route.passed d.naming.name) in
    omega (arith, later, ap length same.0, ap length same.1)
by_covers moved st d =
    let c : ℕ = stands_in d in
    let s : Option ℕ = found st c d.naming.name in
    covers st (declare_in st c d s) (move_function st d) (declared_covers st c d s)
    (out_covers (declare_in st c d s) c d.route.target.number d.naming.name (chosen st s) (get st.bindings d.route.target.number d.naming.name))
by_covers caught st d = made_covers st d.route.target.number d

rescoped_length : (ys : List Symbol) (bs : Bindings) (c : ℕ) → length (rescoped ys bs c) ≡ length ys
rescoped_length ys [] c = refl
rescoped_length ys (b ∷ bs) c = rescoped_length (update (in_scope c) ys b.1) bs c ∙ update_length (in_scope c) ys b.1

run_covers : (es : List Event) (st : State) → Covers st (run st es)
run_covers [] st = omega arith
run_covers (declares d ∷ es) st = covers st (act st (declares d)) (run st (declares d ∷ es)) (by_covers d.how st d) (run_covers es (act st (declares d)))
run_covers (takes_over c b ∷ es) st =
    covers st (act st (takes_over c b)) (run st (takes_over c b ∷ es))
    (omega (arith, rescoped_length st.symbols (bound_by st.bindings c) b)) (run_covers es (act st (takes_over c b)))
run_covers (ends_header c ∷ es) st = run_covers es st

symbols_made : (es : List Event) → length (run start es).symbols ≤ length (run start es).made
symbols_made es = omega (arith, run_covers es start)

-- an identifier stands among the declarations no more often than among the nodes
identifiers_fewer : (p : Tree) → first_fault p ≡ None → IsNumbered p.root → (x : ℕ) → times x (identifiers (run start (events (steps p))).made) ≤ times x (symbol_ids (single role.Root p.root))
identifiers_fewer p h e x =
    let ms : List Made = (run start (events (steps p))).made in
    let once = symbols_times x p h e in
    let nodes = ids_times x (single role.Root p.root) in
    elim (leb_tells 1 (times x (identifiers ms))) [
      | inl q ↦ (let stands = made_within x p q.1 in omega (arith, nodes_are x ms, once, nodes, stands))
      | inr q ↦ omega (arith, q.1)
    ]

-- so no more are made than there are nodes that may declare one
pub made_counted : (p : Tree) → first_fault p ≡ None → IsNumbered p.root → length (run start (events (steps p))).made ≤ how_many declares_symbol (single role.Root p.root)
made_counted p h e =
    let ms : List Made = (run start (events (steps p))).made in
    omega (
      arith,
      length-map ms (λ m. m.declaration.naming.identifier),
      no_longer (identifiers ms) (symbol_ids (single role.Root p.root)) (identifiers_fewer p h e),
      ids_counted (single role.Root p.root),
    )

pub symbols_counted : (p : Tree) → first_fault p ≡ None → IsNumbered p.root → length (tables_of p).symbols ≤ how_many declares_symbol (single role.Root p.root)
symbols_counted p h e = omega (arith, symbols_made (events (steps p)), made_counted p h e)
