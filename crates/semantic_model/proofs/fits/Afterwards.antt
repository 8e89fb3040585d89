-- What holds of the tables of a program right after its analysis.
use Rattle.std.proofs.Common.{◌≡◌, ℕ, zero, suc, ◌+◌, ◌<◌, ◌≤◌, List, [], ◌∷◌, ◌++◌, Option, Some, None, cond, Bool, true, false, inl, inr, refl, sym, ap, subst, ◌∙◌, length, map, bytes_eq, arith}
use Rattle.std.specs.Prelude.{slice_get}
use Rattle.std.specs.Option.{unwrap_or}
use Rattle.std.proofs.lemmas.Option.{slice_get_cases, slice_get_within}
use Rattle.std.proofs.lemmas.List.{length-map}
use Rattle.std.proofs.lemmas.Bool.Decides.{eqb_tells}
use Rattle.semantic_syntax.specs.declared.references.Redeclaration.{Redeclaration}
use Rattle.semantic_syntax.specs.Tables.{Name, Bindings, Symbol}
use Rattle.semantic_syntax.specs.Reading.{own_entry}
use Rattle.semantic_tree.specs.Tree.{Tree}
use Rattle.semantic_model.specs.Entries.{times, times_in_all, or_empty}
use Rattle.semantic_model.specs.Step.{steps}
use Rattle.semantic_model.specs.Reference.{references}
use Rattle.semantic_model.specs.Naming.{Naming}
use Rattle.semantic_model.specs.Declaration.{Declaration, How, plain, hoisted, moved, caught, stands_in}
use Rattle.semantic_model.specs.Binding.{get, bound_by}
use Rattle.semantic_model.specs.Event.{Event, declares, takes_over, ends_header, events}
use Rattle.semantic_model.specs.Fold.{State, start, found, update, redeclared, united, in_scope, new_symbol, redeclaration_of, declare_in, against, chosen}
use Rattle.semantic_model.specs.Hoist.{PassedSymbol, passed_symbol, asked_symbols, against_all, hoist_by, move_symbol, move_out, rescoped, declare_by, act, run}
use Rattle.semantic_model.specs.FreeNames.{free_references}
use Rattle.semantic_model.specs.TablesOf.{tables_of, is_symbol}
use Rattle.semantic_model.specs.Fits.{StandsUnder, StandOnce, stand_of, stand_in_tree}
use Rattle.semantic_model.specs.Moment.{UsesAreTies, StandsInOneList, BeginsWithOwn, HasOwnEntry, ListsBeginWithOwn}

-- one of the lists holds no more than all
one_of_all : (n s : ℕ) (lists : List (List ℕ)) → times n (or_empty (slice_get lists s)) ≤ times_in_all n lists
one_of_all n s [] = omega arith
one_of_all n zero (l ∷ lists) = omega arith
one_of_all n (suc s) (l ∷ lists) = omega (arith, one_of_all n s lists)

-- and neither do two of them
two_of_all : (n s r : ℕ) (lists : List (List ℕ)) → (s ≡ r → ⊥) → times n (or_empty (slice_get lists s)) + times n (or_empty (slice_get lists r)) ≤ times_in_all n lists
two_of_all n s r [] h = omega arith
two_of_all n zero zero (l ∷ lists) h = absurd (h refl)
two_of_all n zero (suc r) (l ∷ lists) h = omega (arith, one_of_all n r lists)
two_of_all n (suc s) zero (l ∷ lists) h = omega (arith, one_of_all n s lists)
two_of_all n (suc s) (suc r) (l ∷ lists) h = omega (arith, two_of_all n s r lists (λ e. h (ap suc e)))

free_of_all : (n : ℕ) (free : List (Name × List ℕ)) (x : Name) → times n (free_references free x) ≤ times_in_all n (map (λ f. f.1) free)
free_of_all n [] x = omega arith
free_of_all n (f ∷ fs) x = go (bytes_eq f.0 x) (free_of_all n fs x)
  where
    go : (b : Bool) → times n (free_references fs x) ≤ times_in_all n (map (λ g. g.1) fs) → times n (cond b f.1 (free_references fs x)) ≤ times n f.1 + times_in_all n (map (λ g. g.1) fs)
    go true h = omega arith
    go false h = omega (arith, h)

same_number : (p : Tree) (o : StandOnce (tables_of p) (references (steps p))) → length (tables_of p).references ≡ length (references (steps p))
same_number p o = sym (length-map (tables_of p).references stand_of) ∙ ap length o.same ∙ length-map (references (steps p)) stand_in_tree

pub one_list : (p : Tree) → StandOnce (tables_of p) (references (steps p)) → StandsInOneList (tables_of p)
one_list p o n h = o.once n (omega (arith, same_number p o))

uses_by : (p : Tree) (n s : ℕ) (x : Name) (o : Option ℕ) → StandsUnder (tables_of p) n x o → times_in_all n (tables_of p).uses + times_in_all n (map (λ f. f.1) (tables_of p).free) ≡ 1 → times n (or_empty (slice_get (tables_of p).uses s)) ≡ cond (is_symbol s o) 1 0
uses_by p n s x None h sum = omega (arith, one_of_all n s (tables_of p).uses, free_of_all n (tables_of p).free x, h, sum)
uses_by p n s x (Some r) h sum = elim (eqb_tells r s) [
  | inl k ↦ rw k.0 (subst (λ q. times n (or_empty (slice_get (tables_of p).uses q)) ≡ 1) k.1 h.0)
  | inr k ↦ rw k.0 (omega (arith, two_of_all n s r (tables_of p).uses (λ e. k.1 (sym e)), h.0, sum))
]

pub uses_are_ties : (p : Tree) → StandOnce (tables_of p) (references (steps p)) → UsesAreTies (tables_of p)
uses_are_ties p o n s e h =
    let within : n < length (references (steps p)) = omega (arith, slice_get_within (tables_of p).references n e h, same_number p o) in
    elim (slice_get_cases (references (steps p)) n).1 [
      | inl k ↦ uses_by p n s k.0.name e.symbol_id (o.under n k.0 e k.2 h) (o.once n within)
      | inr k ↦ absurd (omega (arith, k.0))
    ]

-- each list of redeclarations begins with the symbol's own
abbrev AllBegin : List Symbol → Type 0
AllBegin [] = Unit {0}
AllBegin (y ∷ ys) = HasOwnEntry y y.redeclarations × AllBegin ys

abbrev KeepsOwn : (Symbol → Symbol) → Type 0
KeepsOwn f = (y : Symbol) → HasOwnEntry y y.redeclarations → HasOwnEntry (f y) (f y).redeclarations

begin_update : (f : Symbol → Symbol) (ys : List Symbol) (n : ℕ) → KeepsOwn f → AllBegin ys → AllBegin (update f ys n)
begin_update f [] n k h = tt
begin_update f (y ∷ ys) zero k h = (k y h.0, h.1)
begin_update f (y ∷ ys) (suc n) k h = (h.0, begin_update f ys n k h.1)

begin_push : (ys : List Symbol) (c : ℕ) (n : Naming) → AllBegin ys → AllBegin (ys ++ new_symbol c n ∷ [])
begin_push [] c n h = (tt, tt)
begin_push (y ∷ ys) c n h = (h.0, begin_push ys c n h.1)

one_more_entry : (n : Naming) (y : Symbol) (o : Option (List Redeclaration)) → HasOwnEntry y o → BeginsWithOwn y (unwrap_or o (own_entry y ∷ []) ++ redeclaration_of n ∷ [])
one_more_entry n y None h = (refl, refl)
one_more_entry n y (Some []) h = absurd h
one_more_entry n y (Some (r ∷ [])) h = absurd h
one_more_entry n y (Some (r ∷ q ∷ more)) h = h

-- a symbol of the same span and node
own_same : (y z : Symbol) (o : Option (List Redeclaration)) → z.span ≡ y.span → z.node ≡ y.node → HasOwnEntry y o → HasOwnEntry z o
own_same y z None e k h = tt
own_same y z (Some []) e k h = h
own_same y z (Some (r ∷ [])) e k h = h
own_same y z (Some (r ∷ q ∷ more)) e k h = (h.0 ∙ sym e, h.1 ∙ sym k)

keeps_redeclared : (n : Naming) → KeepsOwn (redeclared n)
keeps_redeclared n y h = own_same y (redeclared n y) (redeclared n y).redeclarations refl refl (one_more_entry n y y.redeclarations h)

keeps_united : (n : Naming) → KeepsOwn (λ y. united n.flags (redeclared n y))
keeps_united n y h = own_same y (united n.flags (redeclared n y)) (redeclared n y).redeclarations refl refl (one_more_entry n y y.redeclarations h)

keeps_scope : (c : ℕ) → KeepsOwn (in_scope c)
keeps_scope c y h = own_same y (in_scope c y) y.redeclarations refl refl h

begin_against : (st : State) (d : Declaration) (ss : List ℕ) → AllBegin st.symbols → AllBegin (against_all st d ss).symbols
begin_against st d [] h = h
begin_against st d (s ∷ ss) h = begin_against (against st d s) d ss h

begin_declare : (st : State) (c : ℕ) (d : Declaration) (o : Option ℕ) → AllBegin st.symbols → AllBegin (declare_in st c d o).symbols
begin_declare st c d None h = begin_push st.symbols c d.naming h
begin_declare st c d (Some s) h = begin_update (λ y. united d.naming.flags (redeclared d.naming y)) st.symbols s (keeps_united d.naming) h

begin_move : (st : State) (c t : ℕ) (x : Name) (s : ℕ) (o : Option ℕ) → AllBegin st.symbols → AllBegin (move_symbol st c t x s o).symbols
begin_move st c t x s None h = begin_update (in_scope t) st.symbols s (keeps_scope t) h
begin_move st c t x s (Some r) h = h

begin_move_out : (st : State) (c t : ℕ) (x : Name) (s : ℕ) (o : Option ℕ) → AllBegin st.symbols → AllBegin (move_out st c t x s o).symbols
begin_move_out st c t x s None h = begin_update (in_scope t) st.symbols s (keeps_scope t) h
begin_move_out st c t x s (Some r) h = h

begin_hoist : (st : State) (d : Declaration) (o : Option PassedSymbol) → AllBegin st.symbols → AllBegin (hoist_by st d o).symbols
begin_hoist st d None h = begin_declare st d.route.target.number d (found st d.route.target.number d.naming.name) h
begin_hoist st d (Some r) h = begin_move _ r.scope d.route.target.number d.naming.name r.symbol (get st.bindings d.route.target.number d.naming.name) (begin_update (redeclared d.naming) st.symbols r.symbol (keeps_redeclared d.naming) h)

begin_by : (how : How) (st : State) (d : Declaration) → AllBegin st.symbols → AllBegin (declare_by how st d).symbols
begin_by plain st d h = begin_declare st d.route.target.number d (found st d.route.target.number d.naming.name) h
begin_by hoisted st d h = begin_hoist (against_all st d (asked_symbols st d.route.passed d.naming.name)) d (passed_symbol st d.route.passed d.naming.name) (begin_against st d (asked_symbols st d.route.passed d.naming.name) h)
begin_by moved st d h =
    let c : ℕ = stands_in d in
    let o : Option ℕ = found st c d.naming.name in
    begin_move_out (declare_in st c d o) c d.route.target.number d.naming.name (chosen st o) (get st.bindings d.route.target.number d.naming.name) (begin_declare st c d o h)
begin_by caught st d h = begin_push st.symbols d.route.target.number d.naming h

begin_rescoped : (ys : List Symbol) (bs : Bindings) (c : ℕ) → AllBegin ys → AllBegin (rescoped ys bs c)
begin_rescoped ys [] c h = h
begin_rescoped ys (b ∷ bs) c h = begin_rescoped (update (in_scope c) ys b.1) bs c (begin_update (in_scope c) ys b.1 (keeps_scope c) h)

begin_run : (st : State) (es : List Event) → AllBegin st.symbols → AllBegin (run st es).symbols
begin_run st [] h = h
begin_run st (declares d ∷ es) h = begin_run (act st (declares d)) es (begin_by d.how st d h)
begin_run st (takes_over c b ∷ es) h = begin_run (act st (takes_over c b)) es (begin_rescoped st.symbols (bound_by st.bindings c) b h)
begin_run st (ends_header c ∷ es) h = begin_run st es h

begin_at : (ys : List Symbol) (s : ℕ) (y : Symbol) → AllBegin ys → slice_get ys s ≡ Some y → HasOwnEntry y y.redeclarations
begin_at [] s y h e = absurd cc
begin_at (z ∷ ys) zero y h e = let q : z ≡ y = cc in subst (λ w. HasOwnEntry w w.redeclarations) q h.0
begin_at (z ∷ ys) (suc s) y h e = begin_at ys s y h.1 e

pub lists_begin : (p : Tree) → ListsBeginWithOwn (tables_of p)
lists_begin p s y e = begin_at (run start (events (steps p))).symbols s y (begin_run start (events (steps p)) tt) e
