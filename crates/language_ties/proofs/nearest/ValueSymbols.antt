-- In a program of ECMAScript each symbol is a value.
use Rattle.std.proofs.Common.{◌≡◌, ℕ, zero, suc, ◌==◌, List, [], ◌∷◌, ◌++◌, Option, Some, None, Bool, true, false, not, ◌⊎◌, inl, inr, cond, flat_map, refl, sym, ap, subst, ◌∙◌, if◌then◌else◌, bit_and, bit_or, arith}
use Rattle.std.specs.Int.{bit_at}
use Rattle.std.specs.Prelude.{slice_get}
use Rattle.std.proofs.lemmas.Bool.Decides.{eqb_tells}
use Rattle.std.proofs.lemmas.Nat.Bits.{bit_at-zero, bit_at_or, bit_at_and, same_from_bits}
use Rattle.semantic_syntax.specs.Sets.{meets, union}
use Rattle.semantic_syntax.specs.Tables.{Name, Symbol, Bindings}
use Rattle.semantic_syntax.specs.declared.symbol_flags.TheConstants.SymbolFlags as symbol
use Rattle.semantic_model.specs.Binder.{ambient_if, declared_on_entering, declared_on_opening}
use Rattle.semantic_model.specs.Binding.{get, bound_by}
use Rattle.semantic_model.specs.Declaration.{Declaration, How, plain, hoisted, moved, caught, stands_in}
use Rattle.semantic_model.specs.EachStep.{EachStep}
use Rattle.semantic_model.specs.Event.{Event, declares, takes_over, ends_header, is_barred, staying_declaration, placed_by, is_catch_body, declares_all, taken_over, events_of}
use Rattle.semantic_model.specs.Fold.{State, update, redeclared, united, in_scope, new_symbol, note_symbol, declare_in, chosen, found}
use Rattle.semantic_model.specs.Hoist.{PassedSymbol, passed_symbol, asked_symbols, against_all, remembering, move_symbol, hoist_by, move_out, declare_by, rescoped, act, run}
use Rattle.semantic_model.specs.Place.{Place, OpenScope, innermost, outside}
use Rattle.semantic_model.specs.Step.{Step, entering, opening, header_ending, closing, leaving}
use Rattle.binding_laws.proofs.Growing.{against_symbols}
use Rattle.language_ties.proofs.shared.DeclaredFlags.{variable_flags, flags_of_function, HoldsOfRows, AllHaveFlags, flags_entering, flags_opening}
use Rattle.language_ties.proofs.shared.PlainNodes.{IsEcmaScriptAt}

abbrev pub IsValue : ℕ → Type 0
IsValue flags = meets flags symbol.ByValue.bits ≡ true

-- ---- flags

-- flags that are added take none away
union_value : (a b : ℕ) → IsValue a → IsValue (union a b)
union_value a b h = go (eqb_tells (bit_and (bit_or a b) symbol.ByValue.bits) 0)
  where
    none : bit_and (bit_or a b) symbol.ByValue.bits ≡ 0 → bit_and a symbol.ByValue.bits ≡ 0
    none e = same_from_bits (bit_and a symbol.ByValue.bits) 0 (λ i.
        let q : bit_at (bit_and (bit_or a b) symbol.ByValue.bits) i ≡ bit_at 0 i = ap (λ n. bit_at n i) e in
        omega (arith, q, bit_at-zero i, bit_at_and (bit_or a b) symbol.ByValue.bits i, bit_at_or a b i, bit_at_and a symbol.ByValue.bits i))

    go : ((bit_and (bit_or a b) symbol.ByValue.bits == 0 ≡ true) × (bit_and (bit_or a b) symbol.ByValue.bits ≡ 0)) ⊎ ((bit_and (bit_or a b) symbol.ByValue.bits == 0 ≡ false) × (bit_and (bit_or a b) symbol.ByValue.bits ≡ 0 → ⊥)) → IsValue (union a b)
    go (inl e) = let w : false ≡ true = sym (ap (λ n. not (n == 0)) (none e.1)) ∙ h in absurd cc
    go (inr e) = ap not e.0

variable_value : (v l a : Bool) → IsValue (variable_flags v l a)
variable_value true l true = refl
variable_value true l false = refl
variable_value false true true = refl
variable_value false true false = refl
variable_value false false true = refl
variable_value false false false = refl

function_value : (a s p : Bool) → IsValue (flags_of_function a s p)
function_value true true true = refl
function_value true true false = refl
function_value true false true = refl
function_value true false false = refl
function_value false true true = refl
function_value false true false = refl
function_value false false true = refl
function_value false false false = refl

class_value : (a : Bool) → IsValue (union symbol.Class.bits (ambient_if a))
class_value true = refl
class_value false = refl

-- ---- symbols

abbrev pub AllValues : List Symbol → Type 0
AllValues [] = Unit {0}
AllValues (y ∷ ys) = IsValue y.flags.bits × AllValues ys

pub value_at : (ys : List Symbol) (s : ℕ) (y : Symbol) → AllValues ys → slice_get ys s ≡ Some y → IsValue y.flags.bits
value_at [] s y h e = absurd cc
value_at (z ∷ ys) zero y h e = let q : z ≡ y = cc in subst (λ w. IsValue w.flags.bits) q h.0
value_at (z ∷ ys) (suc s) y h e = value_at ys s y h.1 e

values_push : (ys : List Symbol) (y : Symbol) → AllValues ys → IsValue y.flags.bits → AllValues (ys ++ y ∷ [])
values_push [] y h k = (k, tt)
values_push (z ∷ ys) y h k = (h.0, values_push ys y h.1 k)

values_update : (f : Symbol → Symbol) (ys : List Symbol) (n : ℕ) → ((y : Symbol) → IsValue y.flags.bits → IsValue (f y).flags.bits) → AllValues ys → AllValues (update f ys n)
values_update f [] n k h = h
values_update f (y ∷ ys) zero k h = (k y h.0, h.1)
values_update f (y ∷ ys) (suc n) k h = (h.0, values_update f ys n k h.1)

values_rescoped : (ys : List Symbol) (bs : Bindings) (b : ℕ) → AllValues ys → AllValues (rescoped ys bs b)
values_rescoped ys [] b h = h
values_rescoped ys (e ∷ bs) b h = values_rescoped (update (in_scope b) ys e.1) bs b (values_update (in_scope b) ys e.1 (λ y k. k) h)

-- ---- the fold

symbols_remembering : (st : State) (cs : List OpenScope) (x : Name) (s : ℕ) → (remembering st cs x s).symbols ≡ st.symbols
symbols_remembering st cs x s = refl

module _ (d : Declaration) (v : IsValue d.naming.flags) where
  values_declare_in : (st : State) (c : ℕ) (o : Option ℕ) → AllValues st.symbols → AllValues (declare_in st c d o).symbols
  values_declare_in st c None h = values_push st.symbols (new_symbol c d.naming) h v
  values_declare_in st c (Some s) h = values_update (λ y. united d.naming.flags (redeclared d.naming y)) st.symbols s (λ y k. union_value y.flags.bits d.naming.flags k) h

  values_move_symbol : (st : State) (c t : ℕ) (x : Name) (s : ℕ) (o : Option ℕ) → AllValues st.symbols → AllValues (move_symbol st c t x s o).symbols
  values_move_symbol st c t x s (Some r) h = h
  values_move_symbol st c t x s None h = values_update (in_scope t) st.symbols s (λ y k. k) h

  values_hoist_by : (st : State) (o : Option PassedSymbol) → AllValues st.symbols → AllValues (hoist_by st d o).symbols
  values_hoist_by st None h = values_declare_in st d.route.target.number (found st d.route.target.number d.naming.name) h
  values_hoist_by st (Some r) h =
      let got : State = note_symbol (record st { symbols = update (redeclared d.naming) st.symbols r.symbol }) d r.symbol in
      values_move_symbol got r.scope d.route.target.number d.naming.name r.symbol (get got.bindings d.route.target.number d.naming.name) (values_update (redeclared d.naming) st.symbols r.symbol (λ y k. k) h)

  values_move_out : (st : State) (c t : ℕ) (x : Name) (s : ℕ) (o : Option ℕ) → AllValues st.symbols → AllValues (move_out st c t x s o).symbols
  values_move_out st c t x s (Some r) h = h
  values_move_out st c t x s None h = values_update (in_scope t) st.symbols s (λ y k. k) h

  values_by : (how : How) (st : State) → AllValues st.symbols → AllValues (declare_by how st d).symbols
  values_by plain st h = values_declare_in st d.route.target.number (found st d.route.target.number d.naming.name) h
  values_by hoisted st h =
      let ss : List ℕ = asked_symbols st d.route.passed d.naming.name in
      values_hoist_by (against_all st d ss) (passed_symbol st d.route.passed d.naming.name) (subst AllValues (sym (against_symbols st d ss)) h)
  values_by moved st h =
      let o : Option ℕ = found st (stands_in d) d.naming.name in
      values_move_out (declare_in st (stands_in d) d o) (stands_in d) d.route.target.number d.naming.name (chosen st o) (get st.bindings d.route.target.number d.naming.name) (values_declare_in st (stands_in d) o h)
  values_by caught st h = values_push st.symbols (new_symbol d.route.target.number d.naming) h v

-- each declaration is of a value
abbrev pub AllDeclareValues : List Event → Type 0
AllDeclareValues [] = Unit {0}
AllDeclareValues (declares d ∷ es) = IsValue d.naming.flags × AllDeclareValues es
AllDeclareValues (takes_over c b ∷ es) = AllDeclareValues es
AllDeclareValues (ends_header c ∷ es) = AllDeclareValues es

pub values_run : (st : State) (es : List Event) → AllDeclareValues es → AllValues st.symbols → AllValues (run st es).symbols
values_run st [] d h = h
values_run st (declares e ∷ es) d h = values_run (act st (declares e)) es d.1 (values_by e d.0 e.how st h)
values_run st (takes_over c b ∷ es) d h = values_run (act st (takes_over c b)) es d (values_rescoped st.symbols (bound_by st.bindings c) b h)
values_run st (ends_header c ∷ es) d h = values_run st es d h

-- ---- the events

value_rows : HoldsOfRows IsValue
value_rows = record { variable = variable_value; parameter = refl; function = λ a s. function_value a true s; of_class = class_value; catch_name = refl; catch_pattern = refl; of_import = refl }

values-append : (es fs : List Event) → AllDeclareValues es → AllDeclareValues fs → AllDeclareValues (es ++ fs)
values-append [] fs h k = k
values-append (declares d ∷ es) fs h k = (h.0, values-append es fs h.1 k)
values-append (takes_over c b ∷ es) fs h k = values-append es fs h k
values-append (ends_header c ∷ es) fs h k = values-append es fs h k

placed_value : (how : How) (ds : List Declaration) (d : Declaration) → IsValue d.naming.flags → IsValue (placed_by how ds d).naming.flags
placed_value plain ds d h = h
placed_value hoisted ds d h = h
placed_value caught ds d h = h
placed_value moved ds d h = go (is_barred ds d (outside d.route.passed))
  where
    go : (b : Bool) → IsValue (if b then staying_declaration d else d).naming.flags
    go true = h
    go false = h

values_declared : (ds new : List Declaration) → AllHaveFlags IsValue new → AllDeclareValues (declares_all ds new)
values_declared ds [] h = tt
values_declared ds (d ∷ new) h = (placed_value d.how ds d h.0, values_declared ds new h.1)

taken_values : (p : Place) (s : OpenScope) → AllDeclareValues (taken_over p s)
taken_values p s = go (is_catch_body p)
  where
    go : (b : Bool) → AllDeclareValues (cond b (takes_over (innermost p.chain).number s.number ∷ []) [])
    go true = tt
    go false = tt

pub values_of_steps : (ds : List Declaration) (ss : List Step) → EachStep IsEcmaScriptAt ss → AllDeclareValues (flat_map (events_of ds) ss)
values_of_steps ds [] h = tt
values_of_steps ds (entering p ∷ ss) h = values-append (declares_all ds (declared_on_entering p)) (flat_map (events_of ds) ss) (values_declared ds (declared_on_entering p) (flags_entering IsValue value_rows p.node.kind p h.0 h.0.node.of_kind)) (values_of_steps ds ss h.1)
values_of_steps ds (opening p s ∷ ss) h =
    values-append (taken_over p s ++ declares_all ds (declared_on_opening p s)) (flat_map (events_of ds) ss)
    (values-append (taken_over p s) (declares_all ds (declared_on_opening p s)) (taken_values p s) (values_declared ds (declared_on_opening p s) (flags_opening IsValue value_rows (λ a b. function_value a false b) p.node.kind p s h.0.node.of_kind)))
    (values_of_steps ds ss h.1)
values_of_steps ds (header_ending p s ∷ ss) h = values_of_steps ds ss h.1
values_of_steps ds (closing p s ∷ ss) h = values_of_steps ds ss h.1
values_of_steps ds (leaving p ∷ ss) h = values_of_steps ds ss h.1
