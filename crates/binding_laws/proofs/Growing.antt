-- A declaration leaves the flags of each symbol, or adds its own.
use Rattle.std.proofs.Common.{◌≡◌, ℕ, zero, suc, ◌<◌, List, [], ◌∷◌, ◌++◌, Option, Some, None, Bool, true, false, cond, not, ◌==◌, ◌⊎◌, inl, inr, refl, sym, ap, subst, ◌∙◌, length, option_map, arith}
use Rattle.std.specs.Prelude.{slice_get}
use Rattle.std.specs.Int.RustNames.{bit_and}
use Rattle.std.proofs.lemmas.Bool.{ne_eqb, eq-eqb}
use Rattle.std.proofs.lemmas.Bool.Decides.{eqb_tells}
use Rattle.std.proofs.lemmas.Nat.{and_assoc, and_comm, and_le_r, and_or_apart, and_or_self, or_comm}
use Rattle.semantic_syntax.specs.Sets.{meets, union}
use Rattle.semantic_syntax.specs.Tables.{Name, Symbol, Bindings}
use Rattle.semantic_model.specs.Binding.{get}
use Rattle.semantic_model.specs.Declaration.{How, plain, hoisted, moved, caught, Declaration, stands_in}
use Rattle.semantic_model.specs.Entries.{Among}
use Rattle.semantic_model.specs.Event.{declares}
use Rattle.semantic_model.specs.Fold.{State, Conflict, conflict_with, found, update, redeclared, united, in_scope, note_symbol, against, declare_in, chosen, flags_of, flags_or_none, new_symbol}
use Rattle.semantic_model.specs.Hoist.{PassedSymbol, passed_symbol, asked_symbols, against_all, move_symbol, hoist_by, move_out, declare_by, rescoped, act}
use Rattle.semantic_model.proofs.lists.Members.{among_left}
use Rattle.semantic_model.proofs.lists.SymbolLaws.{get-update, get-push, get_within}

-- sets of which neither has the flags
pub meets_neither : (a b f : ℕ) → meets a f ≡ false → meets b f ≡ false → meets (union a b) f ≡ false
meets_neither a b f h k = ap (λ n. not (n == 0)) (and_or_apart f a b (none b k)) ∙ h
  where
    none : (b : ℕ) → meets b f ≡ false → bit_and b f ≡ 0
    none b k = elim (eqb_tells (bit_and b f) 0) [ inl q ↦ q.1 | inr q ↦ (let w : true ≡ false = rw q.0 at k in absurd cc) ]

-- sets of which one has some of the flags
meets_more : (a x f : ℕ) → bit_and x a ≡ a → meets a f ≡ true → meets x f ≡ true
meets_more a x f e h = elim (eqb_tells (bit_and x f) 0) [
  | inl q ↦ (let none : bit_and a f ≡ 0 = ap (λ n. bit_and n f) (sym e ∙ and_comm x a) ∙ and_assoc f a x ∙ ap (bit_and a) q.1 ∙ omega (arith, and_le_r a 0) in
      let w : true ≡ false = sym h ∙ ap not (eq-eqb (bit_and a f) 0 none) in absurd cc)
  | inr q ↦ ap not q.0
]

pub meets_first : (a b f : ℕ) → meets a f ≡ true → meets (union a b) f ≡ true
meets_first a b f h = meets_more a (union a b) f (ap (λ n. bit_and n a) (or_comm a b) ∙ and_or_self a b) h

pub meets_second : (a b f : ℕ) → meets b f ≡ true → meets (union a b) f ≡ true
meets_second a b f h = meets_more b (union a b) f (and_or_self b a) h

-- a symbol that there is
pub entry_below : (ys : List Symbol) (n : ℕ) → n < length ys → (y : Symbol) × (slice_get ys n ≡ Some y)
entry_below [] n h = absurd (omega (arith, h))
entry_below (y ∷ ys) zero h = (y, refl)
entry_below (y ∷ ys) (suc n) h = entry_below ys n (omega (arith, h))

-- its flags, once it has more
pub more_flags : (f : Symbol → Symbol) (flags : ℕ) (ys : List Symbol) (n : ℕ) → ((y : Symbol) → (f y).flags.bits ≡ union y.flags.bits flags) → n < length ys → flags_or_none (slice_get (update f ys n) n) ≡ union (flags_or_none (slice_get ys n)) flags
more_flags f flags ys n h l =
    let (y, e) = entry_below ys n l in
    ap flags_or_none (get-update f ys n n ∙ ap (λ t. cond t (option_map f (slice_get ys n)) (slice_get ys n)) (eq-eqb n n refl) ∙ ap (option_map f) e) ∙ h y ∙ ap (λ o. union (flags_or_none o) flags) (sym e)

pub other_flags : (f : Symbol → Symbol) (ys : List Symbol) (n m : ℕ) → (n ≡ m → ⊥) → flags_or_none (slice_get (update f ys n) m) ≡ flags_or_none (slice_get ys m)
other_flags f ys n m h = ap flags_or_none (get-update f ys n m ∙ ap (λ t. cond t (option_map f (slice_get ys m)) (slice_get ys m)) (ne_eqb n m h))

pub same_flags : (f : Symbol → Symbol) (ys : List Symbol) (n m : ℕ) → ((y : Symbol) → (f y).flags.bits ≡ y.flags.bits) → flags_or_none (slice_get (update f ys n) m) ≡ flags_or_none (slice_get ys m)
same_flags f ys n m h = ap flags_or_none (get-update f ys n m) ∙ by (n == m) (slice_get ys m)
  where
    by : (t : Bool) (o : Option Symbol) → flags_or_none (cond t (option_map f o) o) ≡ flags_or_none o
    by true None = refl
    by true (Some y) = h y
    by false o = refl

pub pushed_flags : (ys : List Symbol) (y z : Symbol) (n : ℕ) → slice_get ys n ≡ Some z → flags_or_none (slice_get (ys ++ y ∷ []) n) ≡ flags_or_none (slice_get ys n)
pushed_flags ys y z n h = ap flags_or_none (get-push ys y n (get_within ys n z h))

pub rescoped_flags : (ys : List Symbol) (bs : Bindings) (c n : ℕ) → flags_or_none (slice_get (rescoped ys bs c) n) ≡ flags_or_none (slice_get ys n)
rescoped_flags ys [] c n = refl
rescoped_flags ys (b ∷ bs) c n = rescoped_flags (update (in_scope c) ys b.1) bs c n ∙ same_flags (in_scope c) ys b.1 n (λ y. refl)

-- each symbol that there was has its flags, or these too
pub record Grown (flags : ℕ) (st new : State) : Type 0 where
  pub each : (s : ℕ) → s < length st.symbols → (flags_of new s ≡ flags_of st s) ⊎ (flags_of new s ≡ union (flags_of st s) flags)

-- the same flags as a grown state
grown_same : (flags : ℕ) (st mid new : State) → ((s : ℕ) → flags_of new s ≡ flags_of mid s) → Grown flags st mid → Grown flags st new
grown_same flags st mid new e h = record { each = λ s l. elim (h.each s l) [ inl q ↦ inl (e s ∙ q) | inr q ↦ inr (e s ∙ q) ] }

pub grown_declare : (st : State) (c : ℕ) (d : Declaration) (o : Option ℕ) → Grown d.naming.flags st (declare_in st c d o)
grown_declare st c d None = record { each = λ s l. inl (ap flags_or_none (get-push st.symbols (new_symbol c d.naming) s l)) }
grown_declare st c d (Some z) = record {
  each = λ s l. elim (eqb_tells z s) [
    | inl q ↦ inr (subst (λ n. flags_of (declare_in st c d (Some n)) s ≡ union (flags_of st s) d.naming.flags) (sym q.1) (more_flags (λ y. united d.naming.flags (redeclared d.naming y)) d.naming.flags st.symbols s (λ y. refl) l))
    | inr q ↦ inl (other_flags (λ y. united d.naming.flags (redeclared d.naming y)) st.symbols z s q.1)
  ];
}

pub against_symbols : (st : State) (d : Declaration) (ss : List ℕ) → (against_all st d ss).symbols ≡ st.symbols
against_symbols st d [] = refl
against_symbols st d (s ∷ ss) = against_symbols (against st d s) d ss

grown_hoist : (st : State) (d : Declaration) (o : Option PassedSymbol) → Grown d.naming.flags st (hoist_by st d o)
grown_hoist st d None =
    let f : Option ℕ = found st d.route.target.number d.naming.name in
    grown_same d.naming.flags st (declare_in st d.route.target.number d f) (hoist_by st d None) (λ s. refl) (grown_declare st d.route.target.number d f)
grown_hoist st d (Some r) = record { each = λ s l. inl (went (get got.bindings d.route.target.number d.naming.name) s ∙ same_flags (redeclared d.naming) st.symbols r.symbol s (λ y. refl)) }
  where
    got : State
    got = note_symbol (record st { symbols = update (redeclared d.naming) st.symbols r.symbol }) d r.symbol

    went : (o : Option ℕ) (s : ℕ) → flags_of (move_symbol got r.scope d.route.target.number d.naming.name r.symbol o) s ≡ flags_of got s
    went None s = same_flags (in_scope d.route.target.number) got.symbols r.symbol s (λ y. refl)
    went (Some z) s = refl

grown_by : (how : How) (st : State) (d : Declaration) → Grown d.naming.flags st (declare_by how st d)
grown_by plain st d = grown_declare st d.route.target.number d (found st d.route.target.number d.naming.name)
grown_by caught st d = grown_declare st d.route.target.number d None
grown_by hoisted st d =
    let noted : State = against_all st d (asked_symbols st d.route.passed d.naming.name) in
    let h : Grown d.naming.flags noted (declare_by hoisted st d) = grown_hoist noted d (passed_symbol st d.route.passed d.naming.name) in
    record { each = λ s l. subst (λ ys. (flags_of (declare_by hoisted st d) s ≡ flags_or_none (slice_get ys s)) ⊎ (flags_of (declare_by hoisted st d) s ≡ union (flags_or_none (slice_get ys s)) d.naming.flags)) same (h.each s (subst (λ ys. s < length ys) (sym same) l)) }
  where
    same : (against_all st d (asked_symbols st d.route.passed d.naming.name)).symbols ≡ st.symbols
    same = against_symbols st d (asked_symbols st d.route.passed d.naming.name)
grown_by moved st d =
    let o : Option ℕ = found st (stands_in d) d.naming.name in
    let next : State = declare_in st (stands_in d) d o in
    grown_same d.naming.flags st next (declare_by moved st d) (out next (chosen st o) (get st.bindings d.route.target.number d.naming.name)) (grown_declare st (stands_in d) d o)
  where
    out : (next : State) (z : ℕ) (o : Option ℕ) (s : ℕ) → flags_of (move_out next (stands_in d) d.route.target.number d.naming.name z o) s ≡ flags_of next s
    out next z None s = same_flags (in_scope d.route.target.number) next.symbols z s (λ y. refl)
    out next z (Some r) s = refl

pub grown_act : (st : State) (d : Declaration) → Grown d.naming.flags st (act st (declares d))
grown_act st d = grown_by d.how st d

-- conflicts that are noted stay
abbrev pub KeepConflicts : State → State → Type 0
KeepConflicts st new = (k : Conflict) → Among k st.conflicts → Among k new.conflicts

noted_stay : (st : State) (d : Declaration) (s : ℕ) → KeepConflicts st (against st d s)
noted_stay st d s k a = among_left k st.conflicts (conflict_with d.naming (slice_get st.symbols s)) a

pub against_stay : (st : State) (d : Declaration) (ss : List ℕ) → KeepConflicts st (against_all st d ss)
against_stay st d [] k a = a
against_stay st d (s ∷ ss) k a = against_stay (against st d s) d ss k (noted_stay st d s k a)

declare_stay : (st : State) (c : ℕ) (d : Declaration) (o : Option ℕ) → KeepConflicts st (declare_in st c d o)
declare_stay st c d None k a = a
declare_stay st c d (Some s) k a = noted_stay st d s k a

move_stay : (st : State) (c t : ℕ) (x : Name) (s : ℕ) (o : Option ℕ) → KeepConflicts st (move_symbol st c t x s o)
move_stay st c t x s None k a = a
move_stay st c t x s (Some r) k a = a

out_stay : (st : State) (c t : ℕ) (x : Name) (s : ℕ) (o : Option ℕ) → KeepConflicts st (move_out st c t x s o)
out_stay st c t x s None k a = a
out_stay st c t x s (Some r) k a = a

hoist_stay : (st : State) (d : Declaration) (o : Option PassedSymbol) → KeepConflicts st (hoist_by st d o)
hoist_stay st d None k a = declare_stay st d.route.target.number d (found st d.route.target.number d.naming.name) k a
hoist_stay st d (Some r) k a =
    let got : State = note_symbol (record st { symbols = update (redeclared d.naming) st.symbols r.symbol }) d r.symbol in
    move_stay got r.scope d.route.target.number d.naming.name r.symbol (get got.bindings d.route.target.number d.naming.name) k a

by_stay : (how : How) (st : State) (d : Declaration) → KeepConflicts st (declare_by how st d)
by_stay plain st d k a = declare_stay st d.route.target.number d (found st d.route.target.number d.naming.name) k a
by_stay caught st d k a = a
by_stay hoisted st d k a =
    let ss : List ℕ = asked_symbols st d.route.passed d.naming.name in
    hoist_stay (against_all st d ss) d (passed_symbol st d.route.passed d.naming.name) k (against_stay st d ss k a)
by_stay moved st d k a =
    let o : Option ℕ = found st (stands_in d) d.naming.name in
    out_stay (declare_in st (stands_in d) d o) (stands_in d) d.route.target.number d.naming.name (chosen st o) (get st.bindings d.route.target.number d.naming.name) k (declare_stay st (stands_in d) d o k a)

pub conflicts_stay : (st : State) (d : Declaration) → KeepConflicts st (act st (declares d))
conflicts_stay st d = by_stay d.how st d
