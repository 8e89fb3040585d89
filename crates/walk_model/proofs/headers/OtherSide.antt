-- What events on one side leave of the other: its bindings, and the flags of its symbols.
use Rattle.std.proofs.Common.{◌≡◌, ℕ, ◌<◌, ◌≤◌, ◌==◌, List, [], ◌∷◌, Option, Some, None, Bool, true, false, cond, inl, inr, refl, sym, ap, subst, ◌∙◌, length, option_map, nat_lt, arith}
use Rattle.std.specs.Prelude.{slice_get}
use Rattle.std.proofs.lemmas.Bool.Decides.{eqb_tells, Decides-ltb}
use Rattle.std.proofs.lemmas.List.{length-append}
use Rattle.semantic_syntax.specs.Tables.{Name, Symbol, Bindings}
use Rattle.semantic_model.specs.Entries.{Among}
use Rattle.semantic_model.specs.Binding.{Binding, get, put, remove, move, bound_by}
use Rattle.semantic_model.specs.Declaration.{How, plain, hoisted, moved, caught, Declaration, stands_in}
use Rattle.semantic_model.specs.Event.{Event, declares, takes_over, ends_header}
use Rattle.semantic_model.specs.Fold.{State, found, update, redeclared, united, in_scope, note_symbol, against, declare_in, chosen, flags_of, flags_or_none, new_symbol}
use Rattle.semantic_model.specs.Hoist.{PassedSymbol, passed_symbol, asked_symbols, against_all, move_symbol, hoist_by, move_out, declare_by, rescoped, act, run}
use Rattle.semantic_model.proofs.lists.Bounds.{AllBelow, update_length, IsSound}
use Rattle.semantic_model.proofs.lists.Growth.{rescoped_length}
use Rattle.semantic_model.proofs.lists.BindingLaws.{same_key, same_key_tells, get-put_other, get-remove_other, get-take_over_other}
use Rattle.semantic_model.proofs.lists.SymbolLaws.{get-update, get-push}
use Rattle.walk_model.proofs.headers.Sides.{IsSided, ArePassedOn, IsOn, found_side, against_sided, against_symbols, passed_symbol_side, act_sided}

flags_other : (f : Symbol → Symbol) (ys : List Symbol) (s y : ℕ) → (s ≡ y → ⊥) → flags_or_none (slice_get (update f ys s) y) ≡ flags_or_none (slice_get ys y)
flags_other f ys s y n = elim (eqb_tells s y) [
  | inl k ↦ absurd (n k.1)
  | inr k ↦ rw (get-update f ys s y, k.0) refl
]

flags_rescoped : (c : ℕ) (ys : List Symbol) (s y : ℕ) → flags_or_none (slice_get (update (in_scope c) ys s) y) ≡ flags_or_none (slice_get ys y)
flags_rescoped c ys s y = rw (get-update (in_scope c) ys s y) (by (s == y) (slice_get ys y))
  where
    by : (b : Bool) (o : Option Symbol) → flags_or_none (cond b (option_map (in_scope c) o) o) ≡ flags_or_none o
    by true None = refl
    by true (Some z) = refl
    by false o = refl

flags_all_rescoped : (ys : List Symbol) (bs : Bindings) (c y : ℕ) → flags_or_none (slice_get (rescoped ys bs c) y) ≡ flags_or_none (slice_get ys y)
flags_all_rescoped ys [] c y = refl
flags_all_rescoped ys (b ∷ bs) c y = flags_all_rescoped (update (in_scope c) ys b.1) bs c y ∙ flags_rescoped c ys b.1 y

module _ (inside : ℕ → Bool) (side : ℕ → Bool) where
  pub record Keeps (old new : State) : Type 0 where
    pub bound : (s : ℕ) (x : Name) → inside s ≡ true → get new.bindings s x ≡ get old.bindings s x
    pub flags : (y : ℕ) → side y ≡ true → y < length old.symbols → flags_of new y ≡ flags_of old y
    pub longer : length old.symbols ≤ length new.symbols

  keeps_all : (st : State) → Keeps st st
  keeps_all st = record { bound = λ s x i. refl; flags = λ y i l. refl; longer = omega arith }

  then_keeps : (a b c : State) → Keeps a b → Keeps b c → Keeps a c
  then_keeps a b c h k = record {
    bound = λ s x i. k.bound s x i ∙ h.bound s x i;
    flags = λ y i l. k.flags y i (omega (arith, l, h.longer)) ∙ h.flags y i l;
    longer = omega (arith, h.longer, k.longer);
  }

  key_apart : (c s : ℕ) (x y : Name) → inside c ≡ false → inside s ≡ true → same_key c x s y ≡ false
  key_apart c s x y i j = elim (same_key_tells c s x y) [
    | inl k ↦ (let q : false ≡ true = sym i ∙ ap inside k.1 ∙ j in absurd cc)
    | inr k ↦ k.0
  ]

  sides_apart : (s y : ℕ) → side s ≡ false → side y ≡ true → s ≡ y → ⊥
  sides_apart s y i j e = let q : false ≡ true = sym i ∙ ap side e ∙ j in absurd cc

  declare_keeps : (st : State) (c : ℕ) (d : Declaration) (o : Option ℕ) → inside c ≡ false → IsSided inside side st → found st c d.naming.name ≡ o → Keeps st (declare_in st c d o)
  declare_keeps st c d None i h e = record {
    bound = λ s x j. get-put_other st.bindings c d.naming.name (length st.symbols) s x (key_apart c s d.naming.name x i j);
    flags = λ y j l. ap flags_or_none (get-push st.symbols (new_symbol c d.naming) y l);
    longer = omega (arith, length-append st.symbols (new_symbol c d.naming ∷ []));
  }
  declare_keeps st c d (Some z) i h e = record {
    bound = λ s x j. refl;
    flags = λ y j l. flags_other (λ u. united d.naming.flags (redeclared d.naming u)) st.symbols z y (sides_apart z y (sym (found_side inside side st c d.naming.name z h e) ∙ i) j);
    longer = omega (arith, update_length (λ u. united d.naming.flags (redeclared d.naming u)) st.symbols z);
  }

  against_bindings : (st : State) (d : Declaration) (ss : List ℕ) → (against_all st d ss).bindings ≡ st.bindings
  against_bindings st d [] = refl
  against_bindings st d (s ∷ ss) = against_bindings (against st d s) d ss

  -- the same bindings and symbols
  same_keeps : (st new : State) → new.bindings ≡ st.bindings → new.symbols ≡ st.symbols → Keeps st new
  same_keeps st new e f = record {
    bound = λ s x j. ap (λ bs. get bs s x) e;
    flags = λ y j l. ap (λ ys. flags_or_none (slice_get ys y)) f;
    longer = omega (arith, ap length f);
  }

  move_keeps : (st : State) (c t : ℕ) (x : Name) (z : ℕ) (o : Option ℕ) → inside c ≡ false → inside t ≡ false → Keeps st (move_symbol st c t x z o)
  move_keeps st c t x z (Some r) i k = keeps_all st
  move_keeps st c t x z None i k = record {
    bound = λ s y j. get-put_other (remove st.bindings c x) t x z s y (key_apart t s x y k j) ∙ get-remove_other st.bindings c x s y (key_apart c s x y i j);
    flags = λ y j l. flags_rescoped t st.symbols z y;
    longer = omega (arith, update_length (in_scope t) st.symbols z);
  }

  redeclare_keeps : (st : State) (d : Declaration) (z : ℕ) → side z ≡ false → Keeps st (note_symbol (record st { symbols = update (redeclared d.naming) st.symbols z }) d z)
  redeclare_keeps st d z i = record {
    bound = λ s x j. refl;
    flags = λ y j l. flags_other (redeclared d.naming) st.symbols z y (sides_apart z y i j);
    longer = omega (arith, update_length (redeclared d.naming) st.symbols z);
  }

  hoist_keeps : (st : State) (d : Declaration) (o : Option PassedSymbol) → inside d.route.target.number ≡ false → IsSided inside side st → ((r : PassedSymbol) → o ≡ Some r → (inside r.scope ≡ false) × (side r.symbol ≡ false)) → Keeps st (hoist_by st d o)
  hoist_keeps st d None i h q =
      let f : Option ℕ = found st d.route.target.number d.naming.name in
      let next : State = declare_in st d.route.target.number d f in
      then_keeps st next (hoist_by st d None) (declare_keeps st d.route.target.number d f i h refl) (same_keeps next (hoist_by st d None) refl refl)
  hoist_keeps st d (Some r) i h q =
      let got : State = note_symbol (record st { symbols = update (redeclared d.naming) st.symbols r.symbol }) d r.symbol in
      let o : Option ℕ = get got.bindings d.route.target.number d.naming.name in
      let went : State = move_symbol got r.scope d.route.target.number d.naming.name r.symbol o in
      then_keeps st went (hoist_by st d (Some r))
      (then_keeps st got went (redeclare_keeps st d r.symbol (q r refl).1) (move_keeps got r.scope d.route.target.number d.naming.name r.symbol o (q r refl).0 i))
      (same_keeps went (hoist_by st d (Some r)) refl refl)

  moved_bindings : (bs : List Binding) (c t : ℕ) (x : Name) (s : ℕ) (y : Name) → inside c ≡ false → inside t ≡ false → inside s ≡ true → get (move bs c t x) s y ≡ get bs s y
  moved_bindings bs c t x s y i k j = by (get bs c x)
    where
      by : (o : Option ℕ) → get (elim o [ None ↦ bs | Some z ↦ put (remove bs c x) t x z ]) s y ≡ get bs s y
      by None = refl
      by (Some z) = get-put_other (remove bs c x) t x z s y (key_apart t s x y k j) ∙ get-remove_other bs c x s y (key_apart c s x y i j)

  out_keeps : (st : State) (c t : ℕ) (x : Name) (z : ℕ) (o : Option ℕ) → inside c ≡ false → inside t ≡ false → Keeps st (move_out st c t x z o)
  out_keeps st c t x z (Some r) i k = keeps_all st
  out_keeps st c t x z None i k = record {
    bound = λ s y j. moved_bindings st.bindings c t x s y i k j;
    flags = λ y j l. flags_rescoped t st.symbols z y;
    longer = omega (arith, update_length (in_scope t) st.symbols z);
  }

  by_keeps : (how : How) (st : State) (d : Declaration) → inside d.route.target.number ≡ false → ArePassedOn inside side false how d → IsSided inside side st → Keeps st (declare_by how st d)
  by_keeps plain st d i a h = declare_keeps st d.route.target.number d (found st d.route.target.number d.naming.name) i h refl
  by_keeps caught st d i a h = record {
    bound = λ s x j. get-put_other st.bindings d.route.target.number d.naming.name (length st.symbols) s x (key_apart d.route.target.number s d.naming.name x i j);
    flags = λ y j l. ap flags_or_none (get-push st.symbols (new_symbol d.route.target.number d.naming) y l);
    longer = omega (arith, length-append st.symbols (new_symbol d.route.target.number d.naming ∷ []));
  }
  by_keeps hoisted st d i a h =
      let noted : State = against_all st d (asked_symbols st d.route.passed d.naming.name) in
      then_keeps st noted (declare_by hoisted st d) (same_keeps st noted (against_bindings st d (asked_symbols st d.route.passed d.naming.name)) (against_symbols inside side false st d (asked_symbols st d.route.passed d.naming.name)))
      (hoist_keeps noted d (passed_symbol st d.route.passed d.naming.name) i (against_sided inside side false st d (asked_symbols st d.route.passed d.naming.name) h) (λ r e. passed_symbol_side inside side false st d.route.passed d.naming.name r a h e))
  by_keeps moved st d i a h =
      let c : ℕ = stands_in d in
      let o : Option ℕ = found st c d.naming.name in
      then_keeps st (declare_in st c d o) (declare_by moved st d) (declare_keeps st c d o a h refl)
      (out_keeps (declare_in st c d o) c d.route.target.number d.naming.name (chosen st o) (get st.bindings d.route.target.number d.naming.name) a i)

  not_taken : (c s : ℕ) → inside c ≡ false → inside s ≡ true → s ≡ c → ⊥
  not_taken c s i j e = let q : true ≡ false = sym j ∙ ap inside e ∙ i in absurd cc

  act_keeps : (st : State) (e : Event) → IsOn inside side false e → IsSided inside side st → Keeps st (act st e)
  act_keeps st (declares d) o h = by_keeps d.how st d o.0 o.1 h
  act_keeps st (takes_over c d) o h = record {
    bound = λ s x j. get-take_over_other st.bindings c d s x (not_taken c s o.0 j) (not_taken d s o.1 j);
    flags = λ y j l. flags_all_rescoped st.symbols (bound_by st.bindings c) d y;
    longer = omega (arith, rescoped_length st.symbols (bound_by st.bindings c) d);
  }
  act_keeps st (ends_header c) o h = keeps_all st

  abbrev pub AreOnOther : List Event → Type 0
  AreOnOther [] = Unit {0}
  AreOnOther (e ∷ es) = IsOn inside side false e × AreOnOther es

  -- all events on the other side keep it
  pub run_keeps : (st : State) (es : List Event) → AreOnOther es → ((n : ℕ) → length st.symbols ≤ n → side n ≡ false) → IsSided inside side st → Keeps st (run st es)
  run_keeps st [] o n h = keeps_all st
  run_keeps st (e ∷ es) o n h =
      let k : Keeps st (act st e) = act_keeps st e o.0 h in
      then_keeps st (act st e) (run (act st e) es) k
      (run_keeps (act st e) es o.1 (λ m l. n m (omega (arith, l, k.longer))) (act_sided inside side false st e o.0 (n (length st.symbols) (omega arith)) h))

-- sides for the symbols that there are; any other is on the given side
abbrev pub capped : (ℕ → Bool) → ℕ → Bool → ℕ → Bool
capped side k b y = cond (nat_lt y k) (side y) b

below_among : (k : ℕ) (bs : List Binding) (e : Binding) → AllBelow k bs → Among e bs → e.symbol < k
below_among k [] e h a = absurd a
below_among k (b ∷ bs) e h (inl q) = subst (λ (f : Binding). f.symbol < k) q h.0
below_among k (b ∷ bs) e h (inr a) = below_among k bs e h.1 a

capped_here : (side : ℕ → Bool) (k : ℕ) (b : Bool) (y : ℕ) → y < k → side y ≡ capped side k b y
capped_here side k b y l = rw ((Decides-ltb y k).1 l) refl

pub capped_beyond : (side : ℕ → Bool) (k : ℕ) (b : Bool) (y : ℕ) → k ≤ y → capped side k b y ≡ b
capped_beyond side k b y l = by (nat_lt y k) refl
  where
    by : (t : Bool) → nat_lt y k ≡ t → cond t (side y) b ≡ b
    by true e = let q : y < k = (Decides-ltb y k).0 e in absurd (omega (arith, q, l))
    by false e = refl

pub capped_sided : (inside side : ℕ → Bool) (b : Bool) (st : State) → IsSound st → IsSided inside side st → IsSided inside (capped side (length st.symbols) b) st
capped_sided inside side b st s h = record {
  bindings = λ e a. h.bindings e a ∙ capped_here side (length st.symbols) b e.symbol (below_among (length st.symbols) st.bindings e s.bindings a);
  remembered = λ e a. h.remembered e a ∙ capped_here side (length st.symbols) b e.symbol (below_among (length st.symbols) st.remembered e s.remembered a);
}
