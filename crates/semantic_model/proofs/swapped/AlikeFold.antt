-- Events with changed names make the same, with changed names.
use Rattle.std.proofs.Common.{◌≡◌, ℕ, zero, suc, List, [], ◌∷◌, ◌++◌, Option, Some, None, cond, Bool, true, false, ◌==◌, refl, ap, ◌∙◌, map, length, sym}
use Rattle.std.specs.Prelude.{slice_get, option_map}
use Rattle.std.proofs.lemmas.Option.{slice_get-map}
use Rattle.std.proofs.lemmas.List.{length-map}
use Rattle.semantic_syntax.specs.Sets.{meets}
use Rattle.semantic_syntax.specs.Tables.{Name, Symbol, Bindings}
use Rattle.semantic_model.specs.Place.{OpenScope}
use Rattle.semantic_model.specs.Declaration.{Declaration, How, plain, hoisted, moved, caught, stands_in}
use Rattle.semantic_model.specs.Binding.{Binding, is_binding_of, get, put, remove, move, take_over, bound_by}
use Rattle.semantic_model.specs.Event.{Event, declares, takes_over, ends_header}
use Rattle.semantic_model.specs.Fold.{Conflict, Made, State, update, flags_or_none, flags_of, or_else, unless_expression, found, redeclared, united, in_scope, new_symbol, note_symbol, make, conflict_with, against, declare_in, chosen}
use Rattle.semantic_model.specs.Hoist.{PassedSymbol, counts, passed_symbol, asked_symbols, against_all, remember, remembering, move_symbol, hoist_by, hoist, move_out, declare_by, rescoped, act, run}
use Rattle.semantic_model.specs.Swap.{renamed_symbol, renamed_key}
use Rattle.semantic_model.proofs.swapped.Alike.{map_append}
use Rattle.semantic_model.proofs.swapped.AlikeProgram.{Keeps}
use Rattle.semantic_model.proofs.swapped.AlikeBinder.{renamed_declaration}
use Rattle.semantic_model.proofs.swapped.AlikeEvents.{renamed_event}

abbrev renamed_binding : (Name → Name) → Binding → Binding
renamed_binding f b = record b { name = f b.name }

abbrev renamed_conflict : (Name → Name) → Conflict → Conflict
renamed_conflict f c = record c { name = f c.name }

abbrev pub renamed_made : (Name → Name) → Made → Made
renamed_made f m = record m { declaration = renamed_declaration f m.declaration }

abbrev pub renamed_bindings : (Name → Name) → List Binding → List Binding
renamed_bindings f bs = map (renamed_binding f) bs

abbrev pub renamed_state : (Name → Name) → State → State
renamed_state f st = record {
  bindings = renamed_bindings f st.bindings;
  remembered = renamed_bindings f st.remembered;
  symbols = map (renamed_symbol f) st.symbols;
  made = map (renamed_made f) st.made;
  conflicts = map (renamed_conflict f) st.conflicts;
}

module _ (f : Name → Name) (keeps : Keeps f) where
  abbrev bound : List Binding → List Binding
  bound bs = renamed_bindings f bs

  abbrev symbols : List Symbol → List Symbol
  symbols ys = map (renamed_symbol f) ys

  abbrev state : State → State
  state st = renamed_state f st

  abbrev declaration : Declaration → Declaration
  declaration d = renamed_declaration f d

  -- the list of bindings
  pub get_same : (bs : List Binding) (c : ℕ) (x : Name) → get (bound bs) c (f x) ≡ get bs c x
  get_same [] c x = refl
  get_same (b ∷ bs) c x = rw (keeps.equal b.name x, get_same bs c x) refl

  put_same : (bs : List Binding) (c : ℕ) (x : Name) (s : ℕ) → put (bound bs) c (f x) s ≡ bound (put bs c x s)
  put_same [] c x s = refl
  put_same (b ∷ bs) c x s = rw (keeps.equal b.name x, put_same bs c x s) (go (is_binding_of c x b))
    where
      go : (t : Bool) → cond t (record { scope = b.scope; name = f b.name; symbol = s } ∷ bound bs) (renamed_binding f b ∷ bound (put bs c x s)) ≡ bound (cond t (record b { symbol = s } ∷ bs) (b ∷ put bs c x s))
      go true = refl
      go false = refl

  remove_same : (bs : List Binding) (c : ℕ) (x : Name) → remove (bound bs) c (f x) ≡ bound (remove bs c x)
  remove_same [] c x = refl
  remove_same (b ∷ bs) c x = rw (keeps.equal b.name x, remove_same bs c x) (go (is_binding_of c x b))
    where
      go : (t : Bool) → cond t (bound (remove bs c x)) (renamed_binding f b ∷ bound (remove bs c x)) ≡ bound (cond t (remove bs c x) (b ∷ remove bs c x))
      go true = refl
      go false = refl

  moved_by : Option ℕ → List Binding → ℕ → ℕ → Name → List Binding
  moved_by o bs c d x = elim o [ None ↦ bs | Some s ↦ put (remove bs c x) d x s ]

  move_same : (bs : List Binding) (c d : ℕ) (x : Name) → move (bound bs) c d (f x) ≡ bound (move bs c d x)
  unfolding moved_by
  move_same bs c d x = ap (λ o. moved_by o (bound bs) c d (f x)) (get_same bs c x) ∙ go (get bs c x)
    where
      go : (o : Option ℕ) → moved_by o (bound bs) c d (f x) ≡ bound (moved_by o bs c d x)
      go None = refl
      go (Some s) = ap (λ cs. put cs d (f x) s) (remove_same bs c x) ∙ put_same (remove bs c x) d x s

  take_over_same : (bs : List Binding) (c d : ℕ) → take_over (bound bs) c d ≡ bound (take_over bs c d)
  take_over_same [] c d = refl
  take_over_same (b ∷ bs) c d = λ i. go (b.scope == c) i ∷ take_over_same bs c d i
    where
      go : (t : Bool) → cond t (record { scope = d; name = f b.name; symbol = b.symbol }) (renamed_binding f b) ≡ renamed_binding f (cond t (record b { scope = d }) b)
      go true = refl
      go false = refl

  pub bound_by_same : (bs : List Binding) (c : ℕ) → bound_by (bound bs) c ≡ map (renamed_key f) (bound_by bs c)
  bound_by_same [] c = refl
  bound_by_same (b ∷ bs) c = rw (bound_by_same bs c) (go (b.scope == c))
    where
      go : (t : Bool) → cond t ((f b.name, b.symbol) ∷ map (renamed_key f) (bound_by bs c)) (map (renamed_key f) (bound_by bs c)) ≡ map (renamed_key f) (cond t ((b.name, b.symbol) ∷ bound_by bs c) (bound_by bs c))
      go true = refl
      go false = refl

  -- symbols
  flags_by : (o : Option Symbol) → flags_or_none (option_map (renamed_symbol f) o) ≡ flags_or_none o
  flags_by None = refl
  flags_by (Some y) = refl

  pub flags_same : (st : State) (s : ℕ) → flags_of (state st) s ≡ flags_of st s
  flags_same st s = ap flags_or_none (slice_get-map (renamed_symbol f) st.symbols s) ∙ flags_by (slice_get st.symbols s)

  update_same : (g h : Symbol → Symbol) → ((y : Symbol) → h (renamed_symbol f y) ≡ renamed_symbol f (g y)) → (ys : List Symbol) (n : ℕ) → update h (symbols ys) n ≡ symbols (update g ys n)
  update_same g h k [] n = refl
  update_same g h k (y ∷ ys) zero = λ i. k y i ∷ symbols ys
  update_same g h k (y ∷ ys) (suc n) = λ i. renamed_symbol f y ∷ update_same g h k ys n i

  redeclared_same : (d : Declaration) (y : Symbol) → redeclared (declaration d).naming (renamed_symbol f y) ≡ renamed_symbol f (redeclared d.naming y)
  redeclared_same d y = refl

  united_same : (d : Declaration) (y : Symbol) → united d.naming.flags (redeclared (declaration d).naming (renamed_symbol f y)) ≡ renamed_symbol f (united d.naming.flags (redeclared d.naming y))
  united_same d y = refl

  -- what is found
  unless_same : (st : State) (o : Option ℕ) → unless_expression (flags_of (state st)) o ≡ unless_expression (flags_of st) o
  unless_same st None = refl
  unless_same st (Some s) = rw (flags_same st s) refl

  found_same : (st : State) (c : ℕ) (x : Name) → found (state st) c (f x) ≡ found st c x
  found_same st c x = (λ i. unless_expression (flags_of (state st)) (or_else (get_same st.bindings c x i) (get_same st.remembered c x i))) ∙ unless_same st (or_else (get st.bindings c x) (get st.remembered c x))

  counts_same : (st : State) (o : Option ℕ) → counts (state st) o ≡ counts st o
  counts_same st None = refl
  counts_same st (Some s) = rw (flags_same st s) refl

  passed_symbol_same : (st : State) (cs : List OpenScope) (x : Name) → passed_symbol (state st) cs (f x) ≡ passed_symbol st cs x
  passed_symbol_same st [] x = refl
  passed_symbol_same st (c ∷ cs) x = rw (found_same st c.number x, counts_same st (found st c.number x), passed_symbol_same st cs x) refl

  asked_same : (st : State) (cs : List OpenScope) (x : Name) → asked_symbols (state st) cs (f x) ≡ asked_symbols st cs x
  asked_same st [] x = refl
  asked_same st (c ∷ cs) x = rw (found_same st c.number x, counts_same st (found st c.number x), asked_same st cs x) refl

  chosen_same : (st : State) (o : Option ℕ) → chosen (state st) o ≡ chosen st o
  chosen_same st None = length-map st.symbols (renamed_symbol f)
  chosen_same st (Some s) = refl

  -- what is made
  note_symbol_same : (st : State) (d : Declaration) (s : ℕ) → note_symbol (state st) (declaration d) s ≡ state (note_symbol st d s)
  note_symbol_same st d s = ap (λ ms. record (state st) { made = ms }) (sym (map_append (renamed_made f) st.made (record { declaration = d; symbol = s } ∷ [])))

  make_same : (st : State) (c : ℕ) (d : Declaration) → make (state st) c (declaration d) ≡ state (make st c d)
  make_same st c d =
      ap (λ n. note_symbol (record (state st) { bindings = put (bound st.bindings) c (f d.naming.name) n; symbols = symbols st.symbols ++ renamed_symbol f (new_symbol c d.naming) ∷ [] }) (declaration d) n) (length-map st.symbols (renamed_symbol f))
      ∙ (λ i. note_symbol (record (state st) { bindings = put_same st.bindings c d.naming.name (length st.symbols) i; symbols = sym (map_append (renamed_symbol f) st.symbols (new_symbol c d.naming ∷ [])) i }) (declaration d) (length st.symbols))
      ∙ note_symbol_same (record st { bindings = put st.bindings c d.naming.name (length st.symbols); symbols = st.symbols ++ new_symbol c d.naming ∷ [] }) d (length st.symbols)

  conflicts_same : (d : Declaration) (o : Option Symbol) → conflict_with (declaration d).naming (option_map (renamed_symbol f) o) ≡ map (renamed_conflict f) (conflict_with d.naming o)
  conflicts_same d None = refl
  conflicts_same d (Some y) = go (meets y.flags.bits d.naming.excluded)
    where
      go : (b : Bool) → cond b (record { name = f d.naming.name; earlier = y.span; later = d.naming.span } ∷ []) [] ≡ map (renamed_conflict f) (cond b (record { name = d.naming.name; earlier = y.span; later = d.naming.span } ∷ []) [])
      go true = refl
      go false = refl

  against_same : (st : State) (d : Declaration) (s : ℕ) → against (state st) (declaration d) s ≡ state (against st d s)
  against_same st d s = ap (λ cs. record (state st) { conflicts = cs })
      (ap (λ o. map (renamed_conflict f) st.conflicts ++ conflict_with (declaration d).naming o) (slice_get-map (renamed_symbol f) st.symbols s)
      ∙ ap (λ cs. map (renamed_conflict f) st.conflicts ++ cs) (conflicts_same d (slice_get st.symbols s))
      ∙ sym (map_append (renamed_conflict f) st.conflicts (conflict_with d.naming (slice_get st.symbols s))))

  against_all_same : (st : State) (d : Declaration) (ss : List ℕ) → against_all (state st) (declaration d) ss ≡ state (against_all st d ss)
  against_all_same st d [] = refl
  against_all_same st d (s ∷ ss) = ap (λ w. against_all w (declaration d) ss) (against_same st d s) ∙ against_all_same (against st d s) d ss

  -- one more declaration of a symbol
  finds_same : (g h : Symbol → Symbol) → ((y : Symbol) → h (renamed_symbol f y) ≡ renamed_symbol f (g y)) → (st : State) (d : Declaration) (s : ℕ) → note_symbol (record (state st) { symbols = update h (symbols st.symbols) s }) (declaration d) s ≡ state (note_symbol (record st { symbols = update g st.symbols s }) d s)
  finds_same g h k st d s =
      ap (λ ys. note_symbol (record (state st) { symbols = ys }) (declaration d) s) (update_same g h k st.symbols s)
      ∙ note_symbol_same (record st { symbols = update g st.symbols s }) d s

  declare_in_same : (st : State) (c : ℕ) (d : Declaration) (o : Option ℕ) → declare_in (state st) c (declaration d) o ≡ state (declare_in st c d o)
  declare_in_same st c d None = make_same st c d
  declare_in_same st c d (Some s) =
      ap (λ w. note_symbol (record w { symbols = update (λ y. united d.naming.flags (redeclared (declaration d).naming y)) w.symbols s }) (declaration d) s) (against_same st d s)
      ∙ finds_same (λ y. united d.naming.flags (redeclared d.naming y)) (λ y. united d.naming.flags (redeclared (declaration d).naming y)) (united_same d) (against st d s) d s

  remember_same : (bs : List Binding) (cs : List OpenScope) (x : Name) (s : ℕ) → remember (bound bs) cs (f x) s ≡ bound (remember bs cs x s)
  remember_same bs [] x s = refl
  remember_same bs (c ∷ cs) x s = ap (λ es. remember es cs (f x) s) (put_same bs c.number x s) ∙ remember_same (put bs c.number x s) cs x s

  remembering_same : (st : State) (cs : List OpenScope) (x : Name) (s : ℕ) → remembering (state st) cs (f x) s ≡ state (remembering st cs x s)
  remembering_same st cs x s = ap (λ bs. record (state st) { remembered = bs }) (remember_same st.remembered cs x s)

  -- `var` and block functions
  move_symbol_same : (st : State) (c t : ℕ) (x : Name) (s : ℕ) (o : Option ℕ) → move_symbol (state st) c t (f x) s o ≡ state (move_symbol st c t x s o)
  move_symbol_same st c t x s (Some r) = refl
  move_symbol_same st c t x s None = λ i. record (state st) {
    bindings = (ap (λ bs. put bs t (f x) s) (remove_same st.bindings c x) ∙ put_same (remove st.bindings c x) t x s) i;
    symbols = update_same (in_scope t) (in_scope t) (λ y. refl) st.symbols s i;
  }

  hoist_by_same : (st : State) (d : Declaration) (o : Option PassedSymbol) → hoist_by (state st) (declaration d) o ≡ state (hoist_by st d o)
  hoist_by_same st d None =
      let t : ℕ = d.route.target.number in
      let o : Option ℕ = found st t d.naming.name in
      ap (λ w. remembering (declare_in (state st) t (declaration d) w) d.route.passed (f d.naming.name) (chosen (state st) w)) (found_same st t d.naming.name)
      ∙ (λ i. remembering (declare_in_same st t d o i) d.route.passed (f d.naming.name) (chosen_same st o i))
      ∙ remembering_same (declare_in st t d o) d.route.passed d.naming.name (chosen st o)
  hoist_by_same st d (Some h) =
      let t : ℕ = d.route.target.number in
      let got : State = note_symbol (record st { symbols = update (redeclared d.naming) st.symbols h.symbol }) d h.symbol in
      let o : Option ℕ = get st.bindings t d.naming.name in
      ap (λ w. remembering (move_symbol w h.scope t (f d.naming.name) h.symbol (get w.bindings t (f d.naming.name))) d.route.passed (f d.naming.name) h.symbol) (finds_same (redeclared d.naming) (redeclared (declaration d).naming) (redeclared_same d) st d h.symbol)
      ∙ ap (λ w. remembering (move_symbol (state got) h.scope t (f d.naming.name) h.symbol w) d.route.passed (f d.naming.name) h.symbol) (get_same st.bindings t d.naming.name)
      ∙ ap (λ w. remembering w d.route.passed (f d.naming.name) h.symbol) (move_symbol_same got h.scope t d.naming.name h.symbol o)
      ∙ remembering_same (move_symbol got h.scope t d.naming.name h.symbol o) d.route.passed d.naming.name h.symbol

  hoist_same : (st : State) (d : Declaration) → hoist (state st) (declaration d) ≡ state (hoist st d)
  hoist_same st d =
      (λ i. hoist_by (against_all (state st) (declaration d) (asked_same st d.route.passed d.naming.name i)) (declaration d) (passed_symbol_same st d.route.passed d.naming.name i))
      ∙ ap (λ w. hoist_by w (declaration d) (passed_symbol st d.route.passed d.naming.name)) (against_all_same st d (asked_symbols st d.route.passed d.naming.name))
      ∙ hoist_by_same (against_all st d (asked_symbols st d.route.passed d.naming.name)) d (passed_symbol st d.route.passed d.naming.name)

  move_out_same : (st : State) (c t : ℕ) (x : Name) (s : ℕ) (o : Option ℕ) → move_out (state st) c t (f x) s o ≡ state (move_out st c t x s o)
  move_out_same st c t x s (Some r) = refl
  move_out_same st c t x s None = λ i. record (state st) {
    bindings = move_same st.bindings c t x i;
    symbols = update_same (in_scope t) (in_scope t) (λ y. refl) st.symbols s i;
    remembered = put_same st.remembered c x s i;
  }

  declare_by_same : (how : How) (st : State) (d : Declaration) → declare_by how (state st) (declaration d) ≡ state (declare_by how st d)
  declare_by_same plain st d =
      ap (declare_in (state st) d.route.target.number (declaration d)) (found_same st d.route.target.number d.naming.name)
      ∙ declare_in_same st d.route.target.number d (found st d.route.target.number d.naming.name)
  declare_by_same hoisted st d = hoist_same st d
  declare_by_same moved st d =
      let c : ℕ = stands_in d in
      let t : ℕ = d.route.target.number in
      let o : Option ℕ = found st c d.naming.name in
      let w : Option ℕ = get st.bindings t d.naming.name in
      (λ i. move_out (declare_in (state st) c (declaration d) (found_same st c d.naming.name i)) c t (f d.naming.name) (chosen (state st) (found_same st c d.naming.name i)) (get_same st.bindings t d.naming.name i))
      ∙ (λ i. move_out (declare_in_same st c d o i) c t (f d.naming.name) (chosen_same st o i) w)
      ∙ move_out_same (declare_in st c d o) c t d.naming.name (chosen st o) w
  declare_by_same caught st d = make_same st d.route.target.number d

  -- a take-over
  rescoped_same : (ys : List Symbol) (bs : Bindings) (c : ℕ) → rescoped (symbols ys) (map (renamed_key f) bs) c ≡ symbols (rescoped ys bs c)
  rescoped_same ys [] c = refl
  rescoped_same ys (b ∷ bs) c = ap (λ zs. rescoped zs (map (renamed_key f) bs) c) (update_same (in_scope c) (in_scope c) (λ y. refl) ys b.1) ∙ rescoped_same (update (in_scope c) ys b.1) bs c

  act_same : (st : State) (e : Event) → act (state st) (renamed_event f e) ≡ state (act st e)
  act_same st (declares d) = declare_by_same d.how st d
  act_same st (takes_over c b) = λ i. record (state st) {
    bindings = take_over_same st.bindings c b i;
    symbols = (ap (λ bs. rescoped (symbols st.symbols) bs b) (bound_by_same st.bindings c) ∙ rescoped_same st.symbols (bound_by st.bindings c) b) i;
  }
  act_same st (ends_header c) = refl

  -- what events with changed names do in order
  pub run_same : (st : State) (es : List Event) → run (state st) (map (renamed_event f) es) ≡ state (run st es)
  run_same st [] = refl
  run_same st (e ∷ es) = ap (λ w. run w (map (renamed_event f) es)) (act_same st e) ∙ run_same (act st e) es
