-- Each binding is its symbol's, no symbol is bound twice, and a name that a scope remembers is bound by its nearest var scope: the fold keeps it.
use Rattle.std.proofs.Common.{◌≡◌, ℕ, ◌≤◌, ◌==◌, List, [], ◌∷◌, ◌++◌, Option, Some, None, Bool, true, false, cond, ◌||◌, inl, inr, ◌⊎◌, refl, sym, ap, subst, ◌∙◌, length, arith}
use Rattle.std.specs.Prelude.{slice_get}
use Rattle.std.proofs.lemmas.Bool.Decides.{eqb_tells}
use Rattle.semantic_syntax.specs.Tables.{Name, Symbol, Bindings}
use Rattle.semantic_model.specs.Entries.{Among}
use Rattle.semantic_model.specs.Place.{OpenScope}
use Rattle.semantic_model.specs.Declaration.{Declaration, How, plain, hoisted, moved, caught, stands_in}
use Rattle.semantic_model.specs.Binding.{Binding, get, put, remove, move, take_over, bound_by}
use Rattle.semantic_model.specs.Event.{Event, declares, takes_over, ends_header}
use Rattle.semantic_model.specs.Fold.{State, start, update, or_else, unless_expression, flags_of, found, redeclared, united, in_scope, new_symbol, note_symbol, make, against, declare_in, chosen}
use Rattle.semantic_model.specs.Hoist.{PassedSymbol, counts, passed_symbol, passed_symbol_or, asked_symbols, against_all, remembering, move_symbol, hoist_by, hoist, move_out, declare_by, rescoped, act, run}
use Rattle.semantic_model.proofs.lists.BindingLaws.{get-put_same, get_among, among_put, among_remove, among_take_over, among_taken}
use Rattle.semantic_model.proofs.lists.SymbolLaws.{get-update, get-last}
use Rattle.semantic_model.proofs.fold.Actions.{unless_some}
use Rattle.semantic_model.proofs.bindings.VarTargets.{Leads, AllLead, IsLed, AllEventsLed}
use Rattle.semantic_model.proofs.fold.Declared.{AllEventsIn}
use Rattle.semantic_model.proofs.bindings.Owners.{IsSymbolOf, symbol_within, symbol_update, symbol_other, symbol_moved, symbol_push, one_key, AllOf, bound_times, unbound, times_remove, times_take_over, put_once, IsBound, bound_put, bound_move, bound_take_over}

-- whether a list of bindings has the symbol
abbrev has_symbol : ℕ → Bindings → Bool
has_symbol s [] = false
has_symbol s (b ∷ bs) = b.1 == s || has_symbol s bs

-- the symbols of a scope that is taken over get the other scope
rescoped_is : (ys : List Symbol) (bs : Bindings) (b s : ℕ) (y : Symbol) → slice_get ys s ≡ Some y → slice_get (rescoped ys bs b) s ≡ Some (cond (has_symbol s bs) (in_scope b y) y)
rescoped_is ys [] b s y h = h
rescoped_is ys (p ∷ bs) b s y h = go (eqb_tells p.1 s) (rescoped_is (update (in_scope b) ys p.1) bs b s)
  where
    twice : (t : Bool) → cond t (in_scope b (in_scope b y)) (in_scope b y) ≡ in_scope b y
    twice true = refl
    twice false = refl

    go : ((p.1 == s ≡ true) × (p.1 ≡ s)) ⊎ ((p.1 == s ≡ false) × (p.1 ≡ s → ⊥)) → ((z : Symbol) → slice_get (update (in_scope b) ys p.1) s ≡ Some z → slice_get (rescoped (update (in_scope b) ys p.1) bs b) s ≡ Some (cond (has_symbol s bs) (in_scope b z) z)) → slice_get (rescoped (update (in_scope b) ys p.1) bs b) s ≡ Some (cond (p.1 == s || has_symbol s bs) (in_scope b y) y)
    go (inl e) later = rw e.0 (later (in_scope b y) (rw (get-update (in_scope b) ys p.1 s, e.0, h) refl) ∙ ap Some (twice (has_symbol s bs)))
    go (inr e) later = rw e.0 (later y (rw (get-update (in_scope b) ys p.1 s, e.0) h))

-- a scope's symbols are those of its entries
has_bound : (bs : List Binding) (c : ℕ) (e : Binding) → Among e bs → e.scope ≡ c → has_symbol e.symbol (bound_by bs c) ≡ true
has_bound [] c e a k = absurd a
has_bound (w ∷ bs) c e a k = go (eqb_tells w.scope c) a (λ q. has_bound bs c e q k)
  where
    go : ((w.scope == c ≡ true) × (w.scope ≡ c)) ⊎ ((w.scope == c ≡ false) × (w.scope ≡ c → ⊥)) → Among e (w ∷ bs) → (Among e bs → has_symbol e.symbol (bound_by bs c) ≡ true) → has_symbol e.symbol (cond (w.scope == c) ((w.name, w.symbol) ∷ bound_by bs c) (bound_by bs c)) ≡ true
    go (inl i) (inl q) later = rw i.0 (elim (eqb_tells w.symbol e.symbol) [ inl j ↦ rw j.0 refl | inr j ↦ absurd (j.1 (ap (λ z. z.symbol) q)) ])
    go (inr i) (inl q) later = absurd (i.1 (ap (λ z. z.scope) q ∙ k))
    go (inl i) (inr q) later = rw (i.0, later q) (elim (w.symbol == e.symbol) as (λ t. (t || true) ≡ true) [ true ↦ refl | false ↦ refl ])
    go (inr i) (inr q) later = rw i.0 (later q)

entry_of_symbol : (bs : List Binding) (c s : ℕ) → has_symbol s (bound_by bs c) ≡ true → (e : Binding) × Among e bs × (e.scope ≡ c) × (e.symbol ≡ s)
entry_of_symbol [] c s h = absurd cc
entry_of_symbol (w ∷ bs) c s h = go (eqb_tells w.scope c) (eqb_tells w.symbol s) (entry_of_symbol bs c s) h
  where
    more : (e : Binding) × Among e bs × (e.scope ≡ c) × (e.symbol ≡ s) → (e : Binding) × Among e (w ∷ bs) × (e.scope ≡ c) × (e.symbol ≡ s)
    more k = (k.0, inr k.1, k.2, k.3)

    go : ((w.scope == c ≡ true) × (w.scope ≡ c)) ⊎ ((w.scope == c ≡ false) × (w.scope ≡ c → ⊥)) → ((w.symbol == s ≡ true) × (w.symbol ≡ s)) ⊎ ((w.symbol == s ≡ false) × (w.symbol ≡ s → ⊥)) → (has_symbol s (bound_by bs c) ≡ true → (e : Binding) × Among e bs × (e.scope ≡ c) × (e.symbol ≡ s)) → has_symbol s (cond (w.scope == c) ((w.name, w.symbol) ∷ bound_by bs c) (bound_by bs c)) ≡ true → (e : Binding) × Among e (w ∷ bs) × (e.scope ≡ c) × (e.symbol ≡ s)
    go (inl i) (inl j) later q = (w, inl refl, i.1, j.1)
    go (inl i) (inr j) later q = more (later (rw (i.0, j.0) at q))
    go (inr i) j later q = more (later (rw i.0 at q))

-- what holds of a binding outside of a scope that is taken over
symbol_stays : (ys : List Symbol) (bs : List Binding) (c b : ℕ) (e : Binding) → AllOf ys bs → Among e bs → (e.scope ≡ c → ⊥) → IsSymbolOf (rescoped ys (bound_by bs c) b) e.scope e.name e.symbol
symbol_stays ys bs c b e h a n = go (has_symbol e.symbol (bound_by bs c)) refl (h e a)
  where
    go : (t : Bool) → has_symbol e.symbol (bound_by bs c) ≡ t → IsSymbolOf ys e.scope e.name e.symbol → IsSymbolOf (rescoped ys (bound_by bs c) b) e.scope e.name e.symbol
    go true q k =
        let (w, i, j, l) = entry_of_symbol bs c e.symbol q in
        absurd (n ((one_key ys e.scope w.scope e.name w.name e.symbol k (subst (IsSymbolOf ys w.scope w.name) l (h w i))).0 ∙ j))
    go false q k = record { symbol = k.symbol; is_there = rescoped_is ys (bound_by bs c) b e.symbol k.symbol k.is_there ∙ ap (λ t. Some (cond t (in_scope b k.symbol) k.symbol)) q; named = k.named; stands = k.stands }

symbol_taken : (ys : List Symbol) (bs : List Binding) (c b : ℕ) (e : Binding) → AllOf ys bs → Among e bs → e.scope ≡ c → IsSymbolOf (rescoped ys (bound_by bs c) b) b e.name e.symbol
symbol_taken ys bs c b e h a k =
    let w : IsSymbolOf ys e.scope e.name e.symbol = h e a in
    record { symbol = in_scope b w.symbol; is_there = rescoped_is ys (bound_by bs c) b e.symbol w.symbol w.is_there ∙ ap (λ t. Some (cond t (in_scope b w.symbol) w.symbol)) (has_bound bs c e a k); named = w.named; stands = refl }

module _ (v : ℕ → ℕ) (table : List (Option ℕ)) (root : slice_get table 0 ≡ Some None) where
  -- a remembered name is bound where the nearest var scope of its scope is
  pub record IsBacked (bs : List Binding) (e : Binding) : Type 0 where
    pub var : ℕ
    pub leads : Leads v table e.scope var
    pub bound : IsBound bs var e.name

  pub record Kept (st : State) : Type 0 where
    pub owned : AllOf st.symbols st.bindings
    pub once : (s : ℕ) → bound_times s st.bindings ≤ 1
    pub backed : (e : Binding) → Among e st.remembered → IsBacked st.bindings e

  pub kept_start : Kept start
  kept_start = record { owned = λ e a. absurd a; once = λ s. omega arith; backed = λ e a. absurd a }

  more_backed : (bs cs : List Binding) (e : Binding) → ((d : ℕ) (y : Name) → v d ≡ d → slice_get table d ≡ Some None → IsBound bs d y → IsBound cs d y) → IsBacked bs e → IsBacked cs e
  more_backed bs cs e more h = record { var = h.var; leads = h.leads; bound = more h.var e.name h.leads.itself h.leads.lasts h.bound }

  kept_make : (st : State) (c : ℕ) (d : Declaration) → Kept st → Kept (make st c d)
  kept_make st c d h =
      let n : ℕ = length st.symbols in
      record {
        owned = λ e a. elim (among_put e st.bindings c d.naming.name n a) [
          | inl k ↦ symbol_push st.symbols (new_symbol c d.naming) e.scope e.name e.symbol (h.owned e k)
          | inr k ↦ record { symbol = new_symbol c d.naming; is_there = ap (slice_get (st.symbols ++ new_symbol c d.naming ∷ [])) k.2 ∙ get-last st.symbols (new_symbol c d.naming); named = sym k.1; stands = sym k.0 }
        ];
        once = λ s. put_once s st.bindings c d.naming.name n (unbound n st.bindings (λ e a q. absurd (omega (arith, symbol_within st.symbols e.scope e.name e.symbol (h.owned e a), q)))) (h.once s);
        backed = λ e a. more_backed st.bindings (put st.bindings c d.naming.name n) e (λ t y i l k. bound_put st.bindings c d.naming.name n t y k) (h.backed e a);
      }

  -- a symbol of the same name and scope
  kept_finds : (f : Symbol → Symbol) (st : State) (d : Declaration) (s : ℕ) → ((y : Symbol) → ((f y).name ≡ y.name) × ((f y).scope ≡ y.scope)) → Kept st → Kept (note_symbol (record st { symbols = update f st.symbols s }) d s)
  kept_finds f st d s keeps h = record { owned = λ e a. symbol_update f st.symbols s e.scope e.name e.symbol keeps (h.owned e a); once = h.once; backed = h.backed }

  kept_against : (st : State) (d : Declaration) (s : ℕ) → Kept st → Kept (against st d s)
  kept_against st d s h = record { owned = h.owned; once = h.once; backed = h.backed }

  kept_against_all : (st : State) (d : Declaration) (ss : List ℕ) → Kept st → Kept (against_all st d ss)
  kept_against_all st d [] h = h
  kept_against_all st d (s ∷ ss) h = kept_against_all (against st d s) d ss (kept_against st d s h)

  kept_declare_in : (st : State) (c : ℕ) (d : Declaration) (o : Option ℕ) → Kept st → Kept (declare_in st c d o)
  kept_declare_in st c d None h = kept_make st c d h
  kept_declare_in st c d (Some s) h = kept_finds (λ y. united d.naming.flags (redeclared d.naming y)) (against st d s) d s (λ y. (refl, refl)) (kept_against st d s h)

  -- one more remembered name
  kept_remember : (st : State) (c : ℕ) (x : Name) (s t : ℕ) → Leads v table c t → IsBound st.bindings t x → Kept st → Kept (record st { remembered = put st.remembered c x s })
  kept_remember st c x s t l k h = record {
    owned = h.owned;
    once = h.once;
    backed = λ e a. elim (among_put e st.remembered c x s a) [
      | inl i ↦ h.backed e i
      | inr i ↦ record { var = t; leads = subst (λ m. Leads v table m t) (sym i.0) l; bound = subst (IsBound st.bindings t) (sym i.1) k }
    ];
  }

  -- the passed scopes lead to a scope that binds the name
  kept_remembering : (st : State) (cs : List OpenScope) (x : Name) (s t : ℕ) → AllLead v table cs t → (v t ≡ t → IsBound st.bindings t x) → Kept st → Kept (remembering st cs x s)
  kept_remembering st [] x s t l k h = h
  kept_remembering st (c ∷ cs) x s t l k h = kept_remembering (record st { remembered = put st.remembered c.number x s }) cs x s t l.1 k (kept_remember st c.number x s t l.0 (k l.0.itself) h)

  -- what is found in a scope is bound there, or the name is bound where that leads
  found_where : (st : State) (c : ℕ) (x : Name) (s : ℕ) → found st c x ≡ Some s → (get st.bindings c x ≡ Some s) ⊎ (get st.remembered c x ≡ Some s)
  found_where st c x s e = go (get st.bindings c x) refl e
    where
      go : (o : Option ℕ) → get st.bindings c x ≡ o → unless_expression (flags_of st) (or_else o (get st.remembered c x)) ≡ Some s → (get st.bindings c x ≡ Some s) ⊎ (get st.remembered c x ≡ Some s)
      go (Some r) g f = inl (g ∙ unless_some st (Some r) s f)
      go None g f = inr (unless_some st (get st.remembered c x) s f)

  found_leads : (st : State) (c : ℕ) (x : Name) (s t : ℕ) → v c ≡ t → Kept st → found st c x ≡ Some s → (get st.bindings c x ≡ Some s) ⊎ IsBound st.bindings t x
  found_leads st c x s t n h e = elim (found_where st c x s e) [
    | inl g ↦ inl g
    | inr g ↦ (let w : IsBacked st.bindings (record { scope = c; name = x; symbol = s }) = h.backed (record { scope = c; name = x; symbol = s }) (get_among st.remembered c x s g) in
        inr (subst (λ m. IsBound st.bindings m x) (sym w.leads.near ∙ n) w.bound))
  ]

  declared_bound : (st : State) (c : ℕ) (d : Declaration) (o : Option ℕ) → found st c d.naming.name ≡ o → v c ≡ c → Kept st → IsBound (declare_in st c d o).bindings c d.naming.name
  declared_bound st c d None e n h = (length st.symbols, get-put_same st.bindings c d.naming.name (length st.symbols))
  declared_bound st c d (Some s) e n h = elim (found_leads st c d.naming.name s c n h e) [ inl g ↦ (s, g) | inr k ↦ k ]

  -- a binding moves out
  kept_moves : (st : State) (c t : ℕ) (x : Name) (s : ℕ) → get st.bindings c x ≡ Some s → v c ≡ t → Kept st → Kept (record st { bindings = put (remove st.bindings c x) t x s; symbols = update (in_scope t) st.symbols s })
  kept_moves st c t x s g n h =
      let mine : IsSymbolOf st.symbols c x s = h.owned (record { scope = c; name = x; symbol = s }) (get_among st.bindings c x s g) in
      let w : IsSymbolOf (update (in_scope t) st.symbols s) t x s = symbol_moved st.symbols c t x s mine in
      record {
        owned = λ e a. elim (among_put e (remove st.bindings c x) t x s a) [
          | inl k ↦ (let r : Among e st.bindings × ((e.scope ≡ c) × (e.name ≡ x) → ⊥) = among_remove e st.bindings c x k in
              symbol_other (in_scope t) st.symbols s e.scope e.name e.symbol (λ q. r.1 (one_key st.symbols e.scope c e.name x e.symbol (h.owned e r.0) (subst (IsSymbolOf st.symbols c x) q mine))) (h.owned e r.0))
          | inr k ↦ record { symbol = w.symbol; is_there = ap (slice_get (update (in_scope t) st.symbols s)) k.2 ∙ w.is_there; named = w.named ∙ sym k.1; stands = w.stands ∙ sym k.0 }
        ];
        once = λ r. put_once r (remove st.bindings c x) t x s
            (unbound s (remove st.bindings c x) (λ e a q. let k : Among e st.bindings × ((e.scope ≡ c) × (e.name ≡ x) → ⊥) = among_remove e st.bindings c x a in
            k.1 (one_key st.symbols e.scope c e.name x s (subst (IsSymbolOf st.symbols e.scope e.name) q (h.owned e k.0)) mine)))
            (omega (arith, times_remove r st.bindings c x, h.once r));
        backed = λ e a. more_backed st.bindings (put (remove st.bindings c x) t x s) e (λ d y i l k. bound_move st.bindings c t x s d y (λ q. sym n ∙ ap v q.0 ∙ i) k) (h.backed e a);
      }

  record Moved (st : State) (t : ℕ) (x : Name) : Type 0 where
    kept : Kept st
    bound : IsBound st.bindings t x

  kept_move_symbol : (st : State) (c t : ℕ) (x : Name) (s : ℕ) (o : Option ℕ) → get st.bindings t x ≡ o → (get st.bindings c x ≡ Some s) ⊎ IsBound st.bindings t x → v c ≡ t → Kept st → Moved (move_symbol st c t x s o) t x
  kept_move_symbol st c t x s (Some r) e f n h = record { kept = h; bound = (r, e) }
  kept_move_symbol st c t x s None e (inl g) n h = record { kept = kept_moves st c t x s g n h; bound = (s, get-put_same (remove st.bindings c x) t x s) }
  kept_move_symbol st c t x s None e (inr k) n h = let q : None ≡ Some k.0 = sym e ∙ k.1 in absurd cc

  -- `var`
  record LedPassedSymbol (st : State) (x : Name) (t : ℕ) (h : PassedSymbol) : Type 0 where
    near : v h.scope ≡ t
    is_found : found st h.scope x ≡ Some h.symbol

  led_passed_symbol : (st : State) (x : Name) (t : ℕ) (cs : List OpenScope) (h : PassedSymbol) → AllLead v table cs t → passed_symbol st cs x ≡ Some h → LedPassedSymbol st x t h
  led_passed_symbol st x t [] h a e = absurd cc
  led_passed_symbol st x t (c ∷ cs) h a e = go (counts st (found st c.number x)) (found st c.number x) refl e (led_passed_symbol st x t cs h a.1)
    where
      go : (b : Bool) (o : Option ℕ) → found st c.number x ≡ o → cond b (passed_symbol_or c.number o) (passed_symbol st cs x) ≡ Some h → (passed_symbol st cs x ≡ Some h → LedPassedSymbol st x t h) → LedPassedSymbol st x t h
      go false o f q later = later q
      go true None f q later = absurd cc
      go true (Some s) f q later =
          let i : record { scope = c.number; symbol = s } ≡ h = cc in
          subst (LedPassedSymbol st x t) i (record { near = a.0.near; is_found = f })

  bindings_against : (st : State) (d : Declaration) (ss : List ℕ) → (against_all st d ss).bindings ≡ st.bindings
  bindings_against st d [] = refl
  bindings_against st d (s ∷ ss) = bindings_against (against st d s) d ss

  kept_hoist_by : (st : State) (d : Declaration) (o : Option PassedSymbol) → AllLead v table d.route.passed d.route.target.number → ((h : PassedSymbol) → o ≡ Some h → (v h.scope ≡ d.route.target.number) × ((get st.bindings h.scope d.naming.name ≡ Some h.symbol) ⊎ IsBound st.bindings d.route.target.number d.naming.name)) → Kept st → Kept (hoist_by st d o)
  kept_hoist_by st d None l f h =
      let t : ℕ = d.route.target.number in
      let o : Option ℕ = found st t d.naming.name in
      kept_remembering (declare_in st t d o) d.route.passed d.naming.name (chosen st o) t l (λ n. declared_bound st t d o refl n h) (kept_declare_in st t d o h)
  kept_hoist_by st d (Some r) l f h =
      let t : ℕ = d.route.target.number in
      let got : State = note_symbol (record st { symbols = update (redeclared d.naming) st.symbols r.symbol }) d r.symbol in
      let w : Moved (move_symbol got r.scope t d.naming.name r.symbol (get st.bindings t d.naming.name)) t d.naming.name =
      kept_move_symbol got r.scope t d.naming.name r.symbol (get st.bindings t d.naming.name) refl (f r refl).1 (f r refl).0 (kept_finds (redeclared d.naming) st d r.symbol (λ y. (refl, refl)) h) in
      kept_remembering (move_symbol got r.scope t d.naming.name r.symbol (get st.bindings t d.naming.name)) d.route.passed d.naming.name r.symbol t l (λ n. w.bound) w.kept

  kept_hoist : (st : State) (d : Declaration) → AllLead v table d.route.passed d.route.target.number → Kept st → Kept (hoist st d)
  kept_hoist st d l h =
      let ss : List ℕ = asked_symbols st d.route.passed d.naming.name in
      kept_hoist_by (against_all st d ss) d (passed_symbol st d.route.passed d.naming.name) l
      (λ r e. let w : LedPassedSymbol st d.naming.name d.route.target.number r = led_passed_symbol st d.naming.name d.route.target.number d.route.passed r l e in
      (w.near, subst (λ bs. (get bs r.scope d.naming.name ≡ Some r.symbol) ⊎ IsBound bs d.route.target.number d.naming.name) (sym (bindings_against st d ss)) (found_leads st r.scope d.naming.name r.symbol d.route.target.number w.near h w.is_found)))
      (kept_against_all st d ss h)

  -- block functions
  moved_is : (bs : List Binding) (c t : ℕ) (x : Name) (s : ℕ) → get bs c x ≡ Some s → move bs c t x ≡ put (remove bs c x) t x s
  moved_is bs c t x s g = rw (g, move) refl

  kept_move_out : (st : State) (c t : ℕ) (x : Name) (s : ℕ) (o : Option ℕ) → Leads v table c t → (o ≡ None → get st.bindings c x ≡ Some s) → Kept st → Kept (move_out st c t x s o)
  kept_move_out st c t x s (Some r) l g h = h
  kept_move_out st c t x s None l g h =
      let q : Kept (record st { bindings = put (remove st.bindings c x) t x s; symbols = update (in_scope t) st.symbols s }) = kept_moves st c t x s (g refl) l.near h in
      let w : Kept (record st { bindings = move st.bindings c t x; symbols = update (in_scope t) st.symbols s }) = subst (λ bs. Kept (record st { bindings = bs; symbols = update (in_scope t) st.symbols s })) (sym (moved_is st.bindings c t x s (g refl))) q in
      kept_remember (record st { bindings = move st.bindings c t x; symbols = update (in_scope t) st.symbols s }) c x s t l
      (s, ap (λ bs. get bs t x) (moved_is st.bindings c t x s (g refl)) ∙ get-put_same (remove st.bindings c x) t x s) w

  -- a function that is to move is bound in its block
  bound_in_block : (st : State) (d : Declaration) (c t : ℕ) (o : Option ℕ) → found st c d.naming.name ≡ o → v c ≡ t → get st.bindings t d.naming.name ≡ None → Kept st → get (declare_in st c d o).bindings c d.naming.name ≡ Some (chosen st o)
  bound_in_block st d c t None e n g h = get-put_same st.bindings c d.naming.name (length st.symbols)
  bound_in_block st d c t (Some s) e n g h = elim (found_leads st c d.naming.name s t n h e) [
    | inl k ↦ k
    | inr k ↦ (let q : None ≡ Some k.0 = sym g ∙ k.1 in absurd cc)
  ]

  kept_by : (how : How) (st : State) (d : Declaration) → IsLed v table how d.route → Kept st → Kept (declare_by how st d)
  kept_by plain st d l h = kept_declare_in st d.route.target.number d (found st d.route.target.number d.naming.name) h
  kept_by hoisted st d l h = kept_hoist st d l h
  kept_by moved st d l h =
      let c : ℕ = stands_in d in
      let t : ℕ = d.route.target.number in
      let o : Option ℕ = found st c d.naming.name in
      kept_move_out (declare_in st c d o) c t d.naming.name (chosen st o) (get st.bindings t d.naming.name) l (λ g. bound_in_block st d c t o refl l.near g h) (kept_declare_in st c d o h)
  kept_by caught st d l h = kept_make st d.route.target.number d h

  -- a take-over
  kept_take : (st : State) (c b : ℕ) → slice_get table c ≡ Some (Some b) → slice_get table b ≡ Some None → Kept st → Kept (act st (takes_over c b))
  kept_take st c b i j h = record {
    owned = λ e a. elim (among_take_over e st.bindings c b a) [
      | inl k ↦ symbol_stays st.symbols st.bindings c b e h.owned k (among_taken e st.bindings c b (apart b j) a)
      | inr k ↦ subst (λ m. IsSymbolOf (rescoped st.symbols (bound_by st.bindings c) b) m e.name e.symbol) (sym k.0) (symbol_taken st.symbols st.bindings c b (record e { scope = c }) h.owned k.1 refl)
    ];
    once = λ s. omega (arith, times_take_over s st.bindings c b, h.once s);
    backed = λ e a. more_backed st.bindings (take_over st.bindings c b) e (λ d y n l k. bound_take_over st.bindings c b d y (λ q. apart d l (sym q)) k) (h.backed e a);
  }
    where
      apart : (d : ℕ) → slice_get table d ≡ Some None → c ≡ d → ⊥
      apart d l q = let w : Some (Some b) ≡ Some None = sym i ∙ ap (slice_get table) q ∙ l in absurd cc

  kept_run : (st : State) (es : List Event) → AllEventsLed v table es → AllEventsIn table root es → Kept st → Kept (run st es)
  kept_run st [] l i h = h
  kept_run st (declares d ∷ es) l i h = kept_run (act st (declares d)) es l.1 i.1 (kept_by d.how st d l.0 h)
  kept_run st (takes_over c b ∷ es) l i h = kept_run (act st (takes_over c b)) es l i.1 (kept_take st c b i.0.0 i.0.1 h)
  kept_run st (ends_header c ∷ es) l i h = kept_run st es l i.1 h

  pub kept_events : (es : List Event) → AllEventsLed v table es → AllEventsIn table root es → Kept (run start es)
  kept_events es l i = kept_run start es l i kept_start
