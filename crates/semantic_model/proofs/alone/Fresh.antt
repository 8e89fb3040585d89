-- A declaration that meets none before it gets a new symbol, bound at its target alone.
use Rattle.std.proofs.Common.{◌≡◌, ℕ, ◌+◌, ◌==◌, ◌∙◌, cond, ◌<◌, List, [], ◌∷◌, length, refl, sym, subst, Some, None, Option, true, inl, inr, arith}
use Rattle.std.proofs.lemmas.Bool.Decides.{eqb_tells}
use Rattle.semantic_model.specs.Place.{OpenScope}
use Rattle.semantic_model.specs.Entries.{Among}
use Rattle.semantic_model.specs.Binding.{Binding, get, remove, move}
use Rattle.semantic_model.specs.Declaration.{Declaration, How, plain, hoisted, moved, caught, path, Meets, stands_in}
use Rattle.semantic_syntax.specs.Members.{contains}
use Rattle.semantic_model.specs.Event.{declares}
use Rattle.semantic_model.specs.Fold.{State, Made, make, new_symbol, in_scope, found}
use Rattle.semantic_model.specs.Hoist.{passed_symbol, asked_symbols, move_out, remembering, declare_by, act}
use Rattle.semantic_model.proofs.lists.Members.{among_more}
use Rattle.semantic_model.proofs.lists.BindingLaws.{get_among, get-put_same, among_put, among_remove}
use Rattle.semantic_model.proofs.lists.SymbolLaws.{get-update, get-last, get_within}
use Rattle.semantic_model.proofs.fold.Changes.{Sits, at_target, at_block, on_path, Holds, Has, has_held, HasName, Sound}
use Rattle.semantic_model.proofs.fold.Actions.{AllIn, passed_on_path, has_found, StandsInBlock}
use Rattle.semantic_model.proofs.alone.Alone.{Own, symbol_times, times_more}

-- d meets no declaration that was made
abbrev pub MeetsNone : Declaration → List Made → Type 0
MeetsNone d ms = (m : Made) → Among m ms → Meets d m.declaration → ⊥

never_has : (ms : List Made) (d : Declaration) (c r : ℕ) → MeetsNone d ms → contains (path d) c ≡ true → Has ms c d.naming.name r → ⊥
never_has ms d c r n p h = n h.made h.among (record { same_name = sym h.named; shared = c; on_left = p; on_right = h.on_path })

nothing_found : (table : List (Option ℕ)) (st : State) (d : Declaration) (c : ℕ) → Sound table st → MeetsNone d st.made → contains (path d) c ≡ true → found st c d.naming.name ≡ None
nothing_found table st d c h n p = go (found st c d.naming.name) refl
  where
    go : (o : Option ℕ) → found st c d.naming.name ≡ o → found st c d.naming.name ≡ None
    go None e = e
    go (Some r) e = absurd (never_has st.made d c r n p (has_found table st c d.naming.name r h e))

nothing_bound : (table : List (Option ℕ)) (st : State) (d : Declaration) (c : ℕ) → Sound table st → MeetsNone d st.made → contains (path d) c ≡ true → get st.bindings c d.naming.name ≡ None
nothing_bound table st d c h n p = go (get st.bindings c d.naming.name) refl
  where
    go : (o : Option ℕ) → get st.bindings c d.naming.name ≡ o → get st.bindings c d.naming.name ≡ None
    go None e = e
    go (Some r) e = absurd (never_has st.made d c r n p (has_held table st.made c d.naming.name r (h.bound (record { scope = c; name = d.naming.name; symbol = r }) (get_among st.bindings c d.naming.name r e))))

no_passed_symbol : (table : List (Option ℕ)) (st : State) (d : Declaration) (cs : List OpenScope) → Sound table st → MeetsNone d st.made → AllIn (path d) cs → passed_symbol st cs d.naming.name ≡ None
no_passed_symbol table st d [] h n a = refl
no_passed_symbol table st d (c ∷ cs) h n a = rw (nothing_found table st d c.number h n a.0) (no_passed_symbol table st d cs h n a.1)

none_asked : (table : List (Option ℕ)) (st : State) (d : Declaration) (cs : List OpenScope) → Sound table st → MeetsNone d st.made → AllIn (path d) cs → asked_symbols st cs d.naming.name ≡ []
none_asked table st d [] h n a = refl
none_asked table st d (c ∷ cs) h n a = rw (nothing_found table st d c.number h n a.0) (none_asked table st d cs h n a.1)

-- each bound symbol exists
pub bound_within : (table : List (Option ℕ)) (st : State) (e : Binding) → Sound table st → Among e st.bindings → e.symbol < length st.symbols
bound_within table st e h a =
    let t : Holds table st.made e.scope e.name e.symbol = h.bound e a in
    let n : HasName st.symbols t.made.symbol t.made.declaration.naming.name = h.has_name t.made t.among in
    subst (λ s. s < length st.symbols) t.symbol (get_within st.symbols t.made.symbol n.symbol n.is_there)

own_make : (table : List (Option ℕ)) (st : State) (d : Declaration) (c : ℕ) → Sound table st → MeetsNone d st.made → Sits table d c → Own table d (length st.symbols) c (make st c d)
own_make table st d c h n p = record {
  sits = p;
  others = λ m a. elim (among_more m (record { declaration = d; symbol = length st.symbols }) st.made a) [
    | inl b ↦ inr (
      n m b,
      λ i. let k : HasName st.symbols m.symbol m.declaration.naming.name = h.has_name m b in
          let w : m.symbol < length st.symbols = get_within st.symbols m.symbol k.symbol k.is_there in omega arith,
    )
    | inr q ↦ inl (sym q)
  ];
  once = times_more (length st.symbols) st.made (record { declaration = d; symbol = length st.symbols }) ∙ new_once;
  symbol = get-last st.symbols (new_symbol c d.naming);
  binds = get-put_same st.bindings c d.naming.name (length st.symbols);
  only = λ e a i. elim (among_put e st.bindings c d.naming.name (length st.symbols) a) [
    | inl k ↦ (let w : e.symbol < length st.symbols = bound_within table st e h k in absurd (omega arith))
    | inr k ↦ (k.0, k.1)
  ];
}
  where
    none_of : (ms : List Made) → ((m : Made) → Among m ms → m.symbol < length st.symbols) → symbol_times (length st.symbols) ms ≡ 0
    none_of [] k = refl
    none_of (m ∷ ms) k = elim (eqb_tells m.symbol (length st.symbols)) [
      | inl q ↦ (let w : m.symbol < length st.symbols = k m (inl refl) in absurd (omega (arith, q.1)))
      | inr q ↦ rw q.0 (omega (arith, none_of ms (λ x a. k x (inr a))))
    ]

    new_once : symbol_times (length st.symbols) st.made + cond (length st.symbols == length st.symbols) 1 0 ≡ 1
    new_once = elim (eqb_tells (length st.symbols) (length st.symbols)) [
      | inl q ↦ rw q.0 (omega (arith, none_of st.made (λ m a. let k : HasName st.symbols m.symbol m.declaration.naming.name = h.has_name m a in get_within st.symbols m.symbol k.symbol k.is_there)))
      | inr q ↦ absurd (q.1 refl)
    ]

own_remembering : (table : List (Option ℕ)) (d : Declaration) (s h : ℕ) (st : State) (cs : List OpenScope) (r : ℕ) → Own table d s h st → Own table d s h (remembering st cs d.naming.name r)
own_remembering table d s h st cs r o = record { sits = o.sits; others = o.others; once = o.once; symbol = o.symbol; binds = o.binds; only = o.only }

own_move_out : (table : List (Option ℕ)) (d : Declaration) (s c : ℕ) (st : State) → Own table d s c st → Own table d s d.route.target.number (move_out st c d.route.target.number d.naming.name s None)
own_move_out table d s c st o = record {
  sits = at_target refl;
  others = o.others;
  once = o.once;
  symbol = elim (eqb_tells s s) [ inl k ↦ rw (get-update (in_scope d.route.target.number) st.symbols s s, k.0, o.symbol) refl | inr k ↦ absurd (k.1 refl) ];
  binds = rw (o.binds, move) (get-put_same (remove st.bindings c d.naming.name) d.route.target.number d.naming.name s);
  only = rw (o.binds, move) (λ e a i. elim (among_put e (remove st.bindings c d.naming.name) d.route.target.number d.naming.name s a) [
    | inl k ↦ (let r : Among e st.bindings × ((e.scope ≡ c) × (e.name ≡ d.naming.name) → ⊥) = among_remove e st.bindings c d.naming.name k in absurd (r.1 (o.only e r.0 i)))
    | inr k ↦ (k.0, k.1)
  ]);
}

own_by : (table : List (Option ℕ)) (how : How) (st : State) (d : Declaration) → StandsInBlock table how d → Sound table st → MeetsNone d st.made → Own table d (length st.symbols) d.route.target.number (declare_by how st d)
own_by table plain st d b h n = rw (nothing_found table st d d.route.target.number h n (on_path table d d.route.target.number (at_target refl))) (own_make table st d d.route.target.number h n (at_target refl))
own_by table hoisted st d b h n =
    rw (none_asked table st d d.route.passed h n (passed_on_path d), no_passed_symbol table st d d.route.passed h n (passed_on_path d), nothing_found table st d d.route.target.number h n (on_path table d d.route.target.number (at_target refl)))
    (own_remembering table d (length st.symbols) d.route.target.number (make st d.route.target.number d) d.route.passed (length st.symbols) (own_make table st d d.route.target.number h n (at_target refl)))
own_by table moved st d b h n =
    rw (nothing_found table st d (stands_in d) h n (on_path table d (stands_in d) (at_block refl b)), nothing_bound table st d d.route.target.number h n (on_path table d d.route.target.number (at_target refl)))
    (own_move_out table d (length st.symbols) (stands_in d) (make st (stands_in d) d) (own_make table st d (stands_in d) h n (at_block refl b)))
own_by table caught st d b h n = own_make table st d d.route.target.number h n (at_target refl)

-- a declaration that meets none before it is new
pub own_declare : (table : List (Option ℕ)) (st : State) (d : Declaration) → StandsInBlock table d.how d → Sound table st → MeetsNone d st.made → Own table d (length st.symbols) d.route.target.number (act st (declares d))
own_declare table st d b h n = own_by table d.how st d b h n
