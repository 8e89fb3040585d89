-- What is bound and remembered of a name whose declarations keep clear of each other.
use Rattle.std.proofs.Common.{◌≡◌, ℕ, suc, ◌<◌, ◌≤◌, List, Option, Some, None, Bool, true, false, inl, inr, ◌⊎◌, refl, sym, ap, subst, ◌∙◌, map, arith}
use Rattle.std.specs.Prelude.{slice_get}
use Rattle.std.proofs.lemmas.Bool.Decides.{eqb_tells}
use Rattle.semantic_syntax.specs.Members.{contains}
use Rattle.semantic_syntax.specs.Sets.{meets}
use Rattle.semantic_syntax.specs.Tables.{Name}
use Rattle.semantic_syntax.specs.declared.symbol_flags.TheConstants.SymbolFlags as symbol
use Rattle.semantic_model.specs.Binding.{Binding, get, take_over, bound_by}
use Rattle.semantic_model.specs.Declaration.{Declaration, hoisted, moved, stands_in}
use Rattle.semantic_model.specs.Entries.{Among}
use Rattle.semantic_model.specs.Event.{takes_over}
use Rattle.semantic_model.specs.Fold.{State, Made, start, flags_of}
use Rattle.semantic_model.specs.Hoist.{act}
use Rattle.semantic_model.proofs.fold.TakeOvers.{Ready, two}
use Rattle.semantic_model.proofs.lists.BindingLaws.{get_among, among_taken, get-take_over_other, get-take_over_body}
use Rattle.binding_laws.proofs.Growing.{rescoped_flags}
use Rattle.binding_laws.proofs.OtherNames.{LeavesName}
use Rattle.language_ties.specs.SharedSymbols.{is_own_name}

abbrev pub is_hidden : ℕ → Bool
is_hidden flags = meets flags symbol.FunctionExpression.bits

-- each scope of the route is one of the first n
pub record RouteBelow (n : ℕ) (d : Declaration) : Type 0 where
  pub target : d.route.target.number < n
  pub passed : (c : ℕ) → contains (map (λ s. s.number) d.route.passed) c ≡ true → c < n
  pub stands : stands_in d < n

module _ (table : List (Option ℕ)) (x : Name) where
  -- the scope binds the declaration now
  abbrev pub IsNowIn : Declaration → ℕ → Type 0
  IsNowIn d c = (d.route.target.number ≡ c) ⊎ ((d.route.target.body ≡ Some c) × (slice_get table c ≡ Some None))

  -- where it is bound now, the symbol is
  abbrev pub IsBoundNow : List Binding → Declaration → ℕ → Type 0
  IsBoundNow bs d s = (get bs d.route.target.number x ≡ Some s) ⊎ ((b : ℕ) × (d.route.target.body ≡ Some b) × (slice_get table b ≡ Some None) × (get bs b x ≡ Some s))

  -- a declaration that was made is bound there with the symbol; of the scopes the first n are open to all declarations, and the first m to names of functions too
  pub record BoundBy (n m : ℕ) (ms : List Made) (c s : ℕ) : Type 0 where
    pub made : Made
    pub among : Among made ms
    pub named : made.declaration.naming.name ≡ x
    pub symbol : made.symbol ≡ s
    pub now : IsNowIn made.declaration c
    pub below : is_own_name made.declaration ≡ false → c < n
    pub opened : c < m

  -- a declaration that was made passed the scope, or moved out of it, with the symbol
  pub record RememberedBy (n : ℕ) (ms : List Made) (c s : ℕ) : Type 0 where
    pub made : Made
    pub among : Among made ms
    pub named : made.declaration.naming.name ≡ x
    pub symbol : made.symbol ≡ s
    pub left : ((made.declaration.how ≡ hoisted) × (contains (map (λ s. s.number) made.declaration.route.passed) c ≡ true)) ⊎ ((made.declaration.how ≡ moved) × (stands_in made.declaration ≡ c))
    pub visible : is_own_name made.declaration ≡ false
    pub below : c < n

  pub record Shared (n m : ℕ) (st : State) : Type 0 where
    pub bound : (c s : ℕ) → get st.bindings c x ≡ Some s → BoundBy n m st.made c s
    pub remembered : (c s : ℕ) → get st.remembered c x ≡ Some s → RememberedBy n st.made c s
    pub declared : (k : Made) → Among k st.made → k.declaration.naming.name ≡ x → is_own_name k.declaration ≡ false → IsBoundNow st.bindings k.declaration k.symbol
    pub hidden : (k : Made) → Among k st.made → k.declaration.naming.name ≡ x → is_own_name k.declaration ≡ true → (s : ℕ) × IsBoundNow st.bindings k.declaration s
    pub flags : (k : Made) → Among k st.made → k.declaration.naming.name ≡ x → is_hidden (flags_of st k.symbol) ≡ is_own_name k.declaration
    pub entries : (k : Made) → Among k st.made → k.declaration.naming.name ≡ x → slice_get table k.declaration.route.target.number ≡ Some k.declaration.route.target.body

  pub shared_start : Shared 0 0 start
  shared_start = record { bound = λ c s h. absurd cc; remembered = λ c s h. absurd cc; declared = λ k a. absurd a; hidden = λ k a. absurd a; flags = λ k a. absurd a; entries = λ k a. absurd a }

  pub bound_more : (n m k l : ℕ) (ms ns : List Made) (c s : ℕ) → n ≤ k → m ≤ l → ((y : Made) → Among y ms → Among y ns) → BoundBy n m ms c s → BoundBy k l ns c s
  bound_more n m k l ms ns c s i j f h = record { made = h.made; among = f h.made h.among; named = h.named; symbol = h.symbol; now = h.now; below = λ e. (let w : c < n = h.below e in omega arith); opened = (let w : c < m = h.opened in omega arith) }

  pub remembered_more : (n k : ℕ) (ms ns : List Made) (c s : ℕ) → n ≤ k → ((y : Made) → Among y ms → Among y ns) → RememberedBy n ms c s → RememberedBy k ns c s
  remembered_more n k ms ns c s i f h = record { made = h.made; among = f h.made h.among; named = h.named; symbol = h.symbol; left = h.left; visible = h.visible; below = (let w : c < n = h.below in omega arith) }

  pub bound_now_kept : (bs cs : List Binding) (d : Declaration) (s : ℕ) → ((c : ℕ) → get cs c x ≡ get bs c x) → IsBoundNow bs d s → IsBoundNow cs d s
  bound_now_kept bs cs d s f (inl e) = inl (f d.route.target.number ∙ e)
  bound_now_kept bs cs d s f (inr h) = inr (h.0, h.1, h.2, f h.0 ∙ h.3)

  -- what another name's declaration leaves
  pub shared_untouched : (n m k l : ℕ) (a b : State) → n ≤ k → m ≤ l → LeavesName table x a b → Shared n m a → Shared k l b
  shared_untouched n m k l a b i j u h = record {
    bound = λ c s e. bound_more n m k l a.made b.made c s i j u.kept (h.bound c s (sym (u.bindings c) ∙ e));
    remembered = λ c s e. remembered_more n k a.made b.made c s i u.kept (h.remembered c s (sym (u.remembered c) ∙ e));
    declared = λ y q e o. bound_now_kept a.bindings b.bindings y.declaration y.symbol u.bindings (h.declared y (u.older y q e) e o);
    hidden = λ y q e o. (let w : (s : ℕ) × IsBoundNow a.bindings y.declaration s = h.hidden y (u.older y q e) e o in (w.0, bound_now_kept a.bindings b.bindings y.declaration w.0 u.bindings w.1));
    flags = λ y q e. ap is_hidden (u.flags y (u.older y q e) e) ∙ h.flags y (u.older y q e) e;
    entries = λ y q e. h.entries y (u.older y q e) e;
  }

  -- ---- a body takes over a clause

  pub taken_gone : (bs : List Binding) (c b : ℕ) → (c ≡ b → ⊥) → (s : ℕ) → get (take_over bs c b) c x ≡ Some s → ⊥
  taken_gone bs c b n s h = among_taken (record { scope = c; name = x; symbol = s }) bs c b n (get_among (take_over bs c b) c x s h) refl

  module _ (n m : ℕ) (st : State) (c b : ℕ) (r : Ready table st.made c b) (i : n ≤ b) (j : m ≤ b) (h : Shared n m st) where
    nothing_yet : get st.bindings b x ≡ None
    nothing_yet = go (get st.bindings b x) refl
      where
        go : (o : Option ℕ) → get st.bindings b x ≡ o → get st.bindings b x ≡ None
        go None e = e
        go (Some s) e = let w : b < m = (h.bound b s e).opened in absurd (omega arith)

    apart : c ≡ b → ⊥
    apart = two table st.made c b r

    at_body : get (take_over st.bindings c b) b x ≡ get st.bindings c x
    at_body = get-take_over_body st.bindings c b x nothing_yet

    -- where the clause bound it, the body does
    body_now : (d : Declaration) → slice_get table d.route.target.number ≡ Some d.route.target.body → IsNowIn d c → IsNowIn d b
    body_now d e (inl q) =
        let w : Some d.route.target.body ≡ Some (Some b) = sym e ∙ subst (λ k. slice_get table k ≡ Some (Some b)) (sym q) r.clause in
        let v : d.route.target.body ≡ Some b = cc in
        inr (v, r.body)
    body_now d e (inr q) = let w : Some (Some b) ≡ Some None = sym r.clause ∙ q.1 in absurd cc

    taken_bound : (e s : ℕ) → get (take_over st.bindings c b) e x ≡ Some s → BoundBy (suc b) (suc b) st.made e s
    taken_bound e s q = elim (eqb_tells e b) [
      | inl k ↦ (let w : BoundBy n m st.made c s = h.bound c s (sym at_body ∙ subst (λ t. get (take_over st.bindings c b) t x ≡ Some s) k.1 q) in
          record { made = w.made; among = w.among; named = w.named; symbol = w.symbol; now = subst (IsNowIn w.made.declaration) (sym k.1) (body_now w.made.declaration (h.entries w.made w.among w.named) w.now); below = λ z. omega (arith, k.1); opened = omega (arith, k.1) })
      | inr k ↦ elim (eqb_tells e c) [
        | inl l ↦ absurd (taken_gone st.bindings c b apart s (subst (λ t. get (take_over st.bindings c b) t x ≡ Some s) l.1 q))
        | inr l ↦ bound_more n m (suc b) (suc b) st.made st.made e s (omega arith) (omega arith) (λ y a. a) (h.bound e s (sym (get-take_over_other st.bindings c b e x l.1 k.1) ∙ q))
      ]
    ]

    taken_now : (d : Declaration) (s : ℕ) → slice_get table d.route.target.number ≡ Some d.route.target.body → IsBoundNow st.bindings d s → IsBoundNow (take_over st.bindings c b) d s
    taken_now d s e (inl q) = elim (eqb_tells d.route.target.number c) [
      | inl k ↦ elim (body_now d e (inl k.1)) [
        | inl l ↦ absurd (apart (sym k.1 ∙ l))
        | inr l ↦ inr (b, l.0, l.1, at_body ∙ subst (λ t. get st.bindings t x ≡ Some s) k.1 q)
      ]
      | inr k ↦ elim (eqb_tells d.route.target.number b) [
        | inl l ↦ (let w : None ≡ Some s = sym nothing_yet ∙ subst (λ t. get st.bindings t x ≡ Some s) l.1 q in absurd cc)
        | inr l ↦ inl (get-take_over_other st.bindings c b d.route.target.number x k.1 l.1 ∙ q)
      ]
    ]
    taken_now d s e (inr q) = elim (eqb_tells q.0 c) [
      | inl k ↦ (let w : Some (Some b) ≡ Some None = sym r.clause ∙ subst (λ t. slice_get table t ≡ Some None) k.1 q.2 in absurd cc)
      | inr k ↦ elim (eqb_tells q.0 b) [
        | inl l ↦ (let w : None ≡ Some s = sym nothing_yet ∙ subst (λ t. get st.bindings t x ≡ Some s) l.1 q.3 in absurd cc)
        | inr l ↦ inr (q.0, q.1, q.2, get-take_over_other st.bindings c b q.0 x k.1 l.1 ∙ q.3)
      ]
    ]

    pub shared_taken : Shared (suc b) (suc b) (act st (takes_over c b))
    shared_taken = record {
      bound = taken_bound;
      remembered = λ e s q. remembered_more n (suc b) st.made st.made e s (omega arith) (λ y a. a) (h.remembered e s q);
      declared = λ k a e o. taken_now k.declaration k.symbol (h.entries k a e) (h.declared k a e o);
      hidden = λ k a e o. (let w : (s : ℕ) × IsBoundNow st.bindings k.declaration s = h.hidden k a e o in (w.0, taken_now k.declaration w.0 (h.entries k a e) w.1));
      flags = λ k a e. ap is_hidden (rescoped_flags st.symbols (bound_by st.bindings c) b k.symbol) ∙ h.flags k a e;
      entries = h.entries;
    }
