-- A declaration of the name that keeps clear of those before it shares the symbol of its scope, or begins one.
use Rattle.std.proofs.Common.{◌≡◌, ℕ, ◌<◌, ◌≤◌, ◌==◌, List, [], ◌∷◌, ◌++◌, Option, Some, None, Bool, true, false, not, inl, inr, ◌⊎◌, refl, sym, ap, subst, ◌∙◌, length, cond, map, option_map, arith}
use Rattle.std.specs.Prelude.{slice_get}
use Rattle.std.specs.Int.RustNames.{bit_and}
use Rattle.std.proofs.lemmas.Bool.{cases_Bool}
use Rattle.std.proofs.lemmas.Bool.Decides.{eqb_tells}
use Rattle.std.proofs.lemmas.Nat.{and_or_apart}
use Rattle.semantic_syntax.specs.Members.{contains}
use Rattle.semantic_syntax.specs.Sets.{union}
use Rattle.semantic_syntax.specs.Tables.{Name, Symbol}
use Rattle.semantic_syntax.specs.declared.symbol_flags.TheConstants.SymbolFlags as symbol
use Rattle.semantic_model.specs.Place.{OpenScope}
use Rattle.semantic_model.specs.Binding.{Binding, get, put}
use Rattle.semantic_model.specs.Declaration.{Declaration, plain, hoisted, path, stands_in, body_list}
use Rattle.semantic_model.specs.Entries.{Among}
use Rattle.semantic_model.specs.Fold.{State, Made, Conflict, update, united, redeclared, flags_of, flags_or_none, unless_expression, or_else, found, make, note_symbol, new_symbol, against, declare_in}
use Rattle.semantic_model.specs.Hoist.{PassedSymbol, passed_symbol, against_all, remember, remembering}
use Rattle.semantic_model.proofs.fold.Actions.{AllIn, IsPassedSymbol, is_passed_symbol, unless_some, or_else_some}
use Rattle.semantic_model.proofs.fold.Changes.{HasName, Sound}
use Rattle.semantic_model.proofs.bindings.VarTargets.{Leads, AllLead, IsLed}
use Rattle.semantic_model.proofs.lists.BindingLaws.{same_key_tells, get-put, get-put_same, get-put_other}
use Rattle.semantic_model.proofs.lists.Members.{among_left, among_last, among_more, contains_left, contains_right, contains_first}
use Rattle.semantic_model.proofs.lists.SymbolLaws.{get-update, get-last}
use Rattle.binding_laws.proofs.Growing.{pushed_flags}
use Rattle.binding_laws.proofs.SmallLaws.{none_if}
use Rattle.language_ties.specs.SharedSymbols.{is_own_name, IsBoundIn, KeepClear}
use Rattle.language_ties.proofs.shared.Shared.{is_hidden, RouteBelow, IsNowIn, IsBoundNow, BoundBy, RememberedBy, Shared, bound_more, remembered_more}

-- a flag that the added ones have not
union_apart : (a b : ℕ) → is_hidden b ≡ false → is_hidden (union a b) ≡ is_hidden a
union_apart a b h = ap (λ n. not (n == 0)) (and_or_apart symbol.FunctionExpression.bits a b (zero_of (bit_and b symbol.FunctionExpression.bits) h))
  where
    zero_of : (n : ℕ) → not (n == 0) ≡ false → n ≡ 0
    zero_of n e = elim (eqb_tells n 0) [ inl k ↦ k.1 | inr k ↦ (let w : true ≡ false = sym (ap not k.0) ∙ e in absurd cc) ]

-- what is known of a declaration besides: where it stands among the scopes, and that the names of functions hide behind no other way
pub record IsFit (table : List (Option ℕ)) (n m k l : ℕ) (d : Declaration) : Type 0 where
  pub more : n ≤ k
  pub opens : m ≤ l
  pub below : is_own_name d ≡ false → RouteBelow k d
  pub within : d.route.target.number < l
  pub fresh : is_own_name d ≡ true → n ≤ d.route.target.number
  pub entry : slice_get table d.route.target.number ≡ Some d.route.target.body
  pub visible : (d.how ≡ plain → ⊥) → is_own_name d ≡ false

-- the scope where the way of a declaration begins is on its path
pub stands_on_path : (passed : List OpenScope) (d : Declaration) → d.route.passed ≡ passed → contains (path d) (stands_in d) ≡ true
stands_on_path [] d e = rw e (contains_first d.route.target.number (body_list d.route.target.body))
stands_on_path (s ∷ ss) d e = rw e (contains_first s.number (map (λ t. t.number) ss ++ d.route.target.number ∷ body_list d.route.target.body))

pub passed_stands : (d : Declaration) (c : ℕ) → contains (map (λ s. s.number) d.route.passed) c ≡ true → contains (path d) c ≡ true
passed_stands d c h = contains_left (map (λ s. s.number) d.route.passed) (d.route.target.number ∷ body_list d.route.target.body) c h

body_stands : (n c : ℕ) (o : Option ℕ) → o ≡ Some c → contains (n ∷ body_list o) c ≡ true
body_stands n c None e = absurd cc
body_stands n c (Some b) e = let q : b ≡ c = cc in subst (λ k. contains (n ∷ k ∷ []) c ≡ true) (sym q) (contains_right (n ∷ []) (c ∷ []) c (contains_first c []))

pub bound_stands : (d : Declaration) (c : ℕ) → IsBoundIn d c → contains (path d) c ≡ true
bound_stands d c (inl e) = contains_right (map (λ s. s.number) d.route.passed) (d.route.target.number ∷ body_list d.route.target.body) c (subst (λ k. contains (d.route.target.number ∷ body_list d.route.target.body) k ≡ true) e (contains_first d.route.target.number (body_list d.route.target.body)))
bound_stands d c (inr e) = contains_right (map (λ s. s.number) d.route.passed) (d.route.target.number ∷ body_list d.route.target.body) c (body_stands d.route.target.number c d.route.target.body e)

module _ (table : List (Option ℕ)) (x : Name) where
  pub now_bound : (d : Declaration) (c : ℕ) → IsNowIn table x d c → IsBoundIn d c
  now_bound d c (inl e) = inl e
  now_bound d c (inr e) = inr e.0

  -- ---- what is found

  found_bound : (st : State) (c s : ℕ) (b : Bool) → get st.bindings c x ≡ Some s → is_hidden (flags_of st s) ≡ b → found st c x ≡ cond b None (Some s)
  found_bound st c s b e f = rw (e, f) refl

  pub found_none : (st : State) (c : ℕ) → get st.bindings c x ≡ None → get st.remembered c x ≡ None → found st c x ≡ None
  found_none st c e f = rw (e, f) refl

  module _ (n m k l : ℕ) (st : State) (d : Declaration) (named : d.naming.name ≡ x) (sound : Sound table st) (h : Shared table x n m st) (fit : IsFit table n m k l d) (clear : (y : Made) → Among y st.made → y.declaration.naming.name ≡ x → KeepClear y.declaration d) where
    abbrev t : ℕ
    t = d.route.target.number

    abbrev kept : (s : ℕ) (y : Made) → Among y st.made → Among y (st.made ++ record { declaration = d; symbol = s } ∷ [])
    kept s y a = among_left y st.made (record { declaration = d; symbol = s } ∷ []) a

    -- nothing is remembered where the declaration is bound
    not_remembered : (c : ℕ) → IsBoundIn d c → get st.remembered c x ≡ None
    not_remembered c b = none_if (get st.remembered c x) (λ s e. go s (h.remembered c s e))
      where
        go : (s : ℕ) → RememberedBy table x n st.made c s → ⊥
        go s w = elim w.left [
          | inl q ↦ (clear w.made w.among w.named).0.as_variable q.0 c q.1 b
          | inr q ↦ (clear w.made w.among w.named).0.as_function q.0 (record {
            same_name = w.named ∙ sym named;
            shared = c;
            on_left = subst (λ r. contains (path w.made.declaration) r ≡ true) q.1 (stands_on_path w.made.declaration.route.passed w.made.declaration refl);
            on_right = bound_stands d c b;
          })
        ]

    -- ---- a new symbol

    -- what the scope binds is the name of a function alone
    abbrev IsHiddenIn : ℕ → Type 0
    IsHiddenIn c = (s : ℕ) → get st.bindings c x ≡ Some s → is_hidden (flags_of st s) ≡ true

    abbrev fresh_symbol : ℕ
    fresh_symbol = length st.symbols

    put_symbol : (c s e : ℕ) → get (put st.bindings c x fresh_symbol) e x ≡ Some s → ((c ≡ e) × (fresh_symbol ≡ s)) ⊎ ((c ≡ e → ⊥) × (get st.bindings e x ≡ Some s))
    put_symbol c s e q = elim (same_key_tells c e x x) [
      | inl w ↦ (let v : Some fresh_symbol ≡ Some s = sym (get-put st.bindings c x fresh_symbol e x ∙ rw w.0 refl) ∙ q in inl (w.1, cc))
      | inr w ↦ inr ((λ z. w.1 (z, refl)), sym (get-put_other st.bindings c x fresh_symbol e x w.0) ∙ q)
    ]

    put_apart : (c e : ℕ) → (c ≡ e → ⊥) → get (put st.bindings c x fresh_symbol) e x ≡ get st.bindings e x
    put_apart c e z = elim (same_key_tells c e x x) [ inl w ↦ absurd (z w.1) | inr w ↦ get-put_other st.bindings c x fresh_symbol e x w.0 ]

    -- a symbol that isn't hidden stays where it is
    stays_bound : (e s : ℕ) → IsHiddenIn t → is_hidden (flags_of st s) ≡ false → get st.bindings e x ≡ Some s → get (put st.bindings t x fresh_symbol) e x ≡ Some s
    stays_bound e s q f g = elim (eqb_tells t e) [
      | inl w ↦ (let v : true ≡ false = sym (q s (subst (λ r. get st.bindings r x ≡ Some s) (sym w.1) g)) ∙ f in absurd cc)
      | inr w ↦ put_apart t e w.1 ∙ g
    ]

    stays_now : (y : Declaration) (s : ℕ) → IsHiddenIn t → is_hidden (flags_of st s) ≡ false → IsBoundNow table x st.bindings y s → IsBoundNow table x (put st.bindings t x fresh_symbol) y s
    stays_now y s q f (inl g) = inl (stays_bound y.route.target.number s q f g)
    stays_now y s q f (inr g) = inr (g.0, g.1, g.2, stays_bound g.0 s q f g.3)

    -- something is bound there still
    still_bound : (e s : ℕ) → get st.bindings e x ≡ Some s → (r : ℕ) × (get (put st.bindings t x fresh_symbol) e x ≡ Some r)
    still_bound e s g = elim (eqb_tells t e) [
      | inl w ↦ (fresh_symbol, subst (λ r. get (put st.bindings t x fresh_symbol) r x ≡ Some fresh_symbol) w.1 (get-put_same st.bindings t x fresh_symbol))
      | inr w ↦ (s, put_apart t e w.1 ∙ g)
    ]

    still_now : (y : Declaration) (s : ℕ) → IsBoundNow table x st.bindings y s → (r : ℕ) × IsBoundNow table x (put st.bindings t x fresh_symbol) y r
    still_now y s (inl g) = let w : (r : ℕ) × (get (put st.bindings t x fresh_symbol) y.route.target.number x ≡ Some r) = still_bound y.route.target.number s g in (w.0, inl w.1)
    still_now y s (inr g) = let w : (r : ℕ) × (get (put st.bindings t x fresh_symbol) g.0 x ≡ Some r) = still_bound g.0 s g.3 in (w.0, inr (g.0, g.1, g.2, w.1))

    target_below : is_own_name d ≡ false → t < k
    target_below e = (fit.below e).target

    older_flags : (y : Made) → Among y st.made → y.declaration.naming.name ≡ x → is_hidden (flags_or_none (slice_get (st.symbols ++ new_symbol t d.naming ∷ []) y.symbol)) ≡ is_own_name y.declaration
    older_flags y a e =
        let w : HasName st.symbols y.symbol y.declaration.naming.name = sound.has_name y a in
        ap is_hidden (pushed_flags st.symbols (new_symbol t d.naming) w.symbol y.symbol w.is_there) ∙ h.flags y a e

    pub made_here : IsHiddenIn t → Shared table x k l (make st t d)
    made_here q = subst (λ y. Shared table x k l (note_symbol (record st { bindings = put st.bindings t y fresh_symbol; symbols = st.symbols ++ new_symbol t d.naming ∷ [] }) d fresh_symbol)) (sym named) (record {
      bound = λ c s e. elim (put_symbol t s c e) [
        | inl w ↦ record { made = record { declaration = d; symbol = fresh_symbol }; among = among_last (record { declaration = d; symbol = fresh_symbol }) st.made; named = named; symbol = w.1; now = inl w.0; below = λ z. subst (λ r. r < k) w.0 (target_below z); opened = subst (λ r. r < l) w.0 fit.within }
        | inr w ↦ bound_more table x n m k l st.made (st.made ++ record { declaration = d; symbol = fresh_symbol } ∷ []) c s fit.more fit.opens (kept fresh_symbol) (h.bound c s w.1)
      ];
      remembered = λ c s e. remembered_more table x n k st.made (st.made ++ record { declaration = d; symbol = fresh_symbol } ∷ []) c s fit.more (kept fresh_symbol) (h.remembered c s e);
      declared = λ y a e o. elim (among_more y (record { declaration = d; symbol = fresh_symbol }) st.made a) [
        | inl b ↦ stays_now y.declaration y.symbol q (h.flags y b e ∙ o) (h.declared y b e o)
        | inr b ↦ subst (λ z. IsBoundNow table x (put st.bindings t x fresh_symbol) z.declaration z.symbol) b (inl (get-put_same st.bindings t x fresh_symbol))
      ];
      hidden = λ y a e o. elim (among_more y (record { declaration = d; symbol = fresh_symbol }) st.made a) [
        | inl b ↦ (let w : (s : ℕ) × IsBoundNow table x st.bindings y.declaration s = h.hidden y b e o in still_now y.declaration w.0 w.1)
        | inr b ↦ subst (λ z. (s : ℕ) × IsBoundNow table x (put st.bindings t x fresh_symbol) z.declaration s) b (fresh_symbol, inl (get-put_same st.bindings t x fresh_symbol))
      ];
      flags = λ y a e. elim (among_more y (record { declaration = d; symbol = fresh_symbol }) st.made a) [
        | inl b ↦ older_flags y b e
        | inr b ↦ subst (λ z. is_hidden (flags_or_none (slice_get (st.symbols ++ new_symbol t d.naming ∷ []) z.symbol)) ≡ is_own_name z.declaration) b (ap (λ o. is_hidden (flags_or_none o)) (get-last st.symbols (new_symbol t d.naming)))
      ];
      entries = λ y a e. elim (among_more y (record { declaration = d; symbol = fresh_symbol }) st.made a) [
        | inl b ↦ h.entries y b e
        | inr b ↦ subst (λ z. slice_get table z.declaration.route.target.number ≡ Some z.declaration.route.target.body) b fit.entry
      ];
    })

    -- ---- one more declaration of a symbol

    pub found_here : (f : Symbol → Symbol) (s : ℕ) (cs : List Conflict) → is_own_name d ≡ false → get st.bindings t x ≡ Some s → is_hidden (flags_of st s) ≡ false → ((y : Symbol) → is_hidden (f y).flags.bits ≡ is_hidden y.flags.bits)
        → Shared table x k l (note_symbol (record st { symbols = update f st.symbols s; conflicts = cs }) d s)
    found_here f s cs v g e keeps = record {
      bound = λ c r q. bound_more table x n m k l st.made (st.made ++ record { declaration = d; symbol = s } ∷ []) c r fit.more fit.opens (kept s) (h.bound c r q);
      remembered = λ c r q. remembered_more table x n k st.made (st.made ++ record { declaration = d; symbol = s } ∷ []) c r fit.more (kept s) (h.remembered c r q);
      declared = λ y a q o. elim (among_more y (record { declaration = d; symbol = s }) st.made a) [
        | inl b ↦ h.declared y b q o
        | inr b ↦ subst (λ z. IsBoundNow table x st.bindings z.declaration z.symbol) b (inl g)
      ];
      hidden = λ y a q o. elim (among_more y (record { declaration = d; symbol = s }) st.made a) [
        | inl b ↦ h.hidden y b q o
        | inr b ↦ (let w : true ≡ false = sym o ∙ subst (λ z. is_own_name z.declaration ≡ false) b v in absurd cc)
      ];
      flags = λ y a q. same_flags y.symbol ∙ elim (among_more y (record { declaration = d; symbol = s }) st.made a) [
        | inl b ↦ h.flags y b q
        | inr b ↦ subst (λ z. is_hidden (flags_of st z.symbol) ≡ is_own_name z.declaration) b (e ∙ sym v)
      ];
      entries = λ y a q. elim (among_more y (record { declaration = d; symbol = s }) st.made a) [
        | inl b ↦ h.entries y b q
        | inr b ↦ subst (λ z. slice_get table z.declaration.route.target.number ≡ Some z.declaration.route.target.body) b fit.entry
      ];
    }
      where
        same_flags : (r : ℕ) → is_hidden (flags_or_none (slice_get (update f st.symbols s) r)) ≡ is_hidden (flags_of st r)
        same_flags r = ap (λ o. is_hidden (flags_or_none o)) (get-update f st.symbols s r) ∙ go (s == r) (slice_get st.symbols r)
          where
            go : (b : Bool) (o : Option Symbol) → is_hidden (flags_or_none (cond b (option_map f o) o)) ≡ is_hidden (flags_or_none o)
            go true None = refl
            go true (Some y) = keeps y
            go false o = refl

    -- ---- declared in its target

    abbrev Declared : Option ℕ → Type 0
    Declared o = Shared table x k l (declare_in st t d o)

    declared_by_bound : (s : ℕ) → get st.bindings t x ≡ Some s → (b : Bool) → is_hidden (flags_of st s) ≡ b → Declared (cond b None (Some s))
    declared_by_bound s g true f = made_here (λ r e. let q : Some s ≡ Some r = sym g ∙ e in let w : s ≡ r = cc in subst (λ z. is_hidden (flags_of st z) ≡ true) w f)
    declared_by_bound s g false f = elim (cases_Bool (is_own_name d)) [
      | inl o ↦ (let w : BoundBy table x n m st.made t s = h.bound t s g in
          let v : is_own_name w.made.declaration ≡ false = sym (h.flags w.made w.among w.named) ∙ subst (λ z. is_hidden (flags_of st z) ≡ false) (sym w.symbol) f in
          let i : t < n = w.below v in
          let j : n ≤ t = fit.fresh o in
          absurd (omega arith))
      | inr o ↦ found_here (λ y. united d.naming.flags (redeclared d.naming y)) s (against st d s).conflicts o g f (λ y. union_apart y.flags.bits d.naming.flags o)
    ]

    pub in_target : Declared (found st t d.naming.name)
    in_target = subst (λ y. Declared (found st t y)) (sym named) (go (get st.bindings t x) refl)
      where
        go : (o : Option ℕ) → get st.bindings t x ≡ o → Declared (found st t x)
        go (Some s) e = subst Declared (sym (found_bound st t s (is_hidden (flags_of st s)) e refl)) (declared_by_bound s e (is_hidden (flags_of st s)) refl)
        go None e = subst Declared (sym (found_none st t e (not_remembered t (inl refl)))) (made_here (λ s g. let w : None ≡ Some s = sym e ∙ g in absurd cc))

-- ---- a `var` passes scopes

pub bindings_against_all : (st : State) (d : Declaration) (ss : List ℕ) → (against_all st d ss).bindings ≡ st.bindings
bindings_against_all st d [] = refl
bindings_against_all st d (s ∷ ss) = bindings_against_all (against st d s) d ss

-- each scope of a route leads to its target
led_there : (v : ℕ → ℕ) (table : List (Option ℕ)) (cs : List OpenScope) (t c : ℕ) → AllLead v table cs t → contains (map (λ s. s.number) cs) c ≡ true → Leads v table c t
led_there v table [] t c h e = absurd cc
led_there v table (s ∷ cs) t c h e = elim (eqb_tells s.number c) [
  | inl k ↦ subst (λ r. Leads v table r t) k.1 h.0
  | inr k ↦ led_there v table cs t c h.1 (rw k.0 at e)
]

all_in_more : (n : ℕ) (ns : List ℕ) (cs : List OpenScope) → AllIn ns cs → AllIn (n ∷ ns) cs
all_in_more n ns [] h = tt
all_in_more n ns (c ∷ cs) h = (contains_right (n ∷ []) ns c.number h.0, all_in_more n ns cs h.1)

pub all_passed : (cs : List OpenScope) → AllIn (map (λ s. s.number) cs) cs
all_passed [] = tt
all_passed (c ∷ cs) = (contains_first c.number (map (λ s. s.number) cs), all_in_more c.number (map (λ s. s.number) cs) cs (all_passed cs))

-- what the scopes remember then
remembered_then : (bs : List Binding) (cs : List OpenScope) (x : Name) (s c r : ℕ) → get (remember bs cs x s) c x ≡ Some r → ((contains (map (λ q. q.number) cs) c ≡ true) × (s ≡ r)) ⊎ (get bs c x ≡ Some r)
remembered_then bs [] x s c r h = inr h
remembered_then bs (q ∷ cs) x s c r h = elim (remembered_then (put bs q.number x s) cs x s c r h) [
  | inl k ↦ inl (contains_right (q.number ∷ []) (map (λ z. z.number) cs) c k.0, k.1)
  | inr k ↦ elim (same_key_tells q.number c x x) [
    | inl w ↦ (let v : Some s ≡ Some r = sym (get-put bs q.number x s c x ∙ rw w.0 refl) ∙ k in
        inl (subst (λ z. contains (q.number ∷ map (λ y. y.number) cs) z ≡ true) w.1 (contains_first q.number (map (λ y. y.number) cs)), cc))
    | inr w ↦ inr (sym (get-put_other bs q.number x s c x w.0) ∙ k)
  ]
]

module _ (table : List (Option ℕ)) (x : Name) where
  shared_against : (n m : ℕ) (st : State) (d : Declaration) (s : ℕ) → Shared table x n m st → Shared table x n m (against st d s)
  shared_against n m st d s h = record { bound = h.bound; remembered = h.remembered; declared = h.declared; hidden = h.hidden; flags = h.flags; entries = h.entries }

  pub shared_against_all : (n m : ℕ) (st : State) (d : Declaration) (ss : List ℕ) → Shared table x n m st → Shared table x n m (against_all st d ss)
  shared_against_all n m st d [] h = h
  shared_against_all n m st d (s ∷ ss) h = shared_against_all n m (against st d s) d ss (shared_against n m st d s h)

  -- the scopes that a declaration passed remember its name with its symbol
  pub shared_remembering : (k l : ℕ) (st : State) (d : Declaration) (cs : List OpenScope) (s : ℕ) → d.naming.name ≡ x → d.how ≡ hoisted → is_own_name d ≡ false → RouteBelow k d → Among (record { declaration = d; symbol = s }) st.made
      → ((c : ℕ) → contains (map (λ q. q.number) cs) c ≡ true → contains (map (λ q. q.number) d.route.passed) c ≡ true) → Shared table x k l st → Shared table x k l (remembering st cs x s)
  shared_remembering k l st d cs s named how v below a within h = record {
    bound = h.bound;
    remembered = λ c r e. elim (remembered_then st.remembered cs x s c r e) [
      | inl w ↦ record { made = record { declaration = d; symbol = s }; among = a; named = named; symbol = w.1; left = inl (how, within c w.0); visible = v; below = below.passed c (within c w.0) }
      | inr w ↦ h.remembered c r w
    ];
    declared = h.declared;
    hidden = h.hidden;
    flags = h.flags;
    entries = h.entries;
  }

  module _ (v : ℕ → ℕ) (n m k l : ℕ) (st : State) (d : Declaration) (named : d.naming.name ≡ x) (sound : Sound table st) (h : Shared table x n m st) (fit : IsFit table n m k l d) (clear : (y : Made) → Among y st.made → y.declaration.naming.name ≡ x → KeepClear y.declaration d) where
    -- a `var` that was found on the way has the symbol of the target
    pub on_the_way : (led : (y : Made) → Among y st.made → y.declaration.naming.name ≡ x → IsLed v table y.declaration.how y.declaration.route) → d.how ≡ hoisted → AllLead v table d.route.passed d.route.target.number
        → (r : PassedSymbol) → passed_symbol st d.route.passed x ≡ Some r → get st.bindings d.route.target.number x ≡ Some r.symbol
    on_the_way led how lead r e = elim (or_else_some (get st.bindings r.scope x) (get st.remembered r.scope x) r.symbol (unless_some st (or_else (get st.bindings r.scope x) (get st.remembered r.scope x)) r.symbol w.is_found)) [
      | inl q ↦ (let b : BoundBy table x n m st.made r.scope r.symbol = h.bound r.scope r.symbol q in absurd ((clear b.made b.among b.named).1.as_variable how r.scope w.inside (now_bound table x b.made.declaration r.scope b.now)))
      | inr q ↦ (let b : RememberedBy table x n st.made r.scope r.symbol = h.remembered r.scope r.symbol q in elim b.left [
        | inl i ↦ passed_too b i.0 i.1
        | inr i ↦ absurd ((clear b.made b.among b.named).0.as_function i.0 (record {
          same_name = b.named ∙ sym named;
          shared = r.scope;
          on_left = subst (λ z. contains (path b.made.declaration) z ≡ true) i.1 (stands_on_path b.made.declaration.route.passed b.made.declaration refl);
          on_right = passed_stands d r.scope w.inside;
        }))
      ])
    ]
      where
        w : IsPassedSymbol st (map (λ s. s.number) d.route.passed) x r
        w = is_passed_symbol st (map (λ s. s.number) d.route.passed) x d.route.passed r (all_passed d.route.passed) e

        passed_too : (b : RememberedBy table x n st.made r.scope r.symbol) → b.made.declaration.how ≡ hoisted → contains (map (λ s. s.number) b.made.declaration.route.passed) r.scope ≡ true → get st.bindings d.route.target.number x ≡ Some r.symbol
        passed_too b j p =
            let theirs : Leads v table r.scope b.made.declaration.route.target.number = led_there v table b.made.declaration.route.passed b.made.declaration.route.target.number r.scope (subst (λ q. IsLed v table q b.made.declaration.route) j (led b.made b.among b.named)) p in
            let ours : Leads v table r.scope d.route.target.number = led_there v table d.route.passed d.route.target.number r.scope lead w.inside in
            let same : b.made.declaration.route.target.number ≡ d.route.target.number = sym theirs.near ∙ ours.near in
            elim (h.declared b.made b.among b.named b.visible) [
              | inl g ↦ subst (λ z. get st.bindings z x ≡ Some b.made.symbol) same g ∙ ap Some b.symbol
              | inr g ↦ (let q : Some b.made.declaration.route.target.body ≡ Some None = sym (h.entries b.made b.among b.named) ∙ theirs.lasts in
                  let z : Some (Some g.0) ≡ Some None = sym (ap Some g.1) ∙ q in absurd cc)
            ]

    -- what is found is not the name of a function
    pub found_visible : (c s : ℕ) → found st c x ≡ Some s → is_hidden (flags_of st s) ≡ false
    found_visible c s e = go (or_else (get st.bindings c x) (get st.remembered c x)) e
      where
        go : (o : Option ℕ) → unless_expression (flags_of st) o ≡ Some s → is_hidden (flags_of st s) ≡ false
        go None q = absurd cc
        go (Some r) q = elim (cases_Bool (is_hidden (flags_of st r))) [
          | inl f ↦ (let w : None ≡ Some s = rw f at q in absurd cc)
          | inr f ↦ (let w : Some r ≡ Some s = rw f at q in let z : r ≡ s = cc in subst (λ i. is_hidden (flags_of st i) ≡ false) z f)
        ]
