-- Bindings and their symbols, through the changes of both lists.
use Rattle.std.proofs.Common.{◌≡◌, ℕ, ◌+◌, ◌<◌, ◌≤◌, ◌==◌, List, [], ◌∷◌, ◌++◌, Some, Bool, true, false, cond, inl, inr, ◌⊎◌, refl, sym, ap, subst, ◌∙◌, length, arith}
use Rattle.std.specs.Prelude.{slice_get}
use Rattle.std.proofs.lemmas.Bool.Decides.{eqb_tells}
use Rattle.semantic_syntax.specs.Tables.{Name, Symbol}
use Rattle.semantic_model.specs.Entries.{Among}
use Rattle.semantic_model.specs.Binding.{Binding, is_binding_of, get, put, remove, take_over}
use Rattle.semantic_model.specs.Fold.{update, in_scope}
use Rattle.semantic_model.proofs.lists.BindingLaws.{same_key_tells, is_of_tells, get-put, get-put_other, get-remove_other}
use Rattle.semantic_model.proofs.lists.SymbolLaws.{get-update, get-push, get_within}

-- the symbol has the name and the scope
pub record IsSymbolOf (ys : List Symbol) (c : ℕ) (x : Name) (s : ℕ) : Type 0 where
  pub symbol : Symbol
  pub is_there : slice_get ys s ≡ Some symbol
  pub named : symbol.name ≡ x
  pub stands : symbol.scope ≡ c

pub symbol_within : (ys : List Symbol) (c : ℕ) (x : Name) (s : ℕ) → IsSymbolOf ys c x s → s < length ys
symbol_within ys c x s h = get_within ys s h.symbol h.is_there

pub symbol_update : (f : Symbol → Symbol) (ys : List Symbol) (n c : ℕ) (x : Name) (s : ℕ) → ((y : Symbol) → ((f y).name ≡ y.name) × ((f y).scope ≡ y.scope)) → IsSymbolOf ys c x s → IsSymbolOf (update f ys n) c x s
symbol_update f ys n c x s keeps h = go (eqb_tells n s)
  where
    go : ((n == s ≡ true) × (n ≡ s)) ⊎ ((n == s ≡ false) × (n ≡ s → ⊥)) → IsSymbolOf (update f ys n) c x s
    go (inl e) = record { symbol = f h.symbol; is_there = rw (get-update f ys n s, e.0, h.is_there) refl; named = (keeps h.symbol).0 ∙ h.named; stands = (keeps h.symbol).1 ∙ h.stands }
    go (inr e) = record { symbol = h.symbol; is_there = rw (get-update f ys n s, e.0) h.is_there; named = h.named; stands = h.stands }

pub symbol_other : (f : Symbol → Symbol) (ys : List Symbol) (n c : ℕ) (x : Name) (s : ℕ) → (n ≡ s → ⊥) → IsSymbolOf ys c x s → IsSymbolOf (update f ys n) c x s
symbol_other f ys n c x s k h = go (eqb_tells n s)
  where
    go : ((n == s ≡ true) × (n ≡ s)) ⊎ ((n == s ≡ false) × (n ≡ s → ⊥)) → IsSymbolOf (update f ys n) c x s
    go (inl e) = absurd (k e.1)
    go (inr e) = record { symbol = h.symbol; is_there = rw (get-update f ys n s, e.0) h.is_there; named = h.named; stands = h.stands }

pub symbol_moved : (ys : List Symbol) (c t : ℕ) (x : Name) (s : ℕ) → IsSymbolOf ys c x s → IsSymbolOf (update (in_scope t) ys s) t x s
symbol_moved ys c t x s h = go (eqb_tells s s)
  where
    go : ((s == s ≡ true) × (s ≡ s)) ⊎ ((s == s ≡ false) × (s ≡ s → ⊥)) → IsSymbolOf (update (in_scope t) ys s) t x s
    go (inl e) = record { symbol = in_scope t h.symbol; is_there = rw (get-update (in_scope t) ys s s, e.0, h.is_there) refl; named = h.named; stands = refl }
    go (inr e) = absurd (e.1 refl)

pub symbol_push : (ys : List Symbol) (y : Symbol) (c : ℕ) (x : Name) (s : ℕ) → IsSymbolOf ys c x s → IsSymbolOf (ys ++ y ∷ []) c x s
symbol_push ys y c x s h = record { symbol = h.symbol; is_there = get-push ys y s (symbol_within ys c x s h) ∙ h.is_there; named = h.named; stands = h.stands }

-- a symbol has one scope and one name
pub one_key : (ys : List Symbol) (c d : ℕ) (x y : Name) (s : ℕ) → IsSymbolOf ys c x s → IsSymbolOf ys d y s → (c ≡ d) × (x ≡ y)
one_key ys c d x y s h k =
    let q : Some h.symbol ≡ Some k.symbol = sym h.is_there ∙ k.is_there in
    let e : h.symbol ≡ k.symbol = cc in
    (sym h.stands ∙ ap (λ w. w.scope) e ∙ k.stands, sym h.named ∙ ap (λ w. w.name) e ∙ k.named)

-- each entry of the list is its symbol's
abbrev pub AllOf : List Symbol → List Binding → Type 0
AllOf ys bs = (e : Binding) → Among e bs → IsSymbolOf ys e.scope e.name e.symbol

-- how often a symbol is bound
abbrev pub bound_times : ℕ → List Binding → ℕ
bound_times s [] = 0
bound_times s (b ∷ bs) = cond (b.symbol == s) 1 0 + bound_times s bs

pub unbound : (s : ℕ) (bs : List Binding) → ((e : Binding) → Among e bs → e.symbol ≡ s → ⊥) → bound_times s bs ≡ 0
unbound s [] h = refl
unbound s (b ∷ bs) h = elim (eqb_tells b.symbol s) [
  | inl e ↦ absurd (h b (inl refl) e.1)
  | inr e ↦ rw e.0 (omega (arith, unbound s bs (λ w a. h w (inr a))))
]

pub times_put : (s : ℕ) (bs : List Binding) (c : ℕ) (x : Name) (n : ℕ) → bound_times s (put bs c x n) ≤ bound_times s bs + cond (n == s) 1 0
times_put s [] c x n = omega arith
times_put s (b ∷ bs) c x n = go (is_binding_of c x b) (times_put s bs c x n)
  where
    go : (t : Bool) → bound_times s (put bs c x n) ≤ bound_times s bs + cond (n == s) 1 0 → bound_times s (cond t (record b { symbol = n } ∷ bs) (b ∷ put bs c x n)) ≤ cond (b.symbol == s) 1 0 + bound_times s bs + cond (n == s) 1 0
    go true h = omega arith
    go false h = omega (arith, h)

pub times_remove : (s : ℕ) (bs : List Binding) (c : ℕ) (x : Name) → bound_times s (remove bs c x) ≤ bound_times s bs
times_remove s [] c x = omega arith
times_remove s (b ∷ bs) c x = go (is_binding_of c x b) (times_remove s bs c x)
  where
    go : (t : Bool) → bound_times s (remove bs c x) ≤ bound_times s bs → bound_times s (cond t (remove bs c x) (b ∷ remove bs c x)) ≤ cond (b.symbol == s) 1 0 + bound_times s bs
    go true h = omega (arith, h)
    go false h = omega (arith, h)

pub times_take_over : (s : ℕ) (bs : List Binding) (c d : ℕ) → bound_times s (take_over bs c d) ≡ bound_times s bs
times_take_over s [] c d = refl
times_take_over s (b ∷ bs) c d = go (b.scope == c) (times_take_over s bs c d)
  where
    go : (t : Bool) → bound_times s (take_over bs c d) ≡ bound_times s bs → bound_times s (cond t (record b { scope = d }) b ∷ take_over bs c d) ≡ cond (b.symbol == s) 1 0 + bound_times s bs
    go true h = omega (arith, h)
    go false h = omega (arith, h)

-- put where it isn't bound
pub put_once : (s : ℕ) (bs : List Binding) (c : ℕ) (x : Name) (n : ℕ) → bound_times n bs ≡ 0 → bound_times s bs ≤ 1 → bound_times s (put bs c x n) ≤ 1
put_once s bs c x n z h = elim (eqb_tells n s) [
  | inl e ↦ (let q : cond {A = ℕ} (n == s) 1 0 ≡ 1 = rw e.0 refl in let w : bound_times s bs ≡ 0 = subst (λ m. bound_times m bs ≡ 0) e.1 z in omega (arith, times_put s bs c x n))
  | inr e ↦ (let q : cond {A = ℕ} (n == s) 1 0 ≡ 0 = rw e.0 refl in omega (arith, times_put s bs c x n))
]

-- the scope binds the name
abbrev pub IsBound : List Binding → ℕ → Name → Type 0
IsBound bs c x = (s : ℕ) × (get bs c x ≡ Some s)

pub bound_put : (bs : List Binding) (c : ℕ) (x : Name) (s d : ℕ) (y : Name) → IsBound bs d y → IsBound (put bs c x s) d y
bound_put bs c x s d y h = elim (same_key_tells c d x y) [
  | inl k ↦ (s, rw (get-put bs c x s d y, k.0) refl)
  | inr k ↦ (h.0, get-put_other bs c x s d y k.0 ∙ h.1)
]

-- a binding that moves leaves no other name unbound
pub bound_move : (bs : List Binding) (c t : ℕ) (x : Name) (s d : ℕ) (y : Name) → ((c ≡ d) × (x ≡ y) → t ≡ d) → IsBound bs d y → IsBound (put (remove bs c x) t x s) d y
bound_move bs c t x s d y home h = elim (same_key_tells t d x y) [
  | inl k ↦ (s, rw (get-put (remove bs c x) t x s d y, k.0) refl)
  | inr k ↦ elim (same_key_tells c d x y) [
    | inl l ↦ absurd (k.1 (home (l.1, l.2), l.2))
    | inr l ↦ (h.0, get-put_other (remove bs c x) t x s d y k.0 ∙ get-remove_other bs c x d y l.0 ∙ h.1)
  ]
]

pub bound_take_over : (bs : List Binding) (c b t : ℕ) (x : Name) → (t ≡ c → ⊥) → IsBound bs t x → IsBound (take_over bs c b) t x
bound_take_over [] c b t x n h = h
bound_take_over (e ∷ bs) c b t x n h = go (eqb_tells e.scope c) (is_of_tells t x e) (bound_take_over bs c b t x n) h.1
  where
    first : (w : Binding) → IsBound (take_over bs c b) t x → IsBound (w ∷ take_over bs c b) t x
    first w k = elim (is_of_tells t x w) [ inl i ↦ (w.symbol, rw i.0 refl) | inr i ↦ (k.0, rw i.0 k.1) ]

    go : ((e.scope == c ≡ true) × (e.scope ≡ c)) ⊎ ((e.scope == c ≡ false) × (e.scope ≡ c → ⊥)) → ((is_binding_of t x e ≡ true) × (e.scope ≡ t) × (e.name ≡ x)) ⊎ ((is_binding_of t x e ≡ false) × ((e.scope ≡ t) × (e.name ≡ x) → ⊥)) → (IsBound bs t x → IsBound (take_over bs c b) t x) → cond (is_binding_of t x e) (Some e.symbol) (get bs t x) ≡ Some h.0 → IsBound (cond (e.scope == c) (record e { scope = b }) e ∷ take_over bs c b) t x
    go (inl i) (inl j) later q = absurd (n (sym j.1 ∙ i.1))
    go (inr i) (inl j) later q = (e.symbol, rw (i.0, j.0) refl)
    go i (inr j) later q = first (cond (e.scope == c) (record e { scope = b }) e) (later (h.0, rw j.0 at q))
