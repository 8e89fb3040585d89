-- What the list of bindings has after a change.
use Rattle.std.proofs.Common.{◌≡◌, ℕ, List, [], ◌∷◌, refl, Some, None, cond, Bool, true, false, ◌⊎◌, inl, inr, ◌&&◌, ◌==◌, bytes_eq, ap, sym, ◌∙◌, arith, Decides}
use Rattle.std.proofs.lemmas.Slice.Eq.{bytes_eq-Decides}
use Rattle.std.proofs.lemmas.Bool.Decides.{Decides-eqb, Decides-and, eqb_tells}
use Rattle.semantic_syntax.specs.Tables.{Name}
use Rattle.semantic_model.specs.Binding.{Binding, is_binding_of, get, put, remove, take_over}
use Rattle.semantic_model.specs.Entries.{Among}

-- the test of a scope and a name against another
abbrev pub same_key : ℕ → Name → ℕ → Name → Bool
same_key c x d y = c == d && bytes_eq x y

same_key-Decides : (c d : ℕ) (x y : Name) → Decides (same_key c x d y) ((c ≡ d) × (x ≡ y))
same_key-Decides c d x y = Decides-and (c == d) (bytes_eq x y) (Decides-eqb c d) (bytes_eq-Decides x y)

pub same_key_tells : (c d : ℕ) (x y : Name) → ((same_key c x d y ≡ true) × (c ≡ d) × (x ≡ y)) ⊎ ((same_key c x d y ≡ false) × ((c ≡ d) × (x ≡ y) → ⊥))
same_key_tells c d x y = go (same_key c x d y) refl
  where
    go : (b : Bool) → same_key c x d y ≡ b → ((same_key c x d y ≡ true) × (c ≡ d) × (x ≡ y)) ⊎ ((same_key c x d y ≡ false) × ((c ≡ d) × (x ≡ y) → ⊥))
    go true e = let h : (c ≡ d) × (x ≡ y) = (same_key-Decides c d x y).0 e in inl (e, h.0, h.1)
    go false e = inr (e, λ h. let k : same_key c x d y ≡ true = (same_key-Decides c d x y).1 h in cc)

pub is_of_tells : (c : ℕ) (x : Name) (b : Binding) → ((is_binding_of c x b ≡ true) × (b.scope ≡ c) × (b.name ≡ x)) ⊎ ((is_binding_of c x b ≡ false) × ((b.scope ≡ c) × (b.name ≡ x) → ⊥))
is_of_tells c x b = same_key_tells b.scope c b.name x

pub get-put : (bs : List Binding) (c : ℕ) (x : Name) (s d : ℕ) (y : Name) → get (put bs c x s) d y ≡ cond (same_key c x d y) (Some s) (get bs d y)
get-put [] c x s d y = refl
get-put (b ∷ bs) c x s d y = grind (arith, get-put bs c x s d y, same_key_tells b.scope c b.name x, same_key_tells c d x y, same_key_tells b.scope d b.name y)

pub get-remove : (bs : List Binding) (c : ℕ) (x : Name) (d : ℕ) (y : Name) → get (remove bs c x) d y ≡ cond (same_key c x d y) None (get bs d y)
get-remove [] c x d y = grind (arith, same_key_tells c d x y)
get-remove (b ∷ bs) c x d y = grind (arith, get-remove bs c x d y, same_key_tells b.scope c b.name x, same_key_tells c d x y, same_key_tells b.scope d b.name y)

pub get-put_same : (bs : List Binding) (c : ℕ) (x : Name) (s : ℕ) → get (put bs c x s) c x ≡ Some s
get-put_same bs c x s = elim (same_key_tells c c x x) [ inl k ↦ rw (get-put bs c x s c x, k.0) refl | inr k ↦ absurd (k.1 (refl, refl)) ]

pub get-put_other : (bs : List Binding) (c : ℕ) (x : Name) (s d : ℕ) (y : Name) → same_key c x d y ≡ false → get (put bs c x s) d y ≡ get bs d y
get-put_other bs c x s d y e = rw (get-put bs c x s d y, e) refl

pub get-remove_other : (bs : List Binding) (c : ℕ) (x : Name) (d : ℕ) (y : Name) → same_key c x d y ≡ false → get (remove bs c x) d y ≡ get bs d y
get-remove_other bs c x d y e = rw (get-remove bs c x d y, e) refl

-- a bound name stands in the list
pub get_among : (bs : List Binding) (c : ℕ) (x : Name) (s : ℕ) → get bs c x ≡ Some s → Among (record { scope = c; name = x; symbol = s }) bs
get_among [] c x s h = absurd cc
get_among (b ∷ bs) c x s h = elim (is_of_tells c x b) [
  | inl k ↦ (let q : Some b.symbol ≡ Some s = rw k.0 at h in let r : b.symbol ≡ s = cc in inl (λ i. record { scope = k.1 i; name = k.2 i; symbol = r i }))
  | inr k ↦ inr (get_among bs c x s (rw k.0 at h))
]

-- an entry that was put, or one of before
pub among_put : (e : Binding) (bs : List Binding) (c : ℕ) (x : Name) (s : ℕ) → Among e (put bs c x s) → Among e bs ⊎ ((e.scope ≡ c) × (e.name ≡ x) × (e.symbol ≡ s))
among_put e [] c x s (inl q) = inr (sym (ap (λ b. b.scope) q), sym (ap (λ b. b.name) q), sym (ap (λ b. b.symbol) q))
among_put e [] c x s (inr q) = absurd q
among_put e (b ∷ bs) c x s h = elim (is_of_tells c x b) [
  | inl k ↦ here k (rw k.0 at h)
  | inr k ↦ later (among_put e bs c x s) (rw k.0 at h)
]
  where
    here : (is_binding_of c x b ≡ true) × (b.scope ≡ c) × (b.name ≡ x) → Among e (record b { symbol = s } ∷ bs) → Among e (b ∷ bs) ⊎ ((e.scope ≡ c) × (e.name ≡ x) × (e.symbol ≡ s))
    here k (inl q) = inr (sym (ap (λ b. b.scope) q) ∙ k.1, sym (ap (λ b. b.name) q) ∙ k.2, sym (ap (λ b. b.symbol) q))
    here k (inr q) = inl (inr q)

    later : (Among e (put bs c x s) → Among e bs ⊎ ((e.scope ≡ c) × (e.name ≡ x) × (e.symbol ≡ s))) → Among e (b ∷ put bs c x s) → Among e (b ∷ bs) ⊎ ((e.scope ≡ c) × (e.name ≡ x) × (e.symbol ≡ s))
    later more (inl q) = inl (inl q)
    later more (inr q) = elim (more q) [ inl a ↦ inl (inr a) | inr k ↦ inr k ]

-- what is left after a removal is another binding
pub among_remove : (e : Binding) (bs : List Binding) (c : ℕ) (x : Name) → Among e (remove bs c x) → Among e bs × ((e.scope ≡ c) × (e.name ≡ x) → ⊥)
among_remove e [] c x h = absurd h
among_remove e (b ∷ bs) c x h = elim (is_of_tells c x b) [
  | inl k ↦ (let r : Among e bs × ((e.scope ≡ c) × (e.name ≡ x) → ⊥) = among_remove e bs c x (rw k.0 at h) in (inr r.0, r.1))
  | inr k ↦ later (among_remove e bs c x) k.1 (rw k.0 at h)
]
  where
    later : (Among e (remove bs c x) → Among e bs × ((e.scope ≡ c) × (e.name ≡ x) → ⊥)) → ((b.scope ≡ c) × (b.name ≡ x) → ⊥) → Among e (b ∷ remove bs c x) → Among e (b ∷ bs) × ((e.scope ≡ c) × (e.name ≡ x) → ⊥)
    later more k (inl q) = (inl q, λ r. k (ap (λ b. b.scope) q ∙ r.0, ap (λ b. b.name) q ∙ r.1))
    later more k (inr q) = let r : Among e bs × ((e.scope ≡ c) × (e.name ≡ x) → ⊥) = more q in (inr r.0, r.1)

-- what the taking scope binds, the other bound before
pub among_take_over : (e : Binding) (bs : List Binding) (c d : ℕ) → Among e (take_over bs c d) → Among e bs ⊎ ((e.scope ≡ d) × Among (record e { scope = c }) bs)
among_take_over e [] c d h = absurd h
among_take_over e (b ∷ bs) c d (inl q) = elim (eqb_tells b.scope c) [
  | inl k ↦ (let r : record b { scope = d } ≡ e = rw k.0 at q in inr (sym (ap (λ b. b.scope) r), inl (λ i. record { scope = k.1 i; name = (r i).name; symbol = (r i).symbol })))
  | inr k ↦ inl (inl (rw k.0 at q))
]
among_take_over e (b ∷ bs) c d (inr q) = elim (among_take_over e bs c d q) [ inl a ↦ inl (inr a) | inr a ↦ inr (a.0, inr a.1) ]

-- nothing is left in the scope that was taken over
pub among_taken : (e : Binding) (bs : List Binding) (c d : ℕ) → (c ≡ d → ⊥) → Among e (take_over bs c d) → e.scope ≡ c → ⊥
among_taken e [] c d n h k = absurd h
among_taken e (b ∷ bs) c d n (inl q) k = elim (eqb_tells b.scope c) [
  | inl t ↦ (let r : record b { scope = d } ≡ e = rw t.0 at q in n (sym (ap (λ b. b.scope) r ∙ k)))
  | inr t ↦ (let r : b ≡ e = rw t.0 at q in t.1 (ap (λ b. b.scope) r ∙ k))
]
among_taken e (b ∷ bs) c d n (inr q) k = among_taken e bs c d n q k

pub get-take_over_other : (bs : List Binding) (c b d : ℕ) (y : Name) → (d ≡ c → ⊥) → (d ≡ b → ⊥) → get (take_over bs c b) d y ≡ get bs d y
get-take_over_other [] c b d y h k = refl
get-take_over_other (e ∷ bs) c b d y h k =
    grind (arith, get-take_over_other bs c b d y h k, eqb_tells e.scope c, same_key_tells e.scope d e.name y, same_key_tells b d e.name y)

pub get-take_over_body : (bs : List Binding) (c b : ℕ) (y : Name) → get bs b y ≡ None → get (take_over bs c b) b y ≡ get bs c y
get-take_over_body [] c b y h = refl
get-take_over_body (e ∷ bs) c b y h =
    grind (arith, get-take_over_body bs c b y, eqb_tells e.scope c, same_key_tells e.scope b e.name y, same_key_tells b b e.name y, same_key_tells e.scope c e.name y)

pub get-take_over_kept : (bs : List Binding) (c b : ℕ) (y : Name) → get bs c y ≡ None → get (take_over bs c b) b y ≡ get bs b y
get-take_over_kept [] c b y h = refl
get-take_over_kept (e ∷ bs) c b y h =
    grind (arith, get-take_over_kept bs c b y, eqb_tells e.scope c, same_key_tells e.scope b e.name y, same_key_tells b b e.name y, same_key_tells e.scope c e.name y)
