-- What one scope binds, after a change in the list of all bindings.
use Rattle.std.proofs.Common.{◌≡◌, ℕ, List, [], ◌∷◌, refl, sym, ap, subst, ◌∙◌, None, cond, true, inl, inr, ◌==◌, bytes_eq, arith}
use Rattle.std.specs.Map.{lookup}
use Rattle.std.proofs.lemmas.Bool.Decides.{eqb_tells}
use Rattle.indexmap.specs.IndexMap.{insert_entry, shift_remove_entry}
use Rattle.semantic_syntax.specs.Tables.{Name, Bindings}
use Rattle.semantic_model.specs.Binding.{Binding, is_binding_of, get, put, remove, take_over, bound_by}
use Rattle.semantic_model.proofs.lists.BindingLaws.{is_of_tells, same_key_tells, get-put, get-remove, get-take_over_body, get-take_over_other}
use Rattle.semantic_model.proofs.once.ListedUnder.{name_tells}
use Rattle.semantic_model.proofs.fits.Outwards.{lookup-bound_by}

-- each scope binds a name once
abbrev pub IsSingle : List Binding → Type 0
IsSingle [] = Unit {0}
IsSingle (b ∷ bs) = (get bs b.scope b.name ≡ None) × IsSingle bs

pub put_here : (bs : List Binding) (c : ℕ) (x : Name) (y : ℕ) → bound_by (put bs c x y) c ≡ insert_entry bytes_eq (bound_by bs c) x y
put_here [] c x y = grind (arith, eqb_tells c c)
put_here (b ∷ bs) c x y = grind (arith, put_here bs c x y, eqb_tells b.scope c, name_tells b.name x, name_tells x b.name)

pub put_elsewhere : (bs : List Binding) (c : ℕ) (x : Name) (y d : ℕ) → (c ≡ d → ⊥) → bound_by (put bs c x y) d ≡ bound_by bs d
put_elsewhere [] c x y d n = grind (arith, eqb_tells c d)
put_elsewhere (b ∷ bs) c x y d n = grind (arith, put_elsewhere bs c x y d n, is_of_tells c x b, eqb_tells b.scope d)

pub remove_absent : (bs : List Binding) (c : ℕ) (x : Name) → get bs c x ≡ None → remove bs c x ≡ bs
remove_absent [] c x h = refl
remove_absent (b ∷ bs) c x h = grind (arith, remove_absent bs c x, is_of_tells c x b)

pub remove_here : (bs : List Binding) (c : ℕ) (x : Name) → IsSingle bs → bound_by (remove bs c x) c ≡ shift_remove_entry (bytes_eq x) (bound_by bs c)
remove_here [] c x h = refl
remove_here (b ∷ bs) c x h = elim (is_of_tells c x b) [
  | inl k ↦ here k
  | inr k ↦ grind (arith, remove_here bs c x h.1, eqb_tells b.scope c, name_tells b.name x, name_tells x b.name)
]
  where
    here : (is_binding_of c x b ≡ true) × (b.scope ≡ c) × (b.name ≡ x) → bound_by (remove (b ∷ bs) c x) c ≡ shift_remove_entry (bytes_eq x) (bound_by (b ∷ bs) c)
    here k =
        let absent : get bs c x ≡ None = rw (k.1, k.2) at h.0 in
        grind (arith, remove_absent bs c x absent, eqb_tells b.scope c, name_tells b.name x, name_tells x b.name)

pub remove_elsewhere : (bs : List Binding) (c : ℕ) (x : Name) (d : ℕ) → (c ≡ d → ⊥) → bound_by (remove bs c x) d ≡ bound_by bs d
remove_elsewhere [] c x d n = refl
remove_elsewhere (b ∷ bs) c x d n = grind (arith, remove_elsewhere bs c x d n, is_of_tells c x b, eqb_tells b.scope d)

pub taken_here : (bs : List Binding) (c b : ℕ) → bound_by bs b ≡ [] → bound_by (take_over bs c b) b ≡ bound_by bs c
taken_here [] c b h = refl
taken_here (e ∷ bs) c b h = grind (arith, taken_here bs c b, eqb_tells e.scope c, eqb_tells e.scope b, eqb_tells b b)

pub taken_from : (bs : List Binding) (c b : ℕ) → (c ≡ b → ⊥) → bound_by (take_over bs c b) c ≡ []
taken_from [] c b n = refl
taken_from (e ∷ bs) c b n = grind (arith, taken_from bs c b n, eqb_tells e.scope c, eqb_tells b c)

pub taken_elsewhere : (bs : List Binding) (c b d : ℕ) → (c ≡ d → ⊥) → (b ≡ d → ⊥) → bound_by (take_over bs c b) d ≡ bound_by bs d
taken_elsewhere [] c b d n m = refl
taken_elsewhere (e ∷ bs) c b d n m = grind (arith, taken_elsewhere bs c b d n m, eqb_tells e.scope c, eqb_tells e.scope d, eqb_tells b d)

-- each scope still binds a name once
pub put_single : (bs : List Binding) (c : ℕ) (x : Name) (y : ℕ) → IsSingle bs → IsSingle (put bs c x y)
put_single [] c x y h = (refl, tt)
put_single (b ∷ bs) c x y h = elim (is_of_tells c x b) [
  | inl k ↦ rw k.0 h
  | inr k ↦ rw k.0 (grind (arith, get-put bs c x y b.scope b.name, same_key_tells c b.scope x b.name), put_single bs c x y h.1)
]

pub remove_single : (bs : List Binding) (c : ℕ) (x : Name) → IsSingle bs → IsSingle (remove bs c x)
remove_single [] c x h = tt
remove_single (b ∷ bs) c x h = elim (is_of_tells c x b) [
  | inl k ↦ rw k.0 (remove_single bs c x h.1)
  | inr k ↦ rw k.0 (grind (arith, get-remove bs c x b.scope b.name, same_key_tells c b.scope x b.name), remove_single bs c x h.1)
]

taken_get : (bs : List Binding) (c b d : ℕ) (x : Name) → bound_by bs b ≡ [] → (c ≡ b → ⊥) → get (take_over bs c b) d x ≡ cond (d == b) (get bs c x) (cond (d == c) None (get bs d x))
taken_get bs c b d x h n = elim (eqb_tells d b) [
  | inl k ↦ rw k.0 (subst (λ e. get (take_over bs c b) e x ≡ get bs c x) (sym k.1) (get-take_over_body bs c b x (sym (lookup-bound_by bs b x) ∙ ap (lookup (bytes_eq x)) h)))
  | inr k ↦ rw k.0 (other k.1)
]
  where
    other : (d ≡ b → ⊥) → get (take_over bs c b) d x ≡ cond (d == c) None (get bs d x)
    other k = elim (eqb_tells d c) [
      | inl e ↦ rw e.0 (subst (λ m. get (take_over bs c b) m x ≡ None) (sym e.1) (sym (lookup-bound_by (take_over bs c b) c x) ∙ ap (lookup (bytes_eq x)) (taken_from bs c b n)))
      | inr e ↦ rw e.0 (get-take_over_other bs c b d x e.1 k)
    ]

none_bound : (b : Binding) (bs : List Binding) (c : ℕ) → bound_by (b ∷ bs) c ≡ [] → (b.scope ≡ c → ⊥) × (bound_by bs c ≡ [])
none_bound b bs c h = elim (eqb_tells b.scope c) [
  | inl k ↦ (let q : ◌≡◌ {A = Bindings} ((b.name, b.symbol) ∷ bound_by bs c) [] = rw k.0 at h in absurd cc)
  | inr k ↦ (k.1, rw k.0 at h)
]

pub taken_single : (bs : List Binding) (c b : ℕ) → bound_by bs b ≡ [] → (c ≡ b → ⊥) → IsSingle bs → IsSingle (take_over bs c b)
taken_single [] c b h n s = tt
taken_single (e ∷ bs) c b h n s =
    let free : (e.scope ≡ b → ⊥) × (bound_by bs b ≡ []) = none_bound e bs b h in (
      elim (eqb_tells e.scope c) [
        | inl k ↦ rw k.0 (taken_get bs c b b e.name free.1 n ∙ grind (arith, eqb_tells b b, s.0, k.1))
        | inr k ↦ rw k.0 (taken_get bs c b e.scope e.name free.1 n ∙ grind (arith, eqb_tells e.scope b, free.0, k.0, s.0))
      ],
      taken_single bs c b free.1 n s.1,
    )
