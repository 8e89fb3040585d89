-- Where marks are those of a set, the numbers without a mark are those outside.
use Rattle.std.proofs.Common.{◌≡◌, ◌<◌, ◌+◌, ℕ, zero, suc, List, [], ◌∷◌, Bool, true, false, cond, length, refl, sym, subst, inl, inr, arith}
use Rattle.reachability.specs.Rows.{Among}
use Rattle.reachability.specs.Marked.{is_marked}
use Rattle.name_lint.specs.Live.{IsRising, AreOutsideSet, unmarked_from}

pub record Unmarked (k : ℕ) (marks : List Bool) (x : ℕ) : Type 0 where
  pub place : ℕ
  pub is : k + place ≡ x
  pub below : place < length marks
  pub off : is_marked marks place ≡ false

one_later : (k : ℕ) (b : Bool) (bs : List Bool) (x : ℕ) → Unmarked (k + 1) bs x → Unmarked k (b ∷ bs) x
one_later k b bs x u = record {
  place = suc u.place;
  is = (let e : k + 1 + u.place ≡ x = u.is in omega (arith, e));
  below = (let l : u.place < length bs = u.below in omega (arith, l));
  off = u.off;
}

listed : (k : ℕ) (marks : List Bool) (x : ℕ) → Among x (unmarked_from k marks) → Unmarked k marks x
listed k [] x a = absurd a
listed k (b ∷ bs) x a = by b refl a (λ i. one_later k b bs x (listed (k + 1) bs x i))
  where
    by : (c : Bool) → b ≡ c → Among x (cond c (unmarked_from (k + 1) bs) (k ∷ unmarked_from (k + 1) bs)) → (Among x (unmarked_from (k + 1) bs) → Unmarked k (b ∷ bs) x) → Unmarked k (b ∷ bs) x
    by true e i later = later i
    by false e (inl same) later = record { place = 0; is = omega (arith, same); below = omega arith; off = e }
    by false e (inr i) later = later i

all_listed : (k : ℕ) (marks : List Bool) (place : ℕ) → place < length marks → is_marked marks place ≡ false → Among (k + place) (unmarked_from k marks)
all_listed k [] place l off = absurd (omega arith)
all_listed k (b ∷ bs) zero l off = subst (λ c. Among (k + 0) (cond c (unmarked_from (k + 1) bs) (k ∷ unmarked_from (k + 1) bs))) (sym off) (inl (omega arith))
all_listed k (b ∷ bs) (suc place) l off = by b (subst (λ n. Among n (unmarked_from (k + 1) bs)) (omega arith) (all_listed (k + 1) bs place (omega arith) off))
  where
    by : (c : Bool) → Among (k + suc place) (unmarked_from (k + 1) bs) → Among (k + suc place) (cond c (unmarked_from (k + 1) bs) (k ∷ unmarked_from (k + 1) bs))
    by true i = i
    by false i = inr i

behind : (k : ℕ) (bs : List Bool) (y : ℕ) → Among y (unmarked_from (k + 1) bs) → k < y
behind k bs y i = let u : Unmarked (k + 1) bs y = listed (k + 1) bs y i in let e : k + 1 + u.place ≡ y = u.is in omega (arith, e)

rises : (k : ℕ) (marks : List Bool) → IsRising (unmarked_from k marks)
rises k [] = tt
rises k (b ∷ bs) = by b (rises (k + 1) bs)
  where
    by : (c : Bool) → IsRising (unmarked_from (k + 1) bs) → IsRising (cond c (unmarked_from (k + 1) bs) (k ∷ unmarked_from (k + 1) bs))
    by true r = r
    by false r = (behind k bs, r)

module _ (marks : List Bool) (Set : ℕ → Type 0) (sound : (s : ℕ) → is_marked marks s ≡ true → Set s) (complete : (s : ℕ) → Set s → is_marked marks s ≡ true) where
  out : (x : ℕ) → Among x (unmarked_from 0 marks) → (x < length marks) × (Set x → ⊥)
  out x a =
      let u : Unmarked 0 marks x = listed 0 marks x a in
      let is : u.place ≡ x = (let e : 0 + u.place ≡ x = u.is in omega (arith, e)) in
      (subst (λ n. n < length marks) is u.below, λ s. let on : is_marked marks x ≡ true = complete x s in let off : is_marked marks x ≡ false = subst (λ n. is_marked marks n ≡ false) is u.off in absurd cc)

  back : (x : ℕ) → (x < length marks) × (Set x → ⊥) → Among x (unmarked_from 0 marks)
  back x h = by (is_marked marks x) refl
    where
      by : (b : Bool) → is_marked marks x ≡ b → Among x (unmarked_from 0 marks)
      by true e = absurd (h.1 (sound x e))
      by false e = subst (λ n. Among n (unmarked_from 0 marks)) (omega arith) (all_listed 0 marks x h.0 e)

  pub outside : (xs : List ℕ) → xs ≡ unmarked_from 0 marks → AreOutsideSet (length marks) Set xs
  outside xs e = subst (AreOutsideSet (length marks) Set) (sym e) (record { rises = rises 0 marks; exact = λ x. (out x, back x) })
