-- Entries of which no two are of one node.
use Rattle.std.proofs.Common.{◌≡◌, ℕ, List, [], ◌∷◌, ◌++◌, Bool, true, false, if◌then◌else◌, nat_eq, refl, sym, subst}
use Rattle.std.specs.List.{AllByRecursion, IsDistinct}
use Rattle.std.specs.Map.{keys_of}
use Rattle.std.proofs.lemmas.Bool.{eqb-false, ne_eqb}
use Rattle.std.proofs.lemmas.Map.Keys.{IsDistinct-cons, IsDistinct-head, IsDistinct-tail}
use Rattle.indexmap.specs.IndexMap.{insert_entry}

pub no_keys : IsDistinct nat_eq []
unfolding IsDistinct
no_keys = tt

module _ {X : Type 0} where
  -- a node that is apart from all stays so from one more
  others : (q k : ℕ) (v : X) (es : List (ℕ × X)) → nat_eq q k ≡ false → AllByRecursion (λ y. nat_eq q y ≡ false) (keys_of es) → AllByRecursion (λ y. nat_eq q y ≡ false) (keys_of (insert_entry nat_eq es k v))
  others q k v [] apart all = (apart, tt)
  others q k v (e ∷ es) apart all = by (nat_eq k e.0) (others q k v es apart all.1)
    where
      by : (b : Bool) → AllByRecursion (λ y. nat_eq q y ≡ false) (keys_of (insert_entry nat_eq es k v)) → AllByRecursion (λ y. nat_eq q y ≡ false) (keys_of (if b then (e.0, v) ∷ es else e ∷ insert_entry nat_eq es k v))
      by true rest = all
      by false rest = (all.0, rest)

  -- with one more value no node has two
  pub one_more : (k : ℕ) (v : X) (es : List (ℕ × X)) → IsDistinct nat_eq (keys_of es) → IsDistinct nat_eq (keys_of (insert_entry nat_eq es k v))
  one_more k v [] d = IsDistinct-cons nat_eq k [] tt d
  one_more k v (e ∷ es) d =
      by (nat_eq k e.0)
      (λ apart. IsDistinct-cons nat_eq e.0 (keys_of (insert_entry nat_eq es k v)) (others e.0 k v es (ne_eqb e.0 k (λ same. eqb-false k e.0 apart (sym same))) (IsDistinct-head nat_eq e.0 (keys_of es) d)) (one_more k v es (IsDistinct-tail nat_eq e.0 (keys_of es) d)))
      refl
    where
      by : (b : Bool) → (nat_eq k e.0 ≡ false → IsDistinct nat_eq (e.0 ∷ keys_of (insert_entry nat_eq es k v))) → nat_eq k e.0 ≡ b → IsDistinct nat_eq (keys_of (if b then (e.0, v) ∷ es else e ∷ insert_entry nat_eq es k v))
      by true new is = d
      by false new is = new is

  -- entries that come of one more value are of different nodes
  pub stays_apart : (es fs now : List (ℕ × X)) (k : ℕ) (v : X) → IsDistinct nat_eq (keys_of (es ++ fs)) → now ≡ insert_entry nat_eq (es ++ fs) k v → IsDistinct nat_eq (keys_of now)
  stays_apart es fs now k v d is = subst (λ xs. IsDistinct nat_eq (keys_of xs)) (sym is) (one_more k v (es ++ fs) d)
