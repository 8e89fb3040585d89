-- A scope that gets another parent.
use Rattle.std.proofs.Common.{◌≡◌, ℕ, ◌<◌, ◌≤◌, ◌+◌, ◌||◌, nat_eq, Bool, true, false, List, [], Option, None, Some, IfSome, length, get_or, refl, sym, ap, subst, arith, zero, suc}
use Rattle.std.specs.List.{list_any}
use Rattle.std.specs.Option.{option_map_or}
use Rattle.std.proofs.Math.ListN.{set}
use Rattle.std.proofs.lemmas.List.{length-set, get_or-set_same, get_or-set_other}
use Rattle.std.proofs.lemmas.Bool.{eqb-true, eqb-false}
use Rattle.semantic_syntax.specs.Tables.{Scope}
use Rattle.semantic_syntax.specs.Source.{chain_within, ends_within}
use Rattle.semantic_syntax.specs.Reading.{no_scope, parent_of, chain, IsForest}
use Rattle.scoping.proofs.Walks.{ends_within-le, ends_in_time, one}

-- walks under other parents for one scope
module _ (f g : ℕ → Option ℕ) (s : ℕ) (others : (k : ℕ) → nat_eq s k ≡ false → g k ≡ f k) where
  -- a walk that does not meet the scope stays
  pub missed : (m k : ℕ) → ends_within f m k ≡ true → list_any (nat_eq s) (chain_within f m k) ≡ false → ends_within g m k ≡ true
  unfolding ends_within chain_within
  missed zero k ends absent = absurd (cc)
  missed (suc m) k ends absent = head (nat_eq s k) refl absent (λ p e a. missed m p e a)
    where
      by : (o : Option ℕ) → option_map_or (ends_within f m) o true ≡ true → list_any (nat_eq s) (option_map_or (chain_within f m) o []) ≡ false
          → ((p : ℕ) → ends_within f m p ≡ true → list_any (nat_eq s) (chain_within f m p) ≡ false → ends_within g m p ≡ true) → option_map_or (ends_within g m) o true ≡ true
      by None e h rest = refl
      by (Some p) e h rest = rest p e h

      head : (b : Bool) → nat_eq s k ≡ b → b || list_any (nat_eq s) (option_map_or (chain_within f m) (f k) []) ≡ false
          → ((p : ℕ) → ends_within f m p ≡ true → list_any (nat_eq s) (chain_within f m p) ≡ false → ends_within g m p ≡ true) → option_map_or (ends_within g m) (g k) true ≡ true
      head true same h again = absurd (cc)
      head false other h again = rw (others k other) (by (f k) ends h again)

  -- any other walk ends, or comes to the scope and goes on from there
  pub joined : (more : ℕ) → ends_within g (suc more) s ≡ true → (m k total : ℕ) → m + suc more ≤ total → ends_within f m k ≡ true → ends_within g total k ≡ true
  unfolding ends_within
  joined more from zero k total room ends = absurd (cc)
  joined more from (suc m) k zero room ends = absurd (omega arith)
  joined more from (suc m) k (suc total) room ends = head (nat_eq s k) refl (λ p e. joined more from m p total (omega arith) e)
    where
      by : (o : Option ℕ) → option_map_or (ends_within f m) o true ≡ true → ((p : ℕ) → ends_within f m p ≡ true → ends_within g total p ≡ true) → option_map_or (ends_within g total) o true ≡ true
      by None e rest = refl
      by (Some p) e rest = rest p e

      head : (b : Bool) → nat_eq s k ≡ b → ((p : ℕ) → ends_within f m p ≡ true → ends_within g total p ≡ true) → ends_within g (suc total) k ≡ true
      head true same again = subst (λ i. ends_within g (suc total) i ≡ true) (eqb-true s k same) (ends_within-le g (suc more) (suc total) s (omega arith) from)
      head false other again = rw (others k other) (by (f k) ends again)

-- the scopes with another parent for one, from which it is not reached, make no cycle
pub IsForest-reparent : (xs : List Scope) (s : ℕ) (parent : Option ℕ) → IsForest xs → s < length xs → IfSome parent (λ p. p < length xs)
    → IfSome parent (λ p. list_any (nat_eq s) (chain xs p) ≡ false) → IsForest (set xs s (record (get_or xs s no_scope) { parent = parent }))
IsForest-reparent xs s parent forest within there acyclic = record {
  exist = λ k. subst (λ n. IfSome (parent_of ys k) (λ p. p < n)) (sym count) (exist k);
  ends = λ k below. subst (λ n. ends_within (parent_of ys) n k ≡ true) (sym count)
      (ends_in_time (parent_of ys) (length xs + suc (length xs)) (length xs) exist k (rw count at below)
      (joined (parent_of xs) (parent_of ys) s others (length xs) (from parent there acyclic here) (length xs) k (length xs + suc (length xs)) (omega arith) (forest.ends k (rw count at below))));
}
  where
    ys : List Scope
    ys = set xs s (record (get_or xs s no_scope) { parent = parent })

    count : length ys ≡ length xs
    count = length-set xs s (record (get_or xs s no_scope) { parent = parent })

    here : parent_of ys s ≡ parent
    here = ap (λ (x : Scope). x.parent) (get_or-set_same xs s (record (get_or xs s no_scope) { parent = parent }) no_scope within)

    others : (k : ℕ) → nat_eq s k ≡ false → parent_of ys k ≡ parent_of xs k
    others k other = ap (λ (x : Scope). x.parent) (get_or-set_other xs s k (record (get_or xs s no_scope) { parent = parent }) no_scope (λ same. eqb-false s k other (sym same)))

    exist : (k : ℕ) → IfSome (parent_of ys k) (λ p. p < length xs)
    exist k = by (nat_eq s k) refl
      where
        by : (b : Bool) → nat_eq s k ≡ b → IfSome (parent_of ys k) (λ p. p < length xs)
        by true same = subst (λ i. IfSome (parent_of ys i) (λ p. p < length xs)) (eqb-true s k same) (rw here there)
        by false other = rw (others k other) (forest.exist k)

    from : (q : Option ℕ) → IfSome q (λ p. p < length xs) → IfSome q (λ p. list_any (nat_eq s) (chain xs p) ≡ false) → parent_of ys s ≡ q → ends_within (parent_of ys) (suc (length xs)) s ≡ true
    from None l a is = one (parent_of ys) s (length xs) None is refl
    from (Some p) l a is = one (parent_of ys) s (length xs) (Some p) is (missed (parent_of xs) (parent_of ys) s others (length xs) p (forest.ends p l) a)
