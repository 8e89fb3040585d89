-- Scopes and their parents, as scopes are added.
use Rattle.std.proofs.Common.{◌≡◌, ℕ, ◌<◌, ◌≤◌, true, List, [], ◌∷◌, ◌++◌, Option, None, Some, IfSome, length, get_or, map, refl, sym, ap, subst, ◌∙◌, arith, length-append, zero, suc, ⊎_elim}
use Rattle.std.specs.Option.{option_map_or}
use Rattle.std.proofs.Math.Nat.{eq-or-lt_of_le}
use Rattle.std.proofs.Math.ListN.{get_or-append}
use Rattle.std.proofs.Math.Seq.{get_or-append_seam}
use Rattle.std.proofs.lemmas.List.{get_or_past, get_or-map, length-map}
use Rattle.std.proofs.lemmas.Bool.{cases_lt}
use Rattle.semantic_syntax.specs.Tables.{Scope}
use Rattle.scoping.specs.declared.scoping.ScopeRow.{ScopeRow}
use Rattle.scoping.specs.View.{scope_of_row}
use Rattle.semantic_syntax.specs.Source.{chain_within, ends_within}
use Rattle.semantic_syntax.specs.Reading.{no_scope, parent_of, chain, IsForest}

pub parent_of-push : (xs : List Scope) (x : Scope) (s : ℕ) → s < length xs → parent_of (xs ++ x ∷ []) s ≡ parent_of xs s
parent_of-push xs x s below = ap (λ (y : Scope). y.parent) (get_or-append xs (x ∷ []) no_scope s below)

pub parent_of-last : (xs : List Scope) (x : Scope) → parent_of (xs ++ x ∷ []) (length xs) ≡ x.parent
parent_of-last xs x = ap (λ (y : Scope). y.parent) (get_or-append_seam xs x [] no_scope)

pub parent_of-past : (xs : List Scope) (s : ℕ) → length xs ≤ s → parent_of xs s ≡ None
parent_of-past xs s past = ap (λ (y : Scope). y.parent) (get_or_past xs s no_scope past)

module _ (parent : ℕ → Option ℕ) where
  -- a walk that ends within some steps does so within one more
  pub ends_within-more : (steps s : ℕ) → ends_within parent steps s ≡ true → ends_within parent (suc steps) s ≡ true
  unfolding ends_within
  ends_within-more zero s ends = absurd (cc)
  ends_within-more (suc steps) s ends = by (parent s) ends (λ p h. ends_within-more steps p h)
    where
      by : (outer : Option ℕ) → option_map_or (ends_within parent steps) outer true ≡ true
          → ((p : ℕ) → ends_within parent steps p ≡ true → ends_within parent (suc steps) p ≡ true)
          → option_map_or (ends_within parent (suc steps)) outer true ≡ true
      by None h rest = refl
      by (Some p) h rest = rest p h

  -- a walk that ends within some steps is the same with one more
  pub chain_within-more : (steps s : ℕ) → ends_within parent steps s ≡ true → chain_within parent (suc steps) s ≡ chain_within parent steps s
  unfolding ends_within chain_within
  chain_within-more zero s ends = absurd (cc)
  chain_within-more (suc steps) s ends = ap (λ t. s ∷ t) (by (parent s) ends (λ p h. chain_within-more steps p h))
    where
      by : (outer : Option ℕ) → option_map_or (ends_within parent steps) outer true ≡ true
          → ((p : ℕ) → ends_within parent steps p ≡ true → chain_within parent (suc steps) p ≡ chain_within parent steps p)
          → option_map_or (chain_within parent (suc steps)) outer [] ≡ option_map_or (chain_within parent steps) outer []
      by None h rest = refl
      by (Some p) h rest = rest p h

  pub step_within : (steps s p : ℕ) → parent s ≡ Some p → ends_within parent steps s ≡ true → chain_within parent steps s ≡ s ∷ chain_within parent steps p
  unfolding ends_within chain_within
  step_within zero s p outer ends = absurd (cc)
  step_within (suc steps) s p outer ends =
      let rest : ends_within parent steps p ≡ true = sym (ap (λ o. option_map_or (ends_within parent steps) o true) outer) ∙ ends in
      rw outer (ap (λ t. s ∷ t) (sym (chain_within-more steps p rest)))

  pub end_within : (steps s : ℕ) → parent s ≡ None → ends_within parent steps s ≡ true → chain_within parent steps s ≡ s ∷ []
  unfolding ends_within chain_within
  end_within zero s outer ends = absurd (cc)
  end_within (suc steps) s outer ends = rw outer refl

  -- every chain begins with its scope
  pub begins_within : (steps s : ℕ) → ends_within parent steps s ≡ true → (outer : List ℕ) × (chain_within parent steps s ≡ s ∷ outer)
  unfolding ends_within chain_within
  begins_within zero s ends = absurd (cc)
  begins_within (suc steps) s ends = (option_map_or (chain_within parent steps) (parent s) [], refl)

  -- other parents that are the same below some number leave the walks
  pub ends_within-same : (other : ℕ → Option ℕ) (count : ℕ) → ((s : ℕ) → s < count → other s ≡ parent s) → ((s : ℕ) → IfSome (parent s) (λ p. p < count))
      → (steps s : ℕ) → s < count → ends_within parent steps s ≡ true → ends_within other steps s ≡ true
  unfolding ends_within
  ends_within-same other count same exist zero s below ends = absurd (cc)
  ends_within-same other count same exist (suc steps) s below ends =
      rw (same s below) (by (parent s) (exist s) ends (λ p b h. ends_within-same other count same exist steps p b h))
    where
      by : (outer : Option ℕ) → IfSome outer (λ p. p < count) → option_map_or (ends_within parent steps) outer true ≡ true
          → ((p : ℕ) → p < count → ends_within parent steps p ≡ true → ends_within other steps p ≡ true)
          → option_map_or (ends_within other steps) outer true ≡ true
      by None b h rest = refl
      by (Some p) b h rest = rest p b h

-- a scope whose parent is there may be added
pub IsForest-push : (xs : List Scope) (x : Scope) → IsForest xs → IfSome x.parent (λ p. p < length xs) → IsForest (xs ++ x ∷ [])
IsForest-push xs x forest there = record {
  exist = λ s. ⊎_elim
      (λ (l : s < length xs). rw (parent_of-push xs x s l) (grown (parent_of xs s) (forest.exist s)))
      (λ (g : length xs ≤ s). last s g)
      (cases_lt s (length xs));
  ends = λ s below. rw one_more (⊎_elim
      (λ (l : s < length xs). ends_within-more (parent_of (xs ++ x ∷ [])) (length xs) s (kept s l (forest.ends s l)))
      (λ (g : length xs ≤ s). let e : length xs ≡ s = omega (arith, length-append xs (x ∷ [])) in
      subst (λ k. ends_within (parent_of (xs ++ x ∷ [])) (suc (length xs)) k ≡ true) e
      (unfold ends_within in rw (parent_of-last xs x) (outer x.parent there)))
      (cases_lt s (length xs)));
}
  where
    one_more : length (xs ++ x ∷ []) ≡ suc (length xs)
    one_more = omega (arith, length-append xs (x ∷ []))

    kept : (s : ℕ) → s < length xs → ends_within (parent_of xs) (length xs) s ≡ true → ends_within (parent_of (xs ++ x ∷ [])) (length xs) s ≡ true
    kept s l e = ends_within-same (parent_of xs) (parent_of (xs ++ x ∷ [])) (length xs) (λ k b. parent_of-push xs x k b) forest.exist (length xs) s l e

    grown : (parent : Option ℕ) → IfSome parent (λ p. p < length xs) → IfSome parent (λ p. p < length (xs ++ x ∷ []))
    grown None b = tt
    grown (Some p) b = omega (arith, length-append xs (x ∷ []))

    last : (s : ℕ) → length xs ≤ s → IfSome (parent_of (xs ++ x ∷ []) s) (λ p. p < length (xs ++ x ∷ []))
    last s g = ⊎_elim
        (λ (e : length xs ≡ s). subst (λ k. IfSome (parent_of (xs ++ x ∷ []) k) (λ p. p < length (xs ++ x ∷ []))) e (rw (parent_of-last xs x) (grown x.parent there)))
        (λ (l : length xs < s). rw (parent_of-past (xs ++ x ∷ []) s (omega (arith, length-append xs (x ∷ [])))) tt)
        (eq-or-lt_of_le g)

    outer : (parent : Option ℕ) → IfSome parent (λ p. p < length xs) → option_map_or (ends_within (parent_of (xs ++ x ∷ [])) (length xs)) parent true ≡ true
    outer None b = refl
    outer (Some p) b = kept p b (forest.ends p b)

-- a scope comes before its parent's chain
module _ (xs : List Scope) (s : ℕ) (forest : IsForest xs) (below : s < length xs) where
  pub chain-step : (p : ℕ) → parent_of xs s ≡ Some p → chain xs s ≡ s ∷ chain xs p
  chain-step p parent = step_within (parent_of xs) (length xs) s p parent (forest.ends s below)

  pub chain-end : parent_of xs s ≡ None → chain xs s ≡ s ∷ []
  chain-end parent = end_within (parent_of xs) (length xs) s parent (forest.ends s below)

  pub chain-begins : (outer : List ℕ) × (chain xs s ≡ s ∷ outer)
  chain-begins = begins_within (parent_of xs) (length xs) s (forest.ends s below)

-- a scope, and then the chain of its parent
pub chain-next : (xs : List Scope) (s : ℕ) (parent : Option ℕ) → IsForest xs → s < length xs → parent_of xs s ≡ parent → chain xs s ≡ s ∷ option_map_or (chain xs) parent []
chain-next xs s None forest below is = chain-end xs s forest below is
chain-next xs s (Some p) forest below is = chain-step xs s forest below p is

-- the parent that was read at a place
pub parent_of-read : (rows : List ScopeRow) (s i : ℕ) (x : ScopeRow) (parent : Option ℕ) → s < length (map scope_of_row rows) → i ≡ s → x ≡ get_or rows i x → x.parent ≡ parent → parent_of (map scope_of_row rows) s ≡ parent
parent_of-read rows s i x parent below same read is =
    ap (λ (y : Scope). y.parent) (get_or-map scope_of_row rows s x no_scope (rw length-map at below) ∙ sym (ap scope_of_row (read ∙ ap (λ k. get_or rows k x) same))) ∙ is
