-- The scopes outward from one: the first and the last.
use Rattle.std.proofs.Common.{◌≡◌, ℕ, ◌<◌, ◌-◌, zero, suc, true, List, [], ◌∷◌, Option, None, Some, length, get_or, slice_get, refl, ap, subst, ◌∙◌, arith}
use Rattle.std.specs.Option.{option_map_or}
use Rattle.semantic_syntax.specs.Tables.{Scope}
use Rattle.scoping.specs.Ancestry.{RunsOutward}
use Rattle.semantic_syntax.specs.Reading.{parent_of, chain, IsForest}
use Rattle.semantic_syntax.specs.Source.{chain_within, ends_within}
use Rattle.scoping.proofs.Walks.{never, goes_on, walk_distinct}

last_cons : (x d : ℕ) (xs : List ℕ) → 0 < length xs → get_or (x ∷ xs) (length (x ∷ xs) - 1) d ≡ get_or xs (length xs - 1) d
last_cons x d xs some =
    let e : suc (length xs - 1) ≡ length (x ∷ xs) - 1 = omega arith in
    subst (λ n. get_or (x ∷ xs) n d ≡ get_or xs (length xs - 1) d) e refl

module _ (g : ℕ → Option ℕ) where
  begins_with : (m k : ℕ) → ends_within g m k ≡ true → slice_get (chain_within g m k) 0 ≡ Some k
  unfolding chain_within
  begins_with zero k ends = absurd (never g k ends)
  begins_with (suc m) k ends = refl

  some_within : (m k : ℕ) → ends_within g m k ≡ true → 0 < length (chain_within g m k)
  unfolding chain_within
  some_within zero k ends = absurd (never g k ends)
  some_within (suc m) k ends = omega arith

  last_has_none : (m k d : ℕ) → ends_within g m k ≡ true → g (get_or (chain_within g m k) (length (chain_within g m k) - 1) d) ≡ None
  unfolding chain_within
  last_has_none zero k d ends = absurd (never g k ends)
  last_has_none (suc m) k d ends = by (g k) refl (λ p e. last_has_none m p d e)
    where
      by : (o : Option ℕ) → g k ≡ o → ((p : ℕ) → ends_within g m p ≡ true → g (get_or (chain_within g m p) (length (chain_within g m p) - 1) d) ≡ None)
          → g (get_or (k ∷ option_map_or (chain_within g m) o []) (length (k ∷ option_map_or (chain_within g m) o []) - 1) d) ≡ None
      by None is again = is
      by (Some p) is again =
          let inner = goes_on g m k p is ends in
          ap g (last_cons k d (chain_within g m p) (some_within m p inner)) ∙ again p inner

pub runs_outward : (scopes : List Scope) (s : ℕ) → IsForest scopes → s < length scopes → RunsOutward scopes s (chain scopes s)
runs_outward scopes s forest within =
    let g = parent_of scopes in
    let ends = forest.ends s within in
    record {
      begins = begins_with g (length scopes) s ends;
      ends = last_has_none g (length scopes) s s ends;
      repeats_none = walk_distinct g (length scopes) (length scopes) s ends ends;
    }
