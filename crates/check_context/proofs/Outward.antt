-- The scopes outward from one: the first of them, and searches along them.
use Rattle.std.proofs.Common.{◌≡◌, ℕ, zero, suc, ◌<◌, [], ◌∷◌, Bool, true, false, Option, Some, refl, sym, ap, subst, ◌∙◌, length, inl, inr, arith}
use Rattle.std.specs.Prelude.{IfSome, find, map}
use Rattle.std.specs.Option.{option_map_or}
use Rattle.std.proofs.lemmas.Option.{slice_get_cases}
use Rattle.semantic_syntax.specs.Tables.{Tables}
use Rattle.semantic_syntax.specs.Source.{IsSource, chain_within}
use Rattle.semantic_syntax.specs.Told.{source_of}
use Rattle.semantic_syntax.specs.Reading.{parent_of, chain, IsForest}
use Rattle.scoping.proofs.Parents.{chain-next, parent_of-past}
use Rattle.check_model.specs.Context.{seen_row}
use Rattle.check_model.specs.Search.{first}

first_within : {A : Type 0} (f : ℕ → A) (parent : ℕ → Option ℕ) (count s : ℕ) → 0 < count → first (map f (chain_within parent count s)) ≡ Some (f s)
unfolding chain_within
first_within f parent zero s h = absurd (omega (arith, h))
first_within f parent (suc count) s h = refl

-- the scope itself comes first
pub first_seen : (t : Tables) (s : ℕ) → s < length t.scopes → first (map (seen_row t) (chain t.scopes s)) ≡ Some (seen_row t s)
first_seen t s h = first_within (seen_row t) (parent_of t.scopes) (length t.scopes) s (omega (arith, h))

pub ruleset here = (first_seen)

module _ (t : Tables) (h : IsSource (source_of t)) where
  exist : (s : ℕ) → IfSome (parent_of t.scopes s) (λ p. p < length t.scopes)
  exist s = elim (slice_get_cases t.scopes s).1 [
    | inl q ↦ h.parents s q.1
    | inr q ↦ subst (λ (p : Option ℕ). IfSome p (λ p. p < length t.scopes)) (sym (parent_of-past t.scopes s q.0)) tt
  ]

  pub forest : IsForest t.scopes
  forest = record { exist = exist; ends = h.ends }

  -- a scope, and then those outward from the one around it
  pub next : (s : ℕ) (parent : Option ℕ) → s < length t.scopes → parent_of t.scopes s ≡ parent → chain t.scopes s ≡ s ∷ option_map_or (chain t.scopes) parent []
  next s parent within is = chain-next t.scopes s parent forest within is

  pub shorter : (s p : ℕ) → s < length t.scopes → parent_of t.scopes s ≡ Some p → length (chain t.scopes p) < length (chain t.scopes s)
  shorter s p within is = omega (arith, ap length (next s (Some p) within is))

  module _ {A : Type 0} (f : ℕ → A) (test : A → Bool) where
    pub found : (s : ℕ) → s < length t.scopes → test (f s) ≡ true → find test (map f (chain t.scopes s)) ≡ Some (f s)
    found s within passes = ap (λ l. find test (map f l)) (next s (parent_of t.scopes s) within refl) ∙ (rw passes refl)

    pub passed : (s : ℕ) (parent : Option ℕ) → s < length t.scopes → parent_of t.scopes s ≡ parent → test (f s) ≡ false
        → find test (map f (chain t.scopes s)) ≡ find test (map f (option_map_or (chain t.scopes) parent []))
    passed s parent within is fails = ap (λ l. find test (map f l)) (next s parent within is) ∙ (rw fails refl)
