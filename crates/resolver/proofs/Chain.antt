-- Walks outward from a scope.
use Rattle.std.proofs.Common.{◌≡◌, ℕ, ◌<◌, ◌==◌, true, false, List, [], ◌∷◌, Option, None, Some, refl, sym, ap, ◌∙◌, zero, suc, length, arith}
use Rattle.std.specs.Option.{option_map_or}
use Rattle.semantic_syntax.specs.Source.{Source, chain_within, ends_within, chain, IsSource}
use Rattle.semantic_syntax.specs.Members.{contains}

-- a walk that ends within some steps is the same with one more
chain_within-more : (parent : ℕ → Option ℕ) (count s : ℕ) → ends_within parent count s ≡ true → chain_within parent (suc count) s ≡ chain_within parent count s
unfolding ends_within chain_within
chain_within-more parent zero s ends = absurd (cc)
chain_within-more parent (suc count) s ends = ap (λ t. s ∷ t) (by (parent s) ends (λ p h. chain_within-more parent count p h))
  where
    by : (outer : Option ℕ) → option_map_or (ends_within parent count) outer true ≡ true
        → ((p : ℕ) → ends_within parent count p ≡ true → chain_within parent (suc count) p ≡ chain_within parent count p)
        → option_map_or (chain_within parent (suc count)) outer [] ≡ option_map_or (chain_within parent count) outer []
    by None h rest = refl
    by (Some p) h rest = rest p h

step_within : (parent : ℕ → Option ℕ) (count s p : ℕ) → parent s ≡ Some p → ends_within parent count s ≡ true → chain_within parent count s ≡ s ∷ chain_within parent count p
unfolding ends_within chain_within
step_within parent zero s p outer ends = absurd (cc)
step_within parent (suc count) s p outer ends =
    let rest : ends_within parent count p ≡ true = sym (ap (λ o. option_map_or (ends_within parent count) o true) outer) ∙ ends in
    rw outer (ap (λ t. s ∷ t) (sym (chain_within-more parent count p rest)))

end_within : (parent : ℕ → Option ℕ) (count s : ℕ) → parent s ≡ None → 0 < count → chain_within parent count s ≡ s ∷ []
unfolding chain_within
end_within parent zero s outer some = absurd (omega arith)
end_within parent (suc count) s outer some = rw outer refl

begin_within : (parent : ℕ → Option ℕ) (count s : ℕ) → 0 < count → (outer : List ℕ) × (chain_within parent count s ≡ s ∷ outer)
unfolding chain_within
begin_within parent zero s some = absurd (omega arith)
begin_within parent (suc count) s some = (option_map_or (chain_within parent count) (parent s) [], refl)

module _ (source : Source) (s : ℕ) (below : s < source.scopes) where
  pub chain-begins : (outer : List ℕ) × (chain source s ≡ s ∷ outer)
  chain-begins = begin_within source.parent source.scopes s (omega arith)

  pub chain-end : source.parent s ≡ None → chain source s ≡ s ∷ []
  chain-end outer = end_within source.parent source.scopes s outer (omega arith)

  pub chain-step : IsSource source → (p : ℕ) → source.parent s ≡ Some p → chain source s ≡ s ∷ chain source p
  chain-step law p outer = step_within source.parent source.scopes s p outer (law.ends s below)

  pub parent-within : IsSource source → (p : ℕ) → source.parent s ≡ Some p → p < source.scopes
  parent-within law p outer = rw outer at (law.parents s below)

  pub shorter : IsSource source → (p : ℕ) → source.parent s ≡ Some p → length (chain source p) < length (chain source s)
  shorter law p outer = omega (arith, ap length (chain-step law p outer))

-- the first of a list is the scope
has_here : (s scope : ℕ) (ss : List ℕ) → (s == scope) ≡ true → contains (s ∷ ss) scope ≡ true
has_here s scope ss h = rw h refl

has_further : (s scope : ℕ) (ss : List ℕ) → (s == scope) ≡ false → contains (s ∷ ss) scope ≡ contains ss scope
has_further s scope ss h = rw h refl

-- a walk from `inner` in search of the scope has come to `at`
pub record HasComeOut (source : Source) (inner scope at : ℕ) : Type 0 where
  pub within : at < source.scopes
  pub rest : contains (chain source inner) scope ≡ contains (chain source at) scope

module _ (source : Source) (inner scope at : ℕ) (come : HasComeOut source inner scope at) where
  pub out_found : (at == scope) ≡ true → true ≡ contains (chain source inner) scope
  out_found here =
      let begins = chain-begins source at come.within in
      sym (come.rest ∙ ap (λ ss. contains ss scope) begins.1 ∙ has_here at scope begins.0 here)

  pub out_ended : (at == scope) ≡ false → source.parent at ≡ None → false ≡ contains (chain source inner) scope
  out_ended passed root = sym (come.rest ∙ ap (λ ss. contains ss scope) (chain-end source at come.within root) ∙ has_further at scope [] passed)

  pub out_further : IsSource source → (p : ℕ) → (at == scope) ≡ false → source.parent at ≡ Some p → HasComeOut source inner scope p
  out_further law p passed outer = record {
    within = parent-within source at come.within law p outer;
    rest = come.rest ∙ ap (λ ss. contains ss scope) (chain-step source at come.within law p outer) ∙ has_further at scope (chain source p) passed;
  }
