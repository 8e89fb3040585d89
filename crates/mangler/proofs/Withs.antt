-- Before which scope the bodies of all `with` statements open, scope by scope.
use Rattle.std.proofs.Common.{◌≡◌, ◌⊎◌, inl, inr, ℕ, zero, suc, ◌+◌, ◌<◌, ◌≤◌, List, [], ◌∷◌, Bool, true, false, ◌||◌, nat_lt, length, drop, slice_index_or, refl, sym, ap, ◌∙◌, arith}
use Rattle.std.specs.List.{list_any}
use Rattle.std.proofs.Math.ListN.{drop_of_length-le}
use Rattle.std.proofs.lemmas.Bool.Decides.{Decides-ltb, nat_tests}
use Rattle.semantic_syntax.proofs.Truth.{or_false}
use Rattle.semantic_syntax.specs.Reading.{no_scope}
use Rattle.semantic_syntax.specs.Sets.{meets}
use Rattle.semantic_syntax.specs.Tables.{Scope}
use Rattle.semantic_syntax.specs.declared.scope_flags.TheConstants.ScopeFlags as scope
use Rattle.mangler.specs.Withs.{EndsWith}

abbrev pub opens_with : Scope → Bool
opens_with s = meets s.flags.bits scope.With.bits

abbrev any : List Scope → Bool
any scopes = list_any opens_with scopes

-- so far the bodies open before the end, and the others are among the scopes that are left
pub record SoFar (scopes : List Scope) (number end : ℕ) : Type 0 where
  pub within : end ≤ number
  pub rest : (c : ℕ) → c ≤ number → (nat_lt c end || any (drop number scopes)) ≡ any (drop c scopes)

pub at_first : (scopes : List Scope) → SoFar scopes 0 0
at_first scopes = record {
  within = omega arith;
  rest = λ c h. let none : c ≡ 0 = omega arith in ap (λ b. b || any (drop 0 scopes)) (not_before c) ∙ ap (λ n. any (drop n scopes)) (sym none);
}
  where
    not_before : (c : ℕ) → nat_lt c 0 ≡ false
    not_before c = grind (arith, nat_tests)

next_one : (scopes : List Scope) (number : ℕ) → number < length scopes → any (drop number scopes) ≡ (opens_with (slice_index_or scopes number no_scope) || any (drop (number + 1) scopes))
next_one [] number h = absurd (omega arith)
next_one (s ∷ ss) zero h = refl
next_one (s ∷ ss) (suc n) h = next_one ss n (omega arith) ∙ ap (λ m. opens_with (slice_index_or ss n no_scope) || any (drop m (s ∷ ss))) (more n)
  where
    more : (n : ℕ) → suc (n + 1) ≡ suc n + 1
    more n = omega arith

before : (c end : ℕ) → c < end → nat_lt c end ≡ true
before c end h = (Decides-ltb c end).1 h

not_before : (c end : ℕ) → end ≤ c → nat_lt c end ≡ false
not_before c end h = grind (arith, nat_tests, h)

split : (c n : ℕ) → c ≤ n + 1 → (c ≤ n) ⊎ (c ≡ n + 1)
split c n h = go (nat_lt n c) refl
  where
    go : (b : Bool) → nat_lt n c ≡ b → (c ≤ n) ⊎ (c ≡ n + 1)
    go true e = let more : n < c = (Decides-ltb n c).0 e in inr (omega (arith, more, h))
    go false e = inl (grind (arith, nat_tests, e))

-- a scope that is no such body
pub with_passes : (scopes : List Scope) (number end : ℕ) → number < length scopes → opens_with (slice_index_or scopes number no_scope) ≡ false → SoFar scopes number end → SoFar scopes (number + 1) end
with_passes scopes number end h other far = record { within = let w : end ≤ number = far.within in omega (arith, w); rest = λ c i. go c (split c number i) }
  where
    same : any (drop number scopes) ≡ any (drop (number + 1) scopes)
    same = next_one scopes number h ∙ ap (λ b. b || any (drop (number + 1) scopes)) other

    go : (c : ℕ) → (c ≤ number) ⊎ (c ≡ number + 1) → (nat_lt c end || any (drop (number + 1) scopes)) ≡ any (drop c scopes)
    go c (inl i) = ap (λ b. nat_lt c end || b) (sym same) ∙ far.rest c i
    go c (inr e) =
        let w : end ≤ number = far.within in
        let past : end ≤ c = omega (arith, w, e) in
        ap (λ b. b || any (drop (number + 1) scopes)) (not_before c end past) ∙ ap (λ n. any (drop n scopes)) (sym e)

-- a scope that is one
pub with_found : (scopes : List Scope) (number end : ℕ) → number < length scopes → opens_with (slice_index_or scopes number no_scope) ≡ true → SoFar scopes number end → SoFar scopes (number + 1) (number + 1)
with_found scopes number end h found far = record { within = omega arith; rest = λ c i. go c (split c number i) }
  where
    here : any (drop number scopes) ≡ true
    here = next_one scopes number h ∙ ap (λ b. b || any (drop (number + 1) scopes)) found

    or_true : (b : Bool) → (b || true) ≡ true
    or_true true = refl
    or_true false = refl

    go : (c : ℕ) → (c ≤ number) ⊎ (c ≡ number + 1) → (nat_lt c (number + 1) || any (drop (number + 1) scopes)) ≡ any (drop c scopes)
    go c (inl i) =
        let less : c < number + 1 = omega (arith, i) in
        ap (λ b. b || any (drop (number + 1) scopes)) (before c (number + 1) less)
        ∙ sym (or_true (nat_lt c end)) ∙ ap (λ b. nat_lt c end || b) (sym here) ∙ far.rest c i
    go c (inr e) =
        let past : number + 1 ≤ c = omega (arith, e) in
        ap (λ b. b || any (drop (number + 1) scopes)) (not_before c (number + 1) past) ∙ ap (λ n. any (drop n scopes)) (sym e)

-- no scope is left
pub withs_end : (scopes : List Scope) (number end : ℕ) → length scopes ≤ number → SoFar scopes number end → EndsWith scopes end
withs_end scopes number end h far = λ c inside.
    let i : c ≤ number = omega (arith, h, inside) in
    sym (or_false (nat_lt c end)) ∙ ap (λ ss. nat_lt c end || any ss) (sym (drop_of_length-le scopes h)) ∙ far.rest c i
