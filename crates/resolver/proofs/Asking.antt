-- A look-up, scope by scope.
use Rattle.std.proofs.Common.{◌≡◌, ℕ, suc, ◌<◌, ◌≤◌, ◌+◌, arith, sym, Bool, true, false, cond, List, [], ◌∷◌, Option, None, Some, map, refl, ap, ◌∙◌, length, take, get_or}
use Rattle.std.specs.List.{sum_by}
use Rattle.std.specs.Option.{option_map}
use Rattle.std.proofs.lemmas.List.Sums.{sum_by-cons, sum_by_more_le}
use Rattle.semantic_syntax.specs.Counts.{raised}
use Rattle.semantic_syntax.specs.Tables.{Name}
use Rattle.semantic_syntax.specs.Source.{Source, IsSource, chain}
use Rattle.semantic_syntax.specs.Lookup.{Lookup, tied, barred, unanswered, ends_after, tied_by, or_lookup, lookup, count_or, probes_in}
use Rattle.semantic_syntax.specs.Outcome.{Pending, answer, answered}
use Rattle.resolver.specs.declared.outcomes.Outcome.{Outcome}
use Rattle.resolver.specs.declared.outcomes.Outcome.TheVariants.{Tied, Free}
use Rattle.resolver.specs.declared.pending.UnresolvedReference.{UnresolvedReference}
use Rattle.resolver.specs.Terms.{outcome_of, pending_of, IsTied, ends_at, up_to_last, scopes_from}
use Rattle.resolver.proofs.Chain.{chain-begins, chain-step, chain-end, parent-within}

-- one probe and then some are one more
raised_twice : (now n : ℕ) → raised now (suc n) ≡ raised (raised now 1) n
raised_twice now n = omega arith

up_to_last-cons : (last : Option ℕ) (s : ℕ) (ss : List ℕ) → up_to_last last (s ∷ ss) ≡ s ∷ cond (ends_at last s) [] (up_to_last last ss)
up_to_last-cons None s ss = refl
up_to_last-cons (Some l) s ss = refl

up_to_last-nil : (last : Option ℕ) → up_to_last last [] ≡ []
up_to_last-nil None = refl
up_to_last-nil (Some l) = refl

same_cond : (b : Bool) (x : List ℕ) → cond b x x ≡ x
same_cond true x = refl
same_cond false x = refl

module _ (source : Source) (x : Name) (w : ℕ) where
  -- what the scopes give
  abbrev found : List ℕ → Lookup
  found ss = lookup x w (map (answer source x) ss)

  -- how many of them are asked
  abbrev probes : List ℕ → ℕ
  probes ss = probes_in x w (map (answer source x) ss)

  -- what the scope ties
  abbrev tie : ℕ → Option Lookup
  tie s = tied_by x w s (answer source x s).bound

  -- whether the look-up ends after the scope
  abbrev ends : ℕ → Bool
  ends s = ends_after x w (source.scope_flags s)

  module _ (s : ℕ) (ss : List ℕ) where
    found-tied : (l : Lookup) → tie s ≡ Some l → found (s ∷ ss) ≡ l
    found-tied l is = ap (λ o. or_lookup o (cond (ends s) (barred s) (found ss))) is

    probes-tied : (l : Lookup) → tie s ≡ Some l → probes (s ∷ ss) ≡ 1
    probes-tied l is = ap (λ o. count_or o (cond (ends s) 0 (probes ss))) is

    found-ended : tie s ≡ None → ends s ≡ true → found (s ∷ ss) ≡ barred s
    found-ended none ended = ap (λ o. or_lookup o (cond (ends s) (barred s) (found ss))) none ∙ ap (λ b. cond b (barred s) (found ss)) ended

    probes-ended : tie s ≡ None → ends s ≡ true → probes (s ∷ ss) ≡ 1
    probes-ended none ended = ap (λ o. count_or o (cond (ends s) 0 (probes ss))) none ∙ ap (λ b. suc (cond b 0 (probes ss))) ended

    found-passed : tie s ≡ None → ends s ≡ false → found (s ∷ ss) ≡ found ss
    found-passed none goes = ap (λ o. or_lookup o (cond (ends s) (barred s) (found ss))) none ∙ ap (λ b. cond b (barred s) (found ss)) goes

    probes-passed : tie s ≡ None → ends s ≡ false → probes (s ∷ ss) ≡ suc (probes ss)
    probes-passed none goes = ap (λ o. count_or o (cond (ends s) 0 (probes ss))) none ∙ ap (λ b. suc (cond b 0 (probes ss))) goes

-- a look-up that began at `first` with `before` probes has come to `s` with `now` probes
pub record HasCome (source : Source) (x : Name) (w : ℕ) (last : Option ℕ) (first s before now : ℕ) : Type 0 where
  pub within : s < source.scopes
  pub rest : found source x w (scopes_from source last first) ≡ found source x w (scopes_from source last s)
  pub cost : raised before (probes source x w (scopes_from source last first)) ≡ raised now (probes source x w (scopes_from source last s))

-- what the look-up gives, with the probes after it
pub record HasEnded (source : Source) (x : Name) (w : ℕ) (last : Option ℕ) (first before after : ℕ) (result : Option Outcome) : Type 0 where
  pub answer_is : option_map outcome_of result ≡ answered (found source x w (scopes_from source last first))
  pub cost : after ≡ raised before (probes source x w (scopes_from source last first))

module _ (source : Source) (x : Name) (w : ℕ) (last : Option ℕ) (first s before now : ℕ) (come : HasCome source x w last first s before now) where
  -- the scope is the first of those that are left
  begins : (ss : List ℕ) × (scopes_from source last s ≡ s ∷ ss)
  begins =
      let first_of = chain-begins source s come.within in
      (cond (ends_at last s) [] (up_to_last last first_of.0), ap (up_to_last last) first_of.1 ∙ up_to_last-cons last s first_of.0)

  ended : (ss : List ℕ) (l : Lookup) (result : Option Outcome) → scopes_from source last s ≡ s ∷ ss → found source x w (s ∷ ss) ≡ l → answered l ≡ option_map outcome_of result
      → probes source x w (s ∷ ss) ≡ 1 → HasEnded source x w last first before (raised now 1) result
  ended ss l result are found_is result_is asked_is = record {
    answer_is = sym (ap answered (come.rest ∙ ap (found source x w) are ∙ found_is) ∙ result_is);
    cost = sym (come.cost ∙ ap (λ n. raised now n) (ap (probes source x w) are ∙ asked_is));
  }

  pub ended_tied : (y : ℕ) → IsTied source x w s (Some y) → HasEnded source x w last first before (raised now 1) (Some (Tied y))
  ended_tied y is =
      let l = tied s y (source.symbol_flags y) in
      ended begins.0 l (Some (Tied y)) begins.1 (found-tied source x w s begins.0 l (sym is)) refl (probes-tied source x w s begins.0 l (sym is))

  pub ended_free : IsTied source x w s None → ends source x w s ≡ true → HasEnded source x w last first before (raised now 1) (Some Free)
  ended_free none barrier =
      ended begins.0 (barred s) (Some Free) begins.1 (found-ended source x w s begins.0 (sym none) barrier) refl (probes-ended source x w s begins.0 (sym none) barrier)

  -- the scope is the only one left
  alone : scopes_from source last s ≡ s ∷ [] → IsTied source x w s None → ends source x w s ≡ false → HasEnded source x w last first before (raised now 1) None
  alone are none goes = ended [] unanswered None are (found-passed source x w s [] (sym none) goes) refl (probes-passed source x w s [] (sym none) goes)

  pub ended_last : IsTied source x w s None → ends source x w s ≡ false → ends_at last s ≡ true → HasEnded source x w last first before (raised now 1) None
  ended_last none goes is_last =
      let first_of = chain-begins source s come.within in
      let are : scopes_from source last s ≡ s ∷ [] = ap (up_to_last last) first_of.1 ∙ up_to_last-cons last s first_of.0
      ∙ ap (λ b. s ∷ cond b [] (up_to_last last first_of.0)) is_last in
      alone are none goes

  pub ended_root : IsTied source x w s None → ends source x w s ≡ false → source.parent s ≡ None → HasEnded source x w last first before (raised now 1) None
  ended_root none goes root =
      let are : scopes_from source last s ≡ s ∷ [] = ap (up_to_last last) (chain-end source s come.within root) ∙ up_to_last-cons last s []
      ∙ ap (λ t. s ∷ cond (ends_at last s) [] t) (up_to_last-nil last) ∙ ap (λ t. s ∷ t) (same_cond (ends_at last s) []) in
      alone are none goes

  pub come_further : IsSource source → (p : ℕ) → IsTied source x w s None → ends source x w s ≡ false → ends_at last s ≡ false → source.parent s ≡ Some p
      → HasCome source x w last first p before (raised now 1)
  come_further law p none goes passed outer =
      let are : scopes_from source last s ≡ s ∷ scopes_from source last p = ap (up_to_last last) (chain-step source s come.within law p outer) ∙ up_to_last-cons last s (chain source p)
      ∙ ap (λ b. s ∷ cond b [] (up_to_last last (chain source p))) passed in
      record {
        within = parent-within source s come.within law p outer;
        rest = come.rest ∙ ap (found source x w) are ∙ found-passed source x w s (scopes_from source last p) (sym none) goes;
        cost = come.cost ∙ ap (λ n. raised now n) (ap (probes source x w) are ∙ probes-passed source x w s (scopes_from source last p) (sym none) goes)
            ∙ raised_twice now (probes source x w (scopes_from source last p));
      }

module _ (asks : Pending → ℕ) where
  asks-same : (us : List UnresolvedReference) → sum_by asks (map pending_of us) ≡ sum_by (λ u. asks (pending_of u)) us
  asks-same [] = refl
  asks-same (u ∷ us) = omega (arith, sum_by-cons asks (pending_of u) (map pending_of us), sum_by-cons (λ v. asks (pending_of v)) u us, asks-same us)

  -- what the references so far and one more ask is within what all ask
  pub asked_within : (us : List UnresolvedReference) (i : ℕ) (u : UnresolvedReference) (before now after : ℕ) → i < length us → u ≡ get_or us i u
      → now ≡ raised before (sum_by asks (map pending_of (take i us))) → after ≡ raised now (asks (pending_of u)) → after ≤ raised before (sum_by asks (map pending_of us))
  asked_within us i u before now after more is first next =
      let within : sum_by (λ v. asks (pending_of v)) (take i us) + asks (pending_of (get_or us i u)) ≤ sum_by (λ v. asks (pending_of v)) us = sum_by_more_le (λ v. asks (pending_of v)) us i u more in
      let one : asks (pending_of u) ≡ asks (pending_of (get_or us i u)) = ap (λ v. asks (pending_of v)) is in
      omega (arith, within, one, first, next, asks-same (take i us), asks-same us)
