-- In the end nothing waits.
use Rattle.std.proofs.Common.{◌≡◌, IsTrue, List, [], ◌∷◌, All, map, refl}
use Rattle.std.proofs.lemmas.List.Elements.{All-nil, All-cons}
use Rattle.semantic_syntax.specs.Source.{Source, chain}
use Rattle.semantic_syntax.specs.Lookup.{Lookup, tied, barred, unanswered}
use Rattle.semantic_syntax.specs.Outcome.{is_free, outcome_or, lookup_along, last_outcome}
use Rattle.semantic_syntax.specs.Outcome as model
use Rattle.resolver.specs.declared.outcomes.Outcome.{Outcome}
use Rattle.resolver.specs.declared.outcomes.Outcome.TheVariants.{Tied, Free, Pending}
use Rattle.resolver.specs.Terms.{outcome_of, is_settled}

-- an outcome that is free where no scope answers doesn't wait
settled_or_free : (o : Outcome) (l : Lookup) → outcome_of o ≡ outcome_or is_free l → IsTrue (is_settled o)
settled_or_free (Tied y) l is = refl
settled_or_free Free l is = refl
settled_or_free (Pending s) (tied c y flags) is = absurd (cc)
settled_or_free (Pending s) (barred c) is = absurd (cc)
settled_or_free (Pending s) unanswered is = absurd (cc)

pub all_settled : (source : Source) (os : List Outcome) (es : List model.Pending) → map outcome_of os ≡ map (last_outcome source) es → All (λ o. IsTrue (is_settled o)) os
all_settled source [] es are = All-nil (λ (o : Outcome). IsTrue (is_settled o))
all_settled source (o ∷ os) [] are = absurd (cc)
all_settled source (o ∷ os) (e ∷ es) are =
    All-cons (λ (o : Outcome). IsTrue (is_settled o)) o os (settled_or_free o (lookup_along source e (chain source e.lookup_scope)) (cc)) (all_settled source os es (cc))
