-- The order of the causes.
use Rattle.std.proofs.Common.{◌≡◌, Option, Some, None, Result, Ok, Err, IsErrAnd, sym, ap, subst}
use Rattle.module_set.specs.declared.error.LinkError.{LinkError}
use Rattle.module_set.specs.Outcome.{IsWantOfMemory}
use Rattle.link_model.specs.Refusal.{or_later}
use Rattle.module_entries.specs.Checks.{Checks}

-- what the first check refuses is the refusal
pub checks_first : {T : Type 0} (a later : Option LinkError) (r : Result T LinkError) (e : LinkError) → IsErrAnd r (λ g. g ≡ e) → (¬ IsWantOfMemory e → a ≡ Some e) → Checks (or_later a later) r
checks_first a later (Ok x) e told h = absurd told
checks_first a later (Err g) e told h = subst (λ k. ¬ IsWantOfMemory k → or_later a later ≡ Some k) (sym told) (λ other. ap (λ o. or_later o later) (h other))

-- without it, what the later checks refuse is
pub checks_later : {T : Type 0} (a later : Option LinkError) (r : Result T LinkError) → a ≡ None → Checks later r → Checks (or_later a later) r
checks_later a later r none h = subst (λ o. Checks (or_later o later) r) (sym none) h
