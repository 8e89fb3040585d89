-- What a scope decides about `super`, as the rows have it.
use Rattle.check_model.specs.Super.{Verdict, allowed, allowed_unless_call, allowed_in_derived, refused}
use Rattle.expression_checks.specs.declared.verdict.Verdict.{Verdict as Decided}
use Rattle.expression_checks.specs.declared.verdict.Verdict.TheVariants.{Allowed, AllowedUnlessCall, AllowedInDerived, Refused}

abbrev pub verdict_shown : Decided → Verdict
verdict_shown Allowed = allowed
verdict_shown AllowedUnlessCall = allowed_unless_call
verdict_shown AllowedInDerived = allowed_in_derived
verdict_shown Refused = refused
