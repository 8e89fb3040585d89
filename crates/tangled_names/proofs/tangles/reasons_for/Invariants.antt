use Rattle.std.proofs.Common.{◌≡◌, ◌++◌, drop, filter}
use Rattle.std.specs.Str.{chars}
use Rattle.tangle_model.specs.Tangled.{all_reasons}
use Rattle.tangle_model.specs.declared.reason.Reason.{Reason}
use Rattle.tangled_names.specs.Facts.{facts_tell}
use Rattle.tangled_names.proofs.tangles.reasons_for.Given as goal

abbrev pub invariant-loop-reason : goal.invariant-loop-reason
invariant-loop-reason l =
    l.found.items ++ filter (λ (r : Reason). facts_tell l.facts l.source_type l.scoping r (chars l.name)) (drop l.reason-index l.reason-items)
    ≡ filter (λ (r : Reason). facts_tell l.facts l.source_type l.scoping r (chars l.name)) all_reasons
