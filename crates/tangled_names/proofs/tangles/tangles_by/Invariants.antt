use Rattle.std.proofs.Common.{◌≡◌, ◌++◌, drop, false, filter}
use Rattle.semantic_syntax.specs.Tables.{Name}
use Rattle.tangle_model.specs.Tangled.{all_reasons, tangles_from}
use Rattle.tangle_model.specs.declared.reason.Reason.{Reason}
use Rattle.tangled_names.specs.Facts.{facts_tell}
use Rattle.tangled_names.specs.Stored.{has_name}
use Rattle.tangled_names.proofs.tangles.tangles_by.Given as goal

abbrev pub invariant-loop-number : goal.invariant-loop-number
invariant-loop-number l =
    l.found ++ tangles_from (λ (name : Name). filter (λ (r : Reason). facts_tell l.facts l.source_type l.scoping r name) all_reasons) (has_name l.before) l.number (drop l.number l.scoping.symbols)
    ≡ tangles_from (λ (name : Name). filter (λ (r : Reason). facts_tell l.facts l.source_type l.scoping r name) all_reasons) (λ x. false) 0 l.scoping.symbols
