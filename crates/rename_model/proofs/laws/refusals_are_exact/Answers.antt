use Rattle.rename_model.proofs.Refusals.{ends_bad, is_bad, ends_fixed, is_fixed, ends_different, is_different}
use Rattle.rename_model.proofs.laws.refusals_are_exact.Goals as goal

pub returns-clause-bad : goal.returns-clause-bad
returns-clause-bad c = λ p s new. (ends_bad p s new, is_bad p s new)

pub returns-clause-fixed : goal.returns-clause-fixed
returns-clause-fixed c = λ p s node new h. (ends_fixed p s new node h, is_fixed p s new node h)

pub returns-clause-differs : goal.returns-clause-differs
returns-clause-differs c = λ p s node new. (ends_different p s new node, is_different p s new node)
