use Rattle.swapped_checks.proofs.SwappedTold.{renamed_rows}
use Rattle.swapped_checks.proofs.laws.one_rule_compares_names.Goals as goal

pub returns : goal.returns
returns c = λ f s t words parts w names. renamed_rows f s t words parts w names
