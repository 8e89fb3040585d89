use Rattle.semantic_tree.specs.Renamed.{swap}
use Rattle.check_model.specs.Rows.{rows_of}
use Rattle.swapped_checks.proofs.Told.{none_told}
use Rattle.swapped_checks.proofs.SwappedTold.{swapped_rows}
use Rattle.swapped_checks.proofs.laws.swapped_names_leave_early_errors.Goals as goal

pub returns-clause-rows : goal.returns-clause-rows
returns-clause-rows c = λ a b s t h i parts w. swapped_rows a b s t h i parts w

pub returns-clause-none : goal.returns-clause-none
returns-clause-none c = λ a b s t h i parts w none. none_told (swap a b) (rows_of s) (rows_of t) none (swapped_rows a b s t h i parts w)
