use Rattle.reachability.proofs.Within.{length_rows_of, rows_of_within}
use Rattle.reachability.proofs.laws.rows_keep_bounds.Goals as goal

pub returns-clause-count : goal.returns-clause-count
returns-clause-count c = λ n pairs. length_rows_of n pairs

pub returns-clause-within : goal.returns-clause-within
returns-clause-within c = λ n m pairs h k. rows_of_within n m pairs h k
