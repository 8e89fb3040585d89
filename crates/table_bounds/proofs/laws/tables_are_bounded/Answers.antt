use Rattle.table_bounds.proofs.Tables.{labels_tellable, tables_tellable}
use Rattle.table_bounds.proofs.laws.tables_are_bounded.Goals as goal

pub returns-clause-tables : goal.returns-clause-tables
returns-clause-tables c = λ p h n. tables_tellable p h n

pub returns-clause-labels : goal.returns-clause-labels
returns-clause-labels c = λ p h n. labels_tellable p h n
