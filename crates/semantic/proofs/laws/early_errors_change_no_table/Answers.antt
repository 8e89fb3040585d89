use Rattle.std.proofs.Common.{sym, ◌∙◌}
use Rattle.check_model.proofs.ConflictsGrow.{off}
use Rattle.semantic.proofs.laws.early_errors_change_no_table.Goals as goal

pub returns-clause-tables : goal.returns-clause-tables
returns-clause-tables c = λ checks others p t u ds es h k. h.tables ∙ sym k.tables

pub returns-clause-diagnostics : goal.returns-clause-diagnostics
returns-clause-diagnostics c = λ checks p t u ds es h k. h.told_of ∙ sym k.told_of

pub returns-clause-unchecked : goal.returns-clause-unchecked
returns-clause-unchecked c = λ p t ds h. h.told_of ∙ off p
