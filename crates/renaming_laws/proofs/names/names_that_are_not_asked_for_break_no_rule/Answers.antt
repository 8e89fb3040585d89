use Rattle.renaming_laws.proofs.QuietNames.{quiet}
use Rattle.renaming_laws.proofs.names.names_that_are_not_asked_for_break_no_rule.Goals as goal

pub returns : goal.returns
returns c = λ s k h. quiet s k h
