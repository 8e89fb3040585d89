use Rattle.report_bounds.proofs.Told.{diagnostics_tellable}
use Rattle.report_bounds.proofs.laws.diagnostics_are_bounded.Goals as goal

pub returns : goal.returns
returns c = λ p checks h n. diagnostics_tellable p h n checks
