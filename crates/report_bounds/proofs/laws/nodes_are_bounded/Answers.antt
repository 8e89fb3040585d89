use Rattle.report_bounds.proofs.Told.{nodes_tellable}
use Rattle.report_bounds.proofs.laws.nodes_are_bounded.Goals as goal

pub returns : goal.returns
returns c = λ p h n. nodes_tellable p h n
