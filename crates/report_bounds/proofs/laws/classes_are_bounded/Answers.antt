use Rattle.report_bounds.proofs.ClassElements.{classes_bounded}
use Rattle.report_bounds.proofs.laws.classes_are_bounded.Goals as goal

pub returns : goal.returns
returns c = λ p h n. classes_bounded p h n
