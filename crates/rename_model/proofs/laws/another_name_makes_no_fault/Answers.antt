use Rattle.rename_model.proofs.NameShape.{no_fault_made, numbers_kept}
use Rattle.rename_model.proofs.laws.another_name_makes_no_fault.Goals as goal

pub returns-clause-shaped : goal.returns-clause-shaped
returns-clause-shaped c = λ chosen name p all some h. no_fault_made chosen name some p all h

pub returns-clause-numbered : goal.returns-clause-numbered
returns-clause-numbered c = λ chosen name p h. numbers_kept chosen name p h
