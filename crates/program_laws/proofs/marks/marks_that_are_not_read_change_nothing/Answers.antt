use Rattle.program_laws.proofs.TableMarks.{same_analysis}
use Rattle.program_laws.proofs.marks.marks_that_are_not_read_change_nothing.Goals as goal

pub returns : goal.returns
returns c = λ f p k. same_analysis f k p
