use Rattle.program_laws.proofs.TableMarks.{same_unmarked}
use Rattle.program_laws.proofs.marks.a_mark_that_is_not_read_may_go.Goals as goal

pub returns : goal.returns
returns c = λ test m p h. same_unmarked test m p h
