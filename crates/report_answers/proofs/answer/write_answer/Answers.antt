use Rattle.report_answers.proofs.answer.write_answer.Goals as goal

pub returns-in-None : goal.returns-in-None
returns-in-None g c = rw c.in-None.is (rw c.options.ensures at c.write_report.ensures.written)

pub returns-in-Some : goal.returns-in-Some
returns-in-Some g c = rw c.in-Some.is c.write_summary.ensures.written
