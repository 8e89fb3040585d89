use Rattle.report_laws.proofs.TablesTold.{lines_tell_tables}
use Rattle.report_laws.proofs.laws.lines_tell_tables.Goals as goal

pub returns : goal.returns
returns c = λ t u ht hu e. lines_tell_tables t u ht hu e
