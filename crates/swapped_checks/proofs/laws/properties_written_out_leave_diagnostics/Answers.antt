use Rattle.swapped_checks.proofs.SwappedTold.{written_same}
use Rattle.swapped_checks.proofs.laws.properties_written_out_leave_diagnostics.Goals as goal

pub returns : goal.returns
returns c = λ test p checks faultless keeps. written_same test checks p faultless keeps
