use Rattle.std.proofs.Common.{inr}
use Rattle.program_ends.proofs.standard.run_over_standard_ends.Goals as goal

pub returns-in-Ok-Some : goal.returns-in-Ok-Some
returns-in-Ok-Some g c = inr (c.run-status.result, (_, _, _, _, _, _, _, _, c.run-status.ensures), _, c.flush-flushed.result, c.finish.ensures)
