use Rattle.check_trials.proofs.Computed.{lone_break_told}
use Rattle.check_trials.proofs.lone_break_is_told.Goals as goal

pub returns : goal.returns
returns c = lone_break_told
