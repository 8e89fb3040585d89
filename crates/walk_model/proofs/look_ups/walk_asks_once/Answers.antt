use Rattle.walk_model.proofs.asking.StepCosts.{probes_once}
use Rattle.walk_model.proofs.look_ups.walk_asks_once.Goals as goal

pub returns : goal.returns
returns c = probes_once
