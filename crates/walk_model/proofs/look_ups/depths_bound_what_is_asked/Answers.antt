use Rattle.walk_model.proofs.asking.Depths.{probes_within}
use Rattle.walk_model.proofs.look_ups.depths_bound_what_is_asked.Goals as goal

pub returns : goal.returns
returns c = probes_within
