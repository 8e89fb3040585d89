use Rattle.check_walk.proofs.ReferencesApart.{no_keys}
use Rattle.check_walk.proofs.WalkConditions.{step_apart, steps_apart, settled_apart}
use Rattle.check_walk.proofs.laws.references_stay_apart.Goals as goal

pub returns-clause-first : goal.returns-clause-first
returns-clause-first c = no_keys

pub returns-clause-step : goal.returns-clause-step
returns-clause-step c = step_apart

pub returns-clause-steps : goal.returns-clause-steps
returns-clause-steps c = steps_apart

pub returns-clause-settled : goal.returns-clause-settled
returns-clause-settled c = settled_apart
