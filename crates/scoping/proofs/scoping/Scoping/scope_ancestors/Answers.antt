use Rattle.scoping.proofs.Ancestors.{runs_outward}
use Rattle.scoping.proofs.scoping.Scoping.scope_ancestors.Goals as goal

pub returns-clause-outward : goal.returns-clause-outward
returns-clause-outward c = rw (← c.self.view_is, c.new.ensures, c.as_slice.ensures.value) (runs_outward _ c.args.scope c.self.invariant.forest (rw (← c.self.view_is) at c.requires))
