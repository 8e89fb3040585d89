use Rattle.semantic_walk.proofs.DoingBits.{entering_bit}
use Rattle.semantic_walk.proofs.doings.Doings.acts_on_entering.Goals as goal

pub returns : goal.returns
returns c = entering_bit c.self.inside.kind c.args.self c.self.inside.bits c.self.invariant c.self.view_is
