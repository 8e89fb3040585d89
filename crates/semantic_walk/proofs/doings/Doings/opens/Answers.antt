use Rattle.semantic_walk.proofs.DoingBits.{opens_bit}
use Rattle.semantic_walk.proofs.doings.Doings.opens.Goals as goal

pub returns : goal.returns
returns c = opens_bit c.self.inside.kind c.args.self c.self.inside.bits c.self.invariant c.self.view_is
