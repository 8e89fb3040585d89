use Rattle.semantic_walk.proofs.DoingBits.{passing_bit}
use Rattle.semantic_walk.proofs.doings.Doings.is_passing.Goals as goal

pub returns : goal.returns
returns c = passing_bit c.self.inside.kind c.args.self c.self.inside.bits c.self.invariant c.self.view_is
