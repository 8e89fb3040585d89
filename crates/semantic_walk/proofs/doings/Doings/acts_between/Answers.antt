use Rattle.semantic_walk.proofs.DoingBits.{between_bit}
use Rattle.semantic_walk.proofs.doings.Doings.acts_between.Goals as goal

pub returns : goal.returns
returns c = between_bit c.self.inside.kind c.args.self c.self.inside.bits c.self.invariant c.self.view_is
