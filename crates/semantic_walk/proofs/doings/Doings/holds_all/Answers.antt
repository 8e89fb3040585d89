use Rattle.semantic_walk.proofs.DoingBits.{all_bit}
use Rattle.semantic_walk.proofs.doings.Doings.holds_all.Goals as goal

pub returns : goal.returns
returns c = all_bit c.self.inside.kind c.args.self c.self.inside.bits c.self.invariant c.self.view_is
