use Rattle.semantic_walk.proofs.DoingBits.{behind_bit}
use Rattle.semantic_walk.proofs.doings.Doings.is_noted_behind.Goals as goal

pub returns : goal.returns
returns c = behind_bit c.self.inside.kind c.args.self c.self.inside.bits c.self.invariant c.self.view_is
