use Rattle.semantic_walk.proofs.DoingBits.{turns_bit}
use Rattle.semantic_walk.proofs.doings.Doings.turns_cursor.Goals as goal

pub returns : goal.returns
returns c = turns_bit c.self.inside.kind c.args.self c.self.inside.bits c.self.invariant c.self.view_is
