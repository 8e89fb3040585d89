use Rattle.semantic_walk.proofs.DoingBits.{moves_bit}
use Rattle.semantic_walk.proofs.doings.Doings.moves_cursor.Goals as goal

pub returns : goal.returns
returns c = moves_bit c.self.inside.kind c.args.self c.self.inside.bits c.self.invariant c.self.view_is
