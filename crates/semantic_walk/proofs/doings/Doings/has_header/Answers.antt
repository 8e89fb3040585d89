use Rattle.semantic_walk.proofs.DoingBits.{header_bit}
use Rattle.semantic_walk.proofs.doings.Doings.has_header.Goals as goal

pub returns : goal.returns
returns c = header_bit c.self.inside.kind c.args.self c.self.inside.bits c.self.invariant c.self.view_is
