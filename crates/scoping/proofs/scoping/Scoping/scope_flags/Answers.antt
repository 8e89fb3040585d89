use Rattle.scoping.proofs.Shown.{scope_index}
use Rattle.scoping.proofs.scoping.Scoping.scope_flags.Goals as goal

pub index-requires-2 : goal.index-requires-2
index-requires-2 c = scope_index c.self.inside c.self.invariant c.args.scope c.index.result c.index.ensures (rw (← c.self.view_is) at c.requires)
