use Rattle.scoping.proofs.Shown.{uses_index}
use Rattle.scoping.proofs.scoping.Scoping.get_resolved_reference_ids.Goals as goal

pub index-requires-2 : goal.index-requires-2
index-requires-2 c = uses_index c.self.inside c.self.invariant c.args.symbol c.index.result c.index.ensures (rw (← c.self.view_is) at c.requires)
