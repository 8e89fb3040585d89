use Rattle.scoping.proofs.Shown.{symbol_index}
use Rattle.scoping.proofs.scoping.Scoping.symbol_declarations.Goals as goal

pub index-row-requires : goal.index-row-requires
index-row-requires c = symbol_index c.self.inside c.self.invariant c.args.symbol c.index.result c.index.ensures (rw (← c.self.view_is) at c.requires)
