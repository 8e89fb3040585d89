use Rattle.scoping.proofs.Shown.{symbol_within, symbol_index, read_named}
use Rattle.scoping.proofs.scoping.Scoping.symbol_name.Goals as goal

pub index-requires-2 : goal.index-requires-2
index-requires-2 c = symbol_index c.self.inside c.self.invariant c.args.symbol c.index.result c.index.ensures (rw (← c.self.view_is) at c.requires)

pub name-requires-2 : goal.name-requires-2
name-requires-2 c =
    let within = symbol_within c.self.inside c.self.invariant c.args.symbol (rw (← c.self.view_is) at c.requires) in
    rw c.name.ensures (read_named _ c.index.result c.args.symbol c.index-2.result.now c.self.inside.symbols.items c.self.invariant.named c.index.ensures within c.index-2.ensures)
