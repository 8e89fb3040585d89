use Rattle.std.proofs.Common.{drop, map, arith, length-drop}
use Rattle.std.proofs.lemmas.List.{length-map}
use Rattle.scoping_rows.specs.Names.{named}
use Rattle.scoping.proofs.Lengths.{length-numbered_from}
use Rattle.scoping.proofs.bindings.AllBindings.len.Goals as goal

pub returns : goal.returns
returns c =
    let a = c.self.inside in
    rw (← c.self.view_is)
    (omega (arith, length-numbered_from a.next (map (named a.names.now) (drop a.next a.table.now)), length-map (drop a.next a.table.now) (named a.names.now), length-drop a.next a.table.now, c.self.invariant.count))
