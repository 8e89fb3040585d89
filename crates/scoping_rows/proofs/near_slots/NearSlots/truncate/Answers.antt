use Rattle.std.proofs.Common.{arith}
use Rattle.scoping_rows.proofs.Slots.{paired_take}
use Rattle.scoping_rows.proofs.near_slots.NearSlots.truncate.Goals as goal

pub returns : goal.returns
returns c =
    let a = c.self.inside in
    rw (← c.self.view_is) (paired_take c.min-self-inside.result a.count c.args.position a.numbers a.symbols (omega (arith, c.self.invariant)) (omega (arith, c.self.invariant)) c.min-self-inside.ensures)
