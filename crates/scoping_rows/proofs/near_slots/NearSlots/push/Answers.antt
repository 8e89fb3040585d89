use Rattle.std.proofs.Common.{add-one, arith, ◌<◌}
use Rattle.scoping_rows.proofs.Slots.{length_paired, paired_push}
use Rattle.scoping_rows.proofs.near_slots.NearSlots.push.Goals as goal

pub returns : goal.returns
returns c =
    let a = c.self.inside in
    let count = length_paired a.count a.numbers a.symbols (omega (arith, c.self.invariant)) (omega (arith, c.self.invariant)) in
    let room : a.count < 8 = omega (arith, count, rw (← c.self.view_is) at c.requires) in
    rw (← c.self.view_is, add-one) (paired_push a.count a.numbers a.symbols c.args.number c.args.symbol (omega (arith, room, c.self.invariant)) (omega (arith, room, c.self.invariant)))
