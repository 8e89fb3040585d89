use Rattle.std.proofs.Common.{◌<◌, arith}
use Rattle.scoping_rows.specs.Slots.{no_number}
use Rattle.scoping_rows.proofs.Slots.{no_place, first_place, past_places}
use Rattle.scoping_rows.proofs.near_slots.NearSlots.position_of.Goals as goal

pub returns-then-number : goal.returns-then-number
returns-then-number c = let a = c.self.inside in rw (← c.self.view_is) (no_place a.count a.numbers a.symbols c.args.number c.self.invariant c.if-number.true)

pub returns-then-position-count : goal.returns-then-position-count
returns-then-position-count c =
    let a = c.self.inside in
    let small : c.args.number < no_number = omega (arith, c.if-number.false) in
    rw (← c.self.view_is) (first_place a.count a.numbers a.symbols c.args.number c.self.invariant c.first_of-position.result small c.first_of-position.ensures c.if-position-count.true)

pub returns-else-position-count : goal.returns-else-position-count
returns-else-position-count c =
    let a = c.self.inside in
    let small : c.args.number < no_number = omega (arith, c.if-number.false) in
    rw (← c.self.view_is) (past_places a.count a.numbers a.symbols c.args.number c.self.invariant c.first_of-position.result small c.first_of-position.ensures (omega (arith, c.if-position-count.false)))
