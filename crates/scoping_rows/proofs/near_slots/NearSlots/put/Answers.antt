use Rattle.std.proofs.Common.{arith}
use Rattle.scoping_rows.proofs.Slots.{paired_within, paired_set}
use Rattle.scoping_rows.proofs.near_slots.NearSlots.put.Goals as goal

pub offset_bounds-self-inside-position : goal.offset_bounds-self-inside-position
offset_bounds-self-inside-position c = let a = c.self.inside in record { fits = omega (arith, paired_within a.count a.numbers a.symbols c.args.position c.self.invariant (rw (← c.self.view_is) at c.requires)) }

pub bounds-self-inside-position : goal.bounds-self-inside-position
bounds-self-inside-position c = let a = c.self.inside in paired_within a.count a.numbers a.symbols c.args.position c.self.invariant (rw (← c.self.view_is) at c.requires)

pub offset_bounds-self-inside-position-2 : goal.offset_bounds-self-inside-position-2
offset_bounds-self-inside-position-2 c = let a = c.self.inside in record { fits = omega (arith, paired_within a.count a.numbers a.symbols c.args.position c.self.invariant (rw (← c.self.view_is) at c.requires)) }

pub listed : goal.listed
listed c = let a = c.self.inside in omega (arith, c.self.invariant.2, paired_within a.count a.numbers a.symbols c.args.position c.self.invariant (rw (← c.self.view_is) at c.requires))

pub bounds-self-inside-position-2 : goal.bounds-self-inside-position-2
bounds-self-inside-position-2 c = let a = c.self.inside in paired_within a.count a.numbers a.symbols c.args.position c.self.invariant (rw (← c.self.view_is) at c.requires)

pub returns : goal.returns
returns c =
    let a = c.self.inside in
    rw (← c.self.view_is) (paired_set a.count a.numbers a.symbols c.args.position c.args.number c.args.symbol (omega (arith, c.self.invariant)) (omega (arith, c.self.invariant)))
