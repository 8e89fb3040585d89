use Rattle.std.proofs.Common.{sym, arith}
use Rattle.scoping_rows.proofs.Slots.{paired_within, paired_read}
use Rattle.scoping_rows.proofs.near_slots.NearSlots.get.Goals as goal

pub offset_bounds-self-inside-position : goal.offset_bounds-self-inside-position
offset_bounds-self-inside-position c = let a = c.self.inside in record { fits = omega (arith, paired_within a.count a.numbers a.symbols c.args.position c.self.invariant (rw (← c.self.view_is) at c.requires)) }

pub bounds-self-inside-position : goal.bounds-self-inside-position
bounds-self-inside-position c = let a = c.self.inside in paired_within a.count a.numbers a.symbols c.args.position c.self.invariant (rw (← c.self.view_is) at c.requires)

pub offset_bounds-self-inside-position-2 : goal.offset_bounds-self-inside-position-2
offset_bounds-self-inside-position-2 c = let a = c.self.inside in record { fits = omega (arith, paired_within a.count a.numbers a.symbols c.args.position c.self.invariant (rw (← c.self.view_is) at c.requires)) }

pub listed : goal.listed
listed c = let a = c.self.inside in omega (arith, c.self.invariant.2, paired_within a.count a.numbers a.symbols c.args.position c.self.invariant (rw (← c.self.view_is) at c.requires))

pub bounds-self-inside-position-2 : goal.bounds-self-inside-position-2
bounds-self-inside-position-2 c = let a = c.self.inside in paired_within a.count a.numbers a.symbols c.args.position c.self.invariant (rw (← c.self.view_is) at c.requires)

pub returns : goal.returns
returns c =
    let a = c.self.inside in
    rw (← c.self.view_is) (sym (paired_read a.count a.numbers a.symbols c.args.position c.self.invariant (rw (← c.self.view_is) at c.requires) 0 c.index-self-position.result))
