use Rattle.std.proofs.Common.{sym, arith}
use Rattle.scoping_rows.proofs.Slots.{length_paired}
use Rattle.scoping_rows.proofs.near_slots.NearSlots.len.Goals as goal

pub returns : goal.returns
returns c =
    let a = c.self.inside in
    rw (← c.self.view_is) (sym (length_paired a.count a.numbers a.symbols (omega (arith, c.self.invariant)) (omega (arith, c.self.invariant))))
