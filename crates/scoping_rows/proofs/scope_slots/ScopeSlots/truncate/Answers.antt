use Rattle.scoping_rows.proofs.Filled.{dropped_below}
use Rattle.scoping_rows.proofs.Slots.{taken, stored_less}
use Rattle.std.proofs.Common.{map, ◌++◌}
use Rattle.scoping_rows.specs.Slots.{stored_slot}
use Rattle.scoping_rows.proofs.scope_slots.ScopeSlots.truncate.Goals as goal

pub overflow_sub-self : goal.overflow_sub-self
overflow_sub-self c =
    let a = c.self.inside in
    rw (c.saturating_sub.ensures, c.len.ensures, ← c.self.view_is) (dropped_below a.empty (map stored_slot (a.near ++ a.far.items)) c.self.invariant.counted c.args.position (rw (← c.self.view_is) at c.requires))

pub invariant_of-self : goal.invariant_of-self
invariant_of-self c =
    let a = c.self.inside in
    rw (c.truncate-2.ensures, c.truncate.ensures.items, c.saturating_sub-2.ensures, c.len-2.ensures, c.saturating_sub.ensures, c.len.ensures, ← c.self.view_is)
    (stored_less a.near a.far.items a.empty c.self.invariant c.args.position (rw (← c.self.view_is) at c.requires))

pub returns : goal.returns
returns c =
    let a = c.self.inside in
    rw (c.truncate-2.ensures, c.truncate.ensures.items, c.saturating_sub-2.ensures, c.len-2.ensures, ← c.self.view_is) (taken a.near a.far.items a.empty c.self.invariant c.args.position)
