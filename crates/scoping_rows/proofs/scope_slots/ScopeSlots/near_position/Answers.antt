use Rattle.scoping_rows.proofs.Slots.{found_here}
use Rattle.scoping_rows.proofs.scope_slots.ScopeSlots.near_position.Goals as goal

pub returns : goal.returns
returns c = let a = c.self.inside in rw (← c.self.view_is) (found_here a.near a.far.items a.empty c.self.invariant c.args.number c.position_of.result c.position_of.ensures)
