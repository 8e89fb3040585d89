use Rattle.std.proofs.Common.{sym, ◌∙◌, arith}
use Rattle.scoping_rows.proofs.Near.{near_slot, far_slot}
use Rattle.scoping_rows.proofs.scope_slots.ScopeSlots.far.Goals as goal

pub returns-then-position-lt-NEAR : goal.returns-then-position-lt-NEAR
returns-then-position-lt-NEAR c = sym (near_slot c.args.self.now c.args.position c.if-position-lt-NEAR.true)

pub returns : goal.returns
returns c = c.get.ensures ∙ sym (far_slot c.args.self.now c.args.position (omega (arith, c.if-position-lt-NEAR.false)))
