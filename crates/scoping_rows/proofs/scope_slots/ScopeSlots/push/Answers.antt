use Rattle.std.proofs.Common.{◌<◌, ◌≤◌, length, arith}
use Rattle.scoping_rows.specs.Flat.{near}
use Rattle.scoping_rows.proofs.Slots.{stored_more, stored_further}
use Rattle.scoping_rows.proofs.scope_slots.ScopeSlots.push.Goals as goal

pub invariant_of-self : goal.invariant_of-self
invariant_of-self c =
    let a = c.self.inside in
    let room : length a.near < near = omega (arith, c.len.ensures, c.if-len-lt-NEAR.true) in
    rw c.push.ensures (stored_more a.near a.far.items a.empty c.self.invariant c.in-Some.number c.args.symbol c.in-Some.ensures.1 room)

pub invariant_of-self-2 : goal.invariant_of-self-2
invariant_of-self-2 c =
    let a = c.self.inside in
    let full : near ≤ length a.near = omega (arith, c.len.ensures, c.if-len-lt-NEAR.false) in
    rw c.in_ok-push.ensures.items (stored_further a.near a.far.items a.empty c.self.invariant c.in-Some.number c.args.symbol c.in-Some.ensures.1 full)
