use Rattle.std.proofs.Common.{◌≤◌, ◌-◌, length, get_or, ap, ◌∙◌, arith}
use Rattle.scoping_rows.proofs.Slots.{slot_behind}
use Rattle.scoping_rows.proofs.scope_slots.ScopeSlots.pair.Goals as goal

pub returns-else-position-near : goal.returns-else-position-near
returns-else-position-near c =
    let a = c.self.inside in
    let p = c.index.result.now in
    let past : length a.near ≤ c.args.position = omega (arith, c.len-near.ensures, c.if-position-near.false) in
    rw (← c.self.view_is)
    (slot_behind a.near a.far.items a.empty c.self.invariant c.args.position p past (rw (← c.self.view_is) at c.requires)
    (c.index.ensures ∙ ap (λ k. get_or a.far.items (c.args.position - k) p) c.len-near.ensures))
