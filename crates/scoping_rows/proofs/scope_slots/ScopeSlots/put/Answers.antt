use Rattle.std.proofs.Common.{◌<◌, ◌≤◌, length, ap, ◌∙◌, arith}
use Rattle.std.specs.Option.{option_to_list}
use Rattle.scoping_rows.proofs.Slots.{stored_below, stored_here, stored_behind, shown_here, shown_behind}
use Rattle.scoping_rows.proofs.scope_slots.ScopeSlots.put.Goals as goal

pub overflow_sub-self : goal.overflow_sub-self
overflow_sub-self c =
    let a = c.self.inside in
    stored_below a.near a.far.items a.empty c.self.invariant c.args.position c.count_bound.result c.count_bound-2.result (c.args.number, c.args.symbol) (rw (← c.self.view_is) at c.requires)
    (rw (← c.self.view_is) at (c.count_bound.ensures ∙ ap (λ x. length (option_to_list x)) c.pair-was.ensures)) c.count_bound-2.ensures

pub invariant_of-self : goal.invariant_of-self
invariant_of-self c =
    let a = c.self.inside in
    let here : c.args.position < length a.near = omega (arith, c.len-near.ensures, c.if-position-near.true) in
    rw c.put.ensures
    (stored_here a.near a.far.items a.empty c.self.invariant c.args.position c.count_bound.result c.count_bound-2.result (c.args.number, c.args.symbol) (rw (← c.self.view_is) at c.requires)
    (rw (← c.self.view_is) at (c.count_bound.ensures ∙ ap (λ x. length (option_to_list x)) c.pair-was.ensures)) c.count_bound-2.ensures here)

pub invariant_of-self-else-position-near : goal.invariant_of-self-else-position-near
invariant_of-self-else-position-near c =
    let a = c.self.inside in
    let past : length a.near ≤ c.args.position = omega (arith, c.len-near.ensures, c.if-position-near.false) in
    rw c.len-near.ensures
    (stored_behind a.near a.far.items a.empty c.self.invariant c.args.position c.count_bound.result c.count_bound-2.result (c.args.number, c.args.symbol) (rw (← c.self.view_is) at c.requires)
    (rw (← c.self.view_is) at (c.count_bound.ensures ∙ ap (λ x. length (option_to_list x)) c.pair-was.ensures)) c.count_bound-2.ensures past)

pub returns-then-position-near : goal.returns-then-position-near
returns-then-position-near c =
    let a = c.self.inside in
    let here : c.args.position < length a.near = omega (arith, c.len-near.ensures, c.if-position-near.true) in
    rw (c.put.ensures, ← c.self.view_is)
    (shown_here a.near a.far.items a.empty c.self.invariant c.args.position c.count_bound.result c.count_bound-2.result (c.args.number, c.args.symbol) (rw (← c.self.view_is) at c.requires)
    (rw (← c.self.view_is) at (c.count_bound.ensures ∙ ap (λ x. length (option_to_list x)) c.pair-was.ensures)) c.count_bound-2.ensures here)

pub returns-else-position-near : goal.returns-else-position-near
returns-else-position-near c =
    let a = c.self.inside in
    let past : length a.near ≤ c.args.position = omega (arith, c.len-near.ensures, c.if-position-near.false) in
    rw (c.len-near.ensures, ← c.self.view_is)
    (shown_behind a.near a.far.items a.empty c.self.invariant c.args.position c.count_bound.result c.count_bound-2.result (c.args.number, c.args.symbol) (rw (← c.self.view_is) at c.requires)
    (rw (← c.self.view_is) at (c.count_bound.ensures ∙ ap (λ x. length (option_to_list x)) c.pair-was.ensures)) c.count_bound-2.ensures past)
