use Rattle.std.proofs.Common.{refl, sym, ◌∙◌}
use Rattle.resolver.proofs.Asking.{ended_tied, ended_free, ended_last, ended_root, come_further}
use Rattle.resolver.proofs.Chain.{shorter}
use Rattle.resolver.proofs.lookup.look_up.Goals as goal

pub loop-symbol-init : goal.loop-symbol-init
loop-symbol-init g c = record { within = c.requires.scope; rest = refl; cost = refl }

pub returns-in-Some : goal.returns-in-Some
returns-in-Some g c =
    let ended = ended_tied _ _ _ c.args.last _ _ _ _ c.loop-symbol.invariant c.in-Some.symbol c.in-Some.ensures.tie in
    rw (← c.way-way.ensures) (record { answer = ended.answer_is; cost = c.in-Some.ensures.step ∙ ended.cost })

pub returns-then-is_barrier : goal.returns-then-is_barrier
returns-then-is_barrier g c =
    let ended = ended_free _ _ _ c.args.last _ _ _ _ c.loop-symbol.invariant c.in_default.ensures.tie (sym c.if-is_barrier.ensures) in
    rw (← c.way-way.ensures) (record { answer = ended.answer_is; cost = c.in_default.ensures.step ∙ ended.cost })

pub returns-then-is_last : goal.returns-then-is_last
returns-then-is_last g c =
    let ended = ended_last _ _ _ c.args.last _ _ _ _ c.loop-symbol.invariant c.in_default.ensures.tie (sym c.if-is_barrier.ensures) (sym c.if-is_last.ensures) in
    rw (← c.way-way.ensures) (record { answer = ended.answer_is; cost = c.in_default.ensures.step ∙ ended.cost })

pub loop-symbol-smaller : goal.loop-symbol-smaller
loop-symbol-smaller g c = shorter _ _ c.loop-symbol.invariant.within c.in-Some-parent.ensures.law _ (sym c.in-Some-parent.ensures.outward)

pub loop-symbol-preserved : goal.loop-symbol-preserved
loop-symbol-preserved g c =
    rw c.in_default.ensures.step
    (come_further _ _ _ c.args.last _ _ _ _ c.loop-symbol.invariant c.in-Some-parent.ensures.law c.in-Some-parent.parent
    c.in_default.ensures.tie (sym c.if-is_barrier.ensures) (sym c.if-is_last.ensures) (sym c.in-Some-parent.ensures.outward))

pub returns-in-None : goal.returns-in-None
returns-in-None g c =
    let ended = ended_root _ _ _ c.args.last _ _ _ _ c.loop-symbol.invariant c.in_default.ensures.tie (sym c.if-is_barrier.ensures) (sym c.in-None.ensures.outward) in
    rw (← c.way-way.ensures) (record { answer = ended.answer_is; cost = c.in_default.ensures.step ∙ ended.cost })
