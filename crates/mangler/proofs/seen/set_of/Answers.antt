use Rattle.std.proofs.Common.{◌<◌, ◌≤◌, true, cond, nat_eq, length, ap, ◌∙◌, arith}
use Rattle.std.specs.HashSet.{contains as has_key}
use Rattle.renamer.proofs.SetIds.{one_more, none_left}
use Rattle.mangler.proofs.seen.set_of.Goals as goal

pub loop-id-preserved : goal.loop-id-preserved
loop-id-preserved c = λ q.
    let within : c.loop-id.id-index < length c.args.ids.now = omega arith in
    one_more c.args.ids.now c.loop-id.id-index c.id-item.result q (has_key nat_eq c.loop-id.set q) (has_key nat_eq c.insert.new.self q) within c.id-item.is
    (c.in_ok-insert.ensures.updates.0 q ∙ ap (λ k. cond (nat_eq k q) true (has_key nat_eq c.loop-id.set q)) c.index.ensures) (c.loop-id.invariant q)

pub returns : goal.returns
returns c = λ q.
    let ended : length c.args.ids.now ≤ c.loop-id.id-index = omega arith in
    none_left c.args.ids.now c.loop-id.id-index q (has_key nat_eq c.loop-id.set q) ended (c.loop-id.invariant q)
