use Rattle.std.proofs.Common.{◌≡◌, ◌<◌, ◌≤◌, length, sym, ap, subst, ◌∙◌, arith}
use Rattle.std.specs.Str.{chars}
use Rattle.mangle_model.specs.ShortNames.{short_name}
use Rattle.simple_names.specs.TakenNames.{unused_by}
use Rattle.simple_names.proofs.PairTurns.{SoFar, at_first, at_last, found, one_pair, with_pair}
use Rattle.simple_names.proofs.pairs.name_pairs.Goals as goal

pub loop-number-init : goal.loop-number-init
loop-number-init c = λ count h. subst (λ ps. SoFar (unused_by c.args.taken.now) c.args.changing.now count 0 0 ps) (sym c.new-pairs.ensures) (at_first (unused_by c.args.taken.now) c.args.changing.now count h)

pub loop-number-preserved : goal.loop-number-preserved
loop-number-preserved c = λ count h.
    let within : c.loop-number.number < length c.args.changing.now = omega arith in
    let short = c.in_ok-short.short in
    let text : chars c.as_str.result.now ≡ short_name short.number = ap chars c.as_str.ensures.value ∙ c.in_ok-short.ensures.named in
    one_pair (unused_by c.args.taken.now) c.args.changing.now count c.loop-number.number c.loop-number.next c.loop-number.pairs c.add_shorter.new.pairs (chars c.name_at-name.result.now) short within c.name_at-name.ensures c.in_ok-short.ensures
    (λ q. c.in_ok-add_shorter.ensures q ∙ ap (λ y. with_pair (chars c.name_at-name.result.now) y (found c.loop-number.pairs q) q) text)
    (c.loop-number.invariant count h)

pub returns : goal.returns
returns c = λ count h q.
    let ended : length c.args.changing.now ≤ c.loop-number.number = omega arith in
    at_last (unused_by c.args.taken.now) c.args.changing.now count c.loop-number.number c.loop-number.next c.loop-number.pairs ended (c.loop-number.invariant count h) q
