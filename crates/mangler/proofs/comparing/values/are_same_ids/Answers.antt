use Rattle.std.proofs.Common.{◌≤◌, length, nat_eq, arith}
use Rattle.mangler.proofs.Pairs.{pairs_end}
use Rattle.mangler.proofs.comparing.values.are_same_ids.Goals as goal

pub returns : goal.returns
returns c =
    let as_long : length c.args.other.now ≤ c.loop-number.number = omega arith in
    pairs_end nat_eq c.args.one.now c.args.other.now c.loop-number.number _ c.loop-number-test.false as_long c.loop-number.invariant
