use Rattle.std.proofs.Common.{arith}
use Rattle.link_search.proofs.PairNumbers.{pairs_step, numbers_step}
use Rattle.link_search.proofs.numbering.numbers_of.Goals as goal

pub loop-pair-preserved : goal.loop-pair-preserved
loop-pair-preserved c = (
  pairs_step c.loop-pair.pairs.keys c.number_of.new.pairs.keys c.args.met.now _ c.loop-pair.pair-index _ (omega arith) c.in_ok-number_of.ensures.pairs c.loop-pair.invariant.0,
  numbers_step c.loop-pair.pairs.keys c.number_of.new.pairs.keys c.args.met.now c.loop-pair.numbers.items c.push.new.self.items c.loop-pair.pair-index _ _ (omega arith) c.in_ok-number_of.ensures.pairs c.in_ok-number_of.ensures.number c.in_ok-push.ensures.items c.loop-pair.invariant.1,
)
