use Rattle.std.proofs.Common.{arith}
use Rattle.link_search.proofs.Numbers.{numbered_more}
use Rattle.link_search.proofs.ends.numbered.Goals as goal

pub loop-name-preserved : goal.loop-name-preserved
loop-name-preserved c = record {
  numbers = numbered_more c.loop-name.terminals.keys c.number_of.new.terminals.keys c.loop-name.numbers.items c.push.new.self.items c.args.ends.now c.loop-name.name-index c.in_ok-number.number c.loop-name-item.result
      (omega arith) c.loop-name-item.is c.in_ok-push.ensures.items c.in_ok-number.ensures.extends c.in_ok-number.ensures.number c.loop-name.invariant.numbers;
  apart = c.in_ok-number.ensures.apart;
}
