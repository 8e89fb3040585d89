use Rattle.std.proofs.Common.{◌≡◌, take, drop}
use Rattle.link_search.specs.Numbering.{with_pairs, AreNumbersOf}
use Rattle.link_search.proofs.numbering.numbers_of.Given as goal

abbrev pub invariant-loop-pair : goal.invariant-loop-pair
invariant-loop-pair l = (with_pairs l.pairs.keys (drop l.pair-index l.met) ≡ with_pairs l.fn.pairs.keys l.met) × AreNumbersOf l.pairs.keys l.numbers.items (take l.pair-index l.met)
