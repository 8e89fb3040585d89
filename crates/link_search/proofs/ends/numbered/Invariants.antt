use Rattle.std.proofs.Common.{take}
use Rattle.link_search.specs.Ends.{AreApart, EndsAreNumbered}
use Rattle.link_search.proofs.ends.numbered.Given as goal

abbrev pub invariant-loop-name : goal.invariant-loop-name
invariant-loop-name l = record {
  numbers : EndsAreNumbered l.terminals.keys l.numbers.items (take l.name-index l.ends);
  apart : AreApart l.terminals.keys;
}
