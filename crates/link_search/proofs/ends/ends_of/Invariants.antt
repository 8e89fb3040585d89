use Rattle.std.proofs.Common.{◌≡◌, ◌++◌, drop}
use Rattle.link_search.specs.Ends.{ends_from}
use Rattle.link_search.proofs.ends.ends_of.Given as goal

abbrev pub invariant-loop-number : goal.invariant-loop-number
invariant-loop-number l = l.ends.items ++ ends_from l.exports l.number (drop l.number l.names) ≡ ends_from l.exports 0 l.names
