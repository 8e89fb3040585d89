use Rattle.std.proofs.Common.{take}
use Rattle.link_search.specs.Exports.{leads_of}
use Rattle.link_search.specs.Targets.{AreFound}
use Rattle.link_search.proofs.search.found_all.Given as goal

abbrev pub invariant-loop-target : goal.invariant-loop-target
invariant-loop-target l = AreFound (leads_of l.exports) (take l.target-index l.wanted) l.found.items
