use Rattle.std.proofs.Common.{◌≡◌, ◌++◌, drop}
use Rattle.link_search.specs.Exports.{passed_on}
use Rattle.link_search.specs.Targets.{target_names}
use Rattle.link_search.proofs.exports.passed_on.Given as goal

abbrev pub invariant-loop-module : goal.invariant-loop-module
invariant-loop-module l = l.names.items ++ target_names (passed_on l.name (drop l.module-index l.stars)) ≡ target_names (passed_on l.name l.stars)
