use Rattle.std.proofs.Common.{◌≡◌, ◌++◌, drop}
use Rattle.link_search.specs.Targets.{target_names}
use Rattle.link_search.proofs.target.names_in.Given as goal

abbrev pub invariant-loop-target : goal.invariant-loop-target
invariant-loop-target l = l.names.items ++ target_names (drop l.target-index l.targets) ≡ target_names l.targets
