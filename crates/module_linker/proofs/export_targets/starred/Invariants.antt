use Rattle.std.proofs.Common.{◌≡◌, ◌++◌, map, drop}
use Rattle.semantic_tree.specs.ChildIter.{shown}
use Rattle.link_model.specs.Leads.{starred}
use Rattle.module_linker.proofs.export_targets.starred.Given as goal

abbrev pub invariant-loop-star : goal.invariant-loop-star
invariant-loop-star l = l.modules.items ++ starred l.names (map shown (drop l.star-index l.stars)) ≡ starred l.names (map shown l.stars)
