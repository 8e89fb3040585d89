use Rattle.std.proofs.Common.{◌≡◌, drop, map}
use Rattle.semantic_tree.specs.ChildIter.{shown}
use Rattle.tree_json.specs.Views.{characters}
use Rattle.link_model.specs.Refusal.{unknown}
use Rattle.module_entries.proofs.star_sources.first_unknown.Given as goal

-- what is found among those that are left is found among all
abbrev pub invariant-loop-star : goal.invariant-loop-star
invariant-loop-star l = unknown (map characters l.names.keys) (map shown (drop l.star-index l.stars)) ≡ unknown (map characters l.names.keys) (map shown l.stars)
