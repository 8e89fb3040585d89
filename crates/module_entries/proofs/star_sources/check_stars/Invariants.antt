use Rattle.std.proofs.Common.{◌≡◌, drop, map}
use Rattle.tree_json.specs.Views.{characters}
use Rattle.link_model.specs.Refusal.{first_unknown}
use Rattle.module_entries.specs.Seen.{stars_seen}
use Rattle.module_entries.proofs.star_sources.check_stars.Given as goal

-- what is found among those that are left is found among all
abbrev pub invariant-loop-number : goal.invariant-loop-number
invariant-loop-number l = first_unknown (map characters l.names.keys) l.number (map stars_seen (drop l.number l.entries)) ≡ first_unknown (map characters l.names.keys) 0 (map stars_seen l.entries)
