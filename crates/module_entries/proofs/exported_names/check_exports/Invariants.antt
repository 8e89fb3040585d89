use Rattle.std.proofs.Common.{◌≡◌, drop, map}
use Rattle.link_model.specs.Refusal.{first_repeated}
use Rattle.module_entries.specs.Seen.{exports_seen}
use Rattle.module_entries.proofs.exported_names.check_exports.Given as goal

-- what is found among those that are left is found among all
abbrev pub invariant-loop-number : goal.invariant-loop-number
invariant-loop-number l = first_repeated l.number (map exports_seen (drop l.number l.entries)) ≡ first_repeated 0 (map exports_seen l.entries)
