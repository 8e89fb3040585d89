use Rattle.std.proofs.Common.{◌≡◌, ◌++◌, drop, map, length}
use Rattle.link_model.specs.Exports.{exports, stars}
use Rattle.link_model.specs.Module.{all_analysed}
use Rattle.module_entries.specs.Seen.{exports_seen, stars_seen}
use Rattle.module_entries.proofs.check.all_entries.Given as goal

-- with what is gathered of those that are left, it is gathered of all
abbrev pub invariant-loop-module : goal.invariant-loop-module
invariant-loop-module l = record {
  exported : map exports_seen l.all.items ++ map exports (all_analysed (drop l.module-index l.list)) ≡ map exports (all_analysed l.list);
  starred : map stars_seen l.all.items ++ map stars (all_analysed (drop l.module-index l.list)) ≡ map stars (all_analysed l.list);
  count : length l.all.items ≡ l.module-index;
}
