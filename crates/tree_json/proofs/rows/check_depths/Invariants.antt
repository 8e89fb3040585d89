use Rattle.std.proofs.Common.{◌≡◌, drop, map}
use Rattle.tree_json.specs.Listing.{line}
use Rattle.tree_json.specs.Reading.{shallow_from}
use Rattle.tree_json.proofs.rows.check_depths.Given as goal

abbrev pub invariant-loop-index : goal.invariant-loop-index
invariant-loop-index l = shallow_from l.index (map line (drop l.index l.rows)) ≡ shallow_from 0 (map line l.rows)
