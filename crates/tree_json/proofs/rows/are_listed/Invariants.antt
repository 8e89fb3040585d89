use Rattle.std.proofs.Common.{◌≡◌, ◌<◌, map, drop}
use Rattle.tree_json.specs.Listing.{line, IsListing}
use Rattle.tree_json.specs.Reading.{shallow_from}
use Rattle.tree_json.proofs.Listed.{GoesOn}
use Rattle.tree_json.proofs.rows.are_listed.Given as goal

abbrev pub invariant-loop-row : goal.invariant-loop-row
invariant-loop-row l = record {
  listing : GoesOn l.opened (map line (drop l.row-index l.rows)) → IsListing (map line l.rows);
  shallow : shallow_from l.row-index (map line (drop l.row-index l.rows)) ≡ shallow_from 0 (map line l.rows);
  some : 0 < l.row-index → 0 < l.opened;
}
