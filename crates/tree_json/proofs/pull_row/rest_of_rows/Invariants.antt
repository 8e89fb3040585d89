use Rattle.std.proofs.Common.{length, map}
use Rattle.tree_json.specs.Form.{in_rows, line_of_data}
use Rattle.tree_json.specs.Listing.{line}
use Rattle.tree_json.proofs.Pulling.{Going}
use Rattle.tree_json.proofs.pull_row.rest_of_rows.Given as goal

abbrev pub invariant-rows : goal.invariant-rows
invariant-rows l = Going (line_of_data in_rows) 2 l.initial.reader (map line l.rows.items) l.reader

abbrev pub decreases-rows : goal.decreases-rows
decreases-rows l = length l.reader
