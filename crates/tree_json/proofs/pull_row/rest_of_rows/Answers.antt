use Rattle.std.proofs.Common.{rules, map}
use Rattle.tree_json.specs.Form.{in_rows, line_of_data}
use Rattle.tree_json.specs.Listing.{line}
use Rattle.tree_json.proofs.Pulling.{going_next, going_end, pushed_line, falls}
use Rattle.tree_json.proofs.pull_row.rest_of_rows.Goals as goal

pub rows-smaller : goal.rows-smaller
rows-smaller c = falls (line_of_data in_rows) 2 c.rows.reader c.take_end_array.new.self c.take_row.new.reader (line c.in-Some.row) (search rules) c.in-Some.ensures

pub rows-preserved : goal.rows-preserved
rows-preserved c =
    going_next (line_of_data in_rows) 2 c.args.reader.now c.rows.reader c.take_end_array.new.self c.take_row.new.reader (map line c.rows.rows.items) (map line c.push.new.self.items) (line c.in-Some.row)
    c.rows.invariant (search rules) c.in-Some.ensures (pushed_line c.rows.rows.items c.push.new.self.items c.in-Some.row (search rules))

pub returns : goal.returns
returns c = going_end (line_of_data in_rows) 2 c.args.reader.now c.rows.reader (map line c.rows.rows.items) c.take_end_array.new.self c.rows.invariant (search rules)
