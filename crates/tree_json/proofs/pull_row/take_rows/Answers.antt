use Rattle.std.proofs.Common.{rules, map}
use Rattle.tree_json.specs.Comments.{all_items}
use Rattle.tree_json.specs.Form.{in_rows, line_of_data}
use Rattle.tree_json.specs.Listing.{line}
use Rattle.tree_json.proofs.Pulling.{lists_pulled}
use Rattle.tree_json.proofs.pull_row.take_rows.Goals as goal

pub returns : goal.returns
returns c = lists_pulled (λ rows. map line rows.items) (all_items (line_of_data in_rows)) 2 c.rest_of_rows.result c.args.reader.now c.open_array.new.reader _ (search rules) c.rest_of_rows.ensures
