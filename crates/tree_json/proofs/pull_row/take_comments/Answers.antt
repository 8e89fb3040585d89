use Rattle.std.proofs.Common.{rules}
use Rattle.tree_json.specs.Comments.{comment_of_data, all_items}
use Rattle.tree_json.proofs.Pulling.{lists_pulled}
use Rattle.tree_json.proofs.pull_row.take_comments.Goals as goal

pub returns : goal.returns
returns c = lists_pulled (λ comments. comments.items) (all_items comment_of_data) 1 c.rest_of_comments.result c.args.reader.now c.open_array.new.reader _ (search rules) c.rest_of_comments.ensures
