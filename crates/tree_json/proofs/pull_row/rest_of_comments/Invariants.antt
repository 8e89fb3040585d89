use Rattle.std.proofs.Common.{length}
use Rattle.tree_json.specs.Comments.{comment_of_data}
use Rattle.tree_json.proofs.Pulling.{Going}
use Rattle.tree_json.proofs.pull_row.rest_of_comments.Given as goal

abbrev pub invariant-comments : goal.invariant-comments
invariant-comments l = Going comment_of_data 1 l.initial.reader l.comments.items l.reader

abbrev pub decreases-comments : goal.decreases-comments
decreases-comments l = length l.reader
