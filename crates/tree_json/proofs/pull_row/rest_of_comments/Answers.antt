use Rattle.std.proofs.Common.{rules}
use Rattle.tree_json.specs.Comments.{comment_of_data}
use Rattle.tree_json.proofs.Pulling.{going_next, going_end, falls}
use Rattle.tree_json.proofs.pull_row.rest_of_comments.Goals as goal

pub comments-smaller : goal.comments-smaller
comments-smaller c = falls comment_of_data 1 c.comments.reader c.take_end_array.new.self c.take_comment.new.reader c.in-Some.comment (search rules) c.in-Some.ensures

pub comments-preserved : goal.comments-preserved
comments-preserved c =
    going_next comment_of_data 1 c.args.reader.now c.comments.reader c.take_end_array.new.self c.take_comment.new.reader c.comments.comments.items c.push.new.self.items c.in-Some.comment
    c.comments.invariant (search rules) c.in-Some.ensures (search rules)

pub returns : goal.returns
returns c = going_end comment_of_data 1 c.args.reader.now c.comments.reader c.comments.comments.items c.take_end_array.new.self c.comments.invariant (search rules)
