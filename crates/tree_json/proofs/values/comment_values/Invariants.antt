use Rattle.std.proofs.Common.{◌≡◌, ◌++◌, map, drop}
use Rattle.serde_json.specs.View.{view as data_of}
use Rattle.tree_json.specs.Written.{comment_data, Each, IsCommentAgain}
use Rattle.tree_json.proofs.values.comment_values.Given as goal

abbrev pub invariant-loop-comment : goal.invariant-loop-comment
invariant-loop-comment l = record {
  values : map data_of l.values.items ++ map comment_data (drop l.comment-index l.comments) ≡ map comment_data l.comments;
  again : Each IsCommentAgain (drop l.comment-index l.comments) → Each IsCommentAgain l.comments;
}
