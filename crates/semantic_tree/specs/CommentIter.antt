-- What an iterator over comments has left.
use Rattle.std.specs.Prelude.{List}
use denote.Bor.{Bor}
use Rattle.semantic_tree.specs.Comments.{comments_within}
use Rattle.semantic_tree.specs.declared.comment.Comment.{Comment}
use Rattle.semantic_tree.specs.declared.comment.CommentsRange.{CommentsRange}

-- the comments that are left
abbrev pub comments_left : CommentsRange → List Comment
comments_left it = comments_within it.start it.end it.left.now

-- the comment that a reference shows
abbrev pub shown_comment : Bor Comment → Comment
shown_comment comment = comment.now
