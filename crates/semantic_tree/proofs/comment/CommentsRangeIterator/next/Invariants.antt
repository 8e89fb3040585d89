use Rattle.std.proofs.Common.{◌≡◌, length}
use Rattle.semantic_tree.specs.CommentIter.{comments_left}
use Rattle.semantic_tree.proofs.comment.CommentsRangeIterator.next.Given as goal

-- no comment that starts within was passed
abbrev pub invariant-loop-comment : goal.invariant-loop-comment
invariant-loop-comment l = comments_left l.self ≡ comments_left l.initial.self

abbrev pub decreases-loop-comment : goal.decreases-loop-comment
decreases-loop-comment l = length l.self.left.now
