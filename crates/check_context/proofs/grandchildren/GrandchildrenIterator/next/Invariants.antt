use Rattle.std.proofs.Common.{◌≡◌, [], length}
use Rattle.semantic_tree.specs.ChildIter.{left_of}
use Rattle.check_context.specs.Grandchildren.{grandchildren_left}
use Rattle.check_context.proofs.grandchildren.GrandchildrenIterator.next.Given as goal

-- nothing is left below the child that was reached, and no grandchild was passed
abbrev pub invariant-loop-child : goal.invariant-loop-child
invariant-loop-child l = record { below : left_of l.self.inner ≡ []; same : grandchildren_left l.self ≡ grandchildren_left l.fn.self }

abbrev pub decreases-loop-child : goal.decreases-loop-child
decreases-loop-child l = length (left_of l.self.outer)
