use Rattle.std.proofs.Common.{◌≡◌, ◌⊎◌, ℕ, length, false}
use Rattle.reachability.specs.Rows.{Among, lists}
use Rattle.link_search.specs.Walked.{is_new, mark_of}
use Rattle.link_search.specs.declared.rings.Task.{Task}
use Rattle.link_search.specs.Keeping.{Keeps, left_to_do}
use Rattle.link_search.proofs.rings.Walk.walk_from.Given as goal

abbrev pub invariant-loop-task : goal.invariant-loop-task
invariant-loop-task l =
    Keeps (lists l.rows) (length l.rows) l.self
    × ((b : ℕ) → is_new (mark_of l.fn.self.marks b) ≡ false → is_new (mark_of l.self.marks b) ≡ false)
    × ((is_new (mark_of l.self.marks l.start) ≡ false) ⊎ Among (Task.Enter l.start) l.self.tasks)

abbrev pub decreases-loop-task : goal.decreases-loop-task
decreases-loop-task l = left_to_do (lists l.rows) l.self
