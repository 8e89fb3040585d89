use Rattle.std.proofs.Common.{◌≡◌, ◌<◌, ℕ, [], length, false}
use Rattle.reachability.specs.Rows.{lists}
use Rattle.link_search.specs.Walked.{is_new, mark_of}
use Rattle.link_search.specs.Keeping.{Keeps}
use Rattle.link_search.proofs.rings.leading_to_rings.Given as goal

abbrev pub invariant-loop-start : goal.invariant-loop-start
invariant-loop-start l =
    Keeps (lists l.rows) (length l.rows) l.walk
    × (l.walk.tasks ≡ [])
    × ((b : ℕ) → b < l.start → is_new (mark_of l.walk.marks b) ≡ false)
