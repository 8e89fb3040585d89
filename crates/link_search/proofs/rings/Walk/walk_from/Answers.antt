use Rattle.std.proofs.Common.{◌≡◌, ◌⊎◌, inl, inr, ℕ, sym, refl, subst, length, false}
use Rattle.reachability.specs.Rows.{Among, lists}
use Rattle.link_search.specs.Walked.{Walked, is_new, mark_of}
use Rattle.link_search.specs.declared.rings.Task.{Task}
use Rattle.link_search.specs.Keeping.{Keeps}
use Rattle.link_search.proofs.Walking.{starts}
use Rattle.link_search.proofs.rings.Walk.walk_from.Goals as goal

pub loop-task-init : goal.loop-task-init
loop-task-init c =
    subst (λ (w : Walked). Keeps (lists c.args.rows.now) (length c.args.rows.now) w × ((b : ℕ) → is_new (mark_of c.args.self.now.marks b) ≡ false → is_new (mark_of w.marks b) ≡ false) × ((is_new (mark_of w.marks c.args.start) ≡ false) ⊎ Among (Task.Enter c.args.start) w.tasks))
    (sym c.in_ok-go_to.ensures.ok)
    (starts (lists c.args.rows.now) (length c.args.rows.now) c.args.self.now c.args.start c.requires.keeps c.requires.done c.requires.start, (λ b e. e), inr (inl refl))
