use Rattle.std.proofs.Common.{sym, ap, ◌∙◌}
use Rattle.semantic_walk.specs.Walker.{Walker}
use Rattle.semantic_walk.proofs.Leaves.{left_by}
use Rattle.semantic_walk.proofs.TurnEnds.{on_ok}
use Rattle.semantic_walk.proofs.walk.Walk.tell_and_leave.Goals as goal

pub returns-clause-made : goal.returns-clause-made
returns-clause-made g c = λ p node shows.
    on_ok c.step_from.result c.step_from.ensures.made (λ made.
    made ∙ ap (left_by c.tell.new.self) (sym node) ∙ ap (λ (w : Walker). left_by w p.node) (c.in_ok-tell.ensures.made p node shows))
