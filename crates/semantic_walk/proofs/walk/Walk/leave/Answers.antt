use Rattle.std.proofs.Common.{◌≡◌, false, sym, ap, ◌∙◌}
use Rattle.semantic_walk.specs.Walker.{Walker}
use Rattle.semantic_walk.proofs.Leaves.{left_by, left_untold}
use Rattle.semantic_walk.proofs.TurnEnds.{on_ok}
use Rattle.semantic_walk.proofs.walk.Walk.leave.Goals as goal

pub returns-else-self-clause-made : goal.returns-else-self-clause-made
returns-else-self-clause-made g c = λ p node shows.
    let w : Walker = c.args.self.now in
    let off : w.checks ≡ false = sym (ap (λ (v : Walker). v.checks) c.self.view_is) ∙ c.if-self.false in
    on_ok c.step_from.result c.step_from.ensures.made (λ made. made ∙ ap (left_by w) (sym node) ∙ left_untold w p off)
