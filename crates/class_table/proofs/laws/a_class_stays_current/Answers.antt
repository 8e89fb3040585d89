use Rattle.std.proofs.Common.{subst, sym, ◌≡◌, true}
use Rattle.class_table.specs.Bodies.{end_rightly}
use Rattle.class_table.proofs.BodiesStand.{bodies_stand}
use Rattle.class_table.proofs.Staying.{notes_open}
use Rattle.class_table.proofs.laws.a_class_stays_current.Goals as goal

pub returns-clause-shape : goal.returns-clause-shape
returns-clause-shape c = λ p h. let stand = bodies_stand p h in (subst (λ k. end_rightly k p.root.children ≡ true) (sym stand.0) stand.1, stand.2)

pub returns-clause-current : goal.returns-clause-current
returns-clause-current c = λ k node current lists f e h fits. notes_open f k h e node current lists fits
