use Rattle.walk_model.proofs.once.NotedOnce.{notes_once}
use Rattle.walk_model.proofs.laws.walk_notes_once.Goals as goal

pub returns : goal.returns
returns c = λ p h e. notes_once p h e
