use Rattle.walk_model.proofs.refers.GivesTables.{gives_tables}
use Rattle.walk_model.proofs.laws.walk_gives_tables.Goals as goal

pub returns : goal.returns
returns c = λ p h. gives_tables p h
