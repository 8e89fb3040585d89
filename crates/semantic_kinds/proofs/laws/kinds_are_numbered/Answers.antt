use Rattle.semantic_kinds.proofs.KindNames.{kind_in_place}
use Rattle.semantic_kinds.proofs.laws.kinds_are_numbered.Goals as goal

pub returns : goal.returns
returns c = kind_in_place
