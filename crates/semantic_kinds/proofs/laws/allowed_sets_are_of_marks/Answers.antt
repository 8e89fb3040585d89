use Rattle.semantic_kinds.proofs.AllowedBits.{allowed-marks_in}
use Rattle.semantic_kinds.proofs.laws.allowed_sets_are_of_marks.Goals as goal

pub returns : goal.returns
returns c = allowed-marks_in
