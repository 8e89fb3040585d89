use Rattle.semantic_model.proofs.steps.Turns.{steps_end}
use Rattle.semantic_model.proofs.laws.children_end.Goals as goal

pub returns : goal.returns
returns c = λ p own n cursor items i h. steps_end p own n cursor items i h
