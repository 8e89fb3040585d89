use Rattle.semantic_model.proofs.steps.Turns.{steps_turn}
use Rattle.semantic_model.proofs.laws.children_take_turns.Goals as goal

pub returns : goal.returns
returns c = λ p own n cursor items i child h e. steps_turn p own n cursor items i child h e
