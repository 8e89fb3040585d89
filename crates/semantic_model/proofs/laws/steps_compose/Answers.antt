use Rattle.semantic_model.proofs.steps.Compose.{steps-append}
use Rattle.semantic_model.proofs.laws.steps_compose.Goals as goal

pub returns : goal.returns
returns c = λ ds first rest st. steps-append ds first rest st
