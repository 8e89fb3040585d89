use Rattle.program_laws.proofs.ComputedNames.{names_differ}
use Rattle.program_laws.proofs.bound.names_of_operands_are_not_bound.Goals as goal

pub returns : goal.returns
returns c = λ k e. names_differ k e
