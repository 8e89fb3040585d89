use Rattle.program_laws.proofs.BoundAlike.{names_alike, names_in_role, no_other_names}
use Rattle.program_laws.proofs.bound.names_by_role_are_bound.Goals as goal

pub returns-clause-alike : goal.returns-clause-alike
returns-clause-alike c = λ p e. names_alike p e

pub returns-clause-in_role : goal.returns-clause-in_role
returns-clause-in_role c = λ p e. names_in_role p e

pub returns-clause-others : goal.returns-clause-others
returns-clause-others c = λ p e. no_other_names p e
