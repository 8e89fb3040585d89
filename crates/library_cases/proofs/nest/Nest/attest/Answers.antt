use Rattle.library_cases.proofs.Nests.{nest_is_source}
use Rattle.library_cases.proofs.nest.Nest.attest.Goals as goal

pub returns : goal.returns
returns c = nest_is_source c.args.self.now.names _ _ _
