use Rattle.std.proofs.Common.{rules}
use Rattle.tools.specs.Ends.{end_of}
use Rattle.tools.specs.Runs.{IsGivenBy}
use Rattle.tools.proofs.Ending.{ends_as}
use Rattle.tools.proofs.tool.Tool.run_over_standard_ends.Goals as goal

pub returns : goal.returns
returns c = ends_as end_of _ (IsGivenBy c.args.self) c.run_over_standard_ends.result (λ status given. search rules) c.run_over_standard_ends.ensures
