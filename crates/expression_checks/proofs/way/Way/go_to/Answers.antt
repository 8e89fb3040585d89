use Rattle.check_model.specs.Surroundings.{nodes_outward}
use Rattle.check_context.specs.Handed.{sight}
use Rattle.expression_checks.proofs.way.Way.go_to.Goals as goal

pub returns-clause-along : goal.returns-clause-along
returns-clause-along c = c.go_on_to.ensures.along (nodes_outward (sight c.args.kind.node.now c.args.ctx.now)) c.stand_before.ensures.along
