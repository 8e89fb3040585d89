use Rattle.std.proofs.Common.{sym, ◌∙◌}
use Rattle.checker.proofs.Tested.{tested_checkable, checkable_told}
use Rattle.checker.proofs.conditions.is_checkable.Goals as goal

pub returns-clause-fits : goal.returns-clause-fits
returns-clause-fits c = λ h. tested_checkable c.args.kind.node.now c.args.ctx.now (sym c.meets_each.ensures ∙ h)

pub returns-clause-complete : goal.returns-clause-complete
returns-clause-complete c = λ h. c.meets_each.ensures ∙ checkable_told c.args.kind.node.now c.args.ctx.now h
