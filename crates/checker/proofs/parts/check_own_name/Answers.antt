use Rattle.std.proofs.Common.{subst}
use Rattle.check_model.specs.Names.{check_identifier}
use Rattle.check_context.specs.Handed.{sight}
use Rattle.check_context.specs.Tells.{Tells}
use Rattle.checker.proofs.parts.check_own_name.Goals as goal

pub returns : goal.returns
returns c =
    let s = sight c.args.kind.node.now c.args.ctx.now in
    subst (λ span. Tells c.check_identifier.result (check_identifier s.node.text span s) c.args.out.now c.check_identifier.new.out) c.span.ensures
    (subst (λ name. Tells c.check_identifier.result (check_identifier name c.span.result s) c.args.out.now c.check_identifier.new.out) c.text.ensures c.check_identifier.ensures)
