use Rattle.std.proofs.Common.{List, [], sym, subst, ◌∙◌}
use Rattle.semantic_diagnostics.specs.declared.diagnostic.Diagnostic.{Diagnostic}
use Rattle.check_model.specs.Jumps.{continue_rows}
use Rattle.check_context.specs.Tells.{Tells}
use Rattle.statement_checks.proofs.JumpEnds.{at_end, at_target}
use Rattle.statement_checks.proofs.jumps.tell_met_by_continue.Goals as goal

pub returns-then-is_end : goal.returns-then-is_end
returns-then-is_end c =
    subst (λ (rows : List Diagnostic). Tells c.tell_unmet.result rows c.args.out.now c.tell_unmet.new.out)
    (at_end (λ target. []) (continue_rows c.args.label.node.now) c.args.label.node.now c.args.met.node.now (sym c.is_end.ensures ∙ c.if-is_end.true))
    c.tell_unmet.ensures

pub returns-else-is_end : goal.returns-else-is_end
returns-else-is_end c =
    subst (λ (rows : List Diagnostic). Tells c.tell_no_loop.result rows c.args.out.now c.tell_no_loop.new.out)
    (sym (at_target (continue_rows c.args.label.node.now) c.args.label.node.now c.args.met.node.now (sym c.is_end.ensures ∙ c.if-is_end.false)))
    c.tell_no_loop.ensures
