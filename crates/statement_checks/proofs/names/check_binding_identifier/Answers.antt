use Rattle.std.proofs.Common.{List, sym, subst, ◌∙◌}
use Rattle.semantic_diagnostics.specs.declared.diagnostic.Diagnostic.{Diagnostic}
use Rattle.check_model.specs.Names.{eval_binding_rows, let_rows}
use Rattle.check_context.specs.Handed.{sight}
use Rattle.check_context.specs.Tells.{Tells}
use Rattle.check_context.proofs.Telling.{first_stops, then_tells}
use Rattle.statement_checks.proofs.Conditions.{rows_unless}
use Rattle.statement_checks.proofs.names.check_binding_identifier.Goals as goal

pub returns-in_err-tell_eval_binding : goal.returns-in_err-tell_eval_binding
returns-in_err-tell_eval_binding c =
    subst (λ (rows : List Diagnostic). Tells c.from_residual.result rows c.args.out.now c.tell_eval_binding.new.out)
    (rows_unless _ _ (sym c.is_typescript_definition.ensures ∙ c.if-is_typescript_definition.false))
    (first_stops _ c.from_residual.result _ (let_rows (sight c.args.kind.node.now c.args.ctx.now)) _ _ c.from_residual.ensures.1 c.in_err-tell_eval_binding.ensures)

pub returns : goal.returns
returns c =
    subst (λ (rows : List Diagnostic). Tells c.tell_let.result rows c.args.out.now c.tell_let.new.out)
    (rows_unless _ _ (sym c.is_typescript_definition.ensures ∙ c.if-is_typescript_definition.false))
    (then_tells c.tell_let.result (eval_binding_rows (sight c.args.kind.node.now c.args.ctx.now)) _ _ _ _ c.in_ok-tell_eval_binding.ensures c.tell_let.ensures)
