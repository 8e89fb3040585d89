use Rattle.std.proofs.Common.{List, sym, subst, ◌∙◌}
use Rattle.semantic_diagnostics.specs.declared.diagnostic.Diagnostic.{Diagnostic}
use Rattle.check_context.specs.Tells.{Tells}
use Rattle.statement_checks.proofs.Conditions.{chosen_first, chosen_second}
use Rattle.statement_checks.proofs.references.check_identifier_reference.Goals as goal

pub returns-then-is_bad_write : goal.returns-then-is_bad_write
returns-then-is_bad_write c =
    subst (λ (rows : List Diagnostic). Tells c.tell_assignment.result rows c.args.out.now c.tell_assignment.new.out)
    (chosen_first _ _ _ _ (sym c.is_typescript_definition.ensures ∙ c.if-is_typescript_definition.false) (sym c.is_bad_write.ensures ∙ c.if-is_bad_write.true))
    c.tell_assignment.ensures

pub returns-else-is_bad_write : goal.returns-else-is_bad_write
returns-else-is_bad_write c =
    subst (λ (rows : List Diagnostic). Tells c.tell_if_arguments.result rows c.args.out.now c.tell_if_arguments.new.out)
    (chosen_second _ _ _ _ (sym c.is_typescript_definition.ensures ∙ c.if-is_typescript_definition.false) (sym c.is_bad_write.ensures ∙ c.if-is_bad_write.false))
    c.tell_if_arguments.ensures
