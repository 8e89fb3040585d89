use Rattle.std.proofs.Common.{List, ◌++◌, codes, sym, ap, subst, ◌∙◌}
use Rattle.semantic_syntax.specs.declared.spans.Span.{Span}
use Rattle.semantic_tree.specs.declared.node.Node.{Node}
use Rattle.semantic_diagnostics.specs.declared.diagnostic.Diagnostic.{Diagnostic}
use Rattle.semantic_diagnostics.specs.Names.{unexpected_arguments}
use Rattle.check_model.specs.Names.{is_field_value, is_static_block}
use Rattle.check_model.specs.Search.{row_if, rows_of_some}
use Rattle.check_context.specs.Tells.{Tells}
use Rattle.statement_checks.proofs.Conditions.{rows_with}
use Rattle.statement_checks.proofs.references.tell_if_arguments.Goals as goal

abbrev told : Span → Node × Node → List Diagnostic
told span link =
    row_if (is_field_value link) (unexpected_arguments (codes "class field initializer") span)
    ++ row_if (is_static_block link) (unexpected_arguments (codes "static initialization block") span)

pub returns-in-Some : goal.returns-in-Some
returns-in-Some c =
    subst (λ (rows : List Diagnostic). Tells c.tell_arguments.result rows c.args.out.now c.tell_arguments.new.out)
    (ap (λ (span : Span). told span (c.in-Some.child.node.now, c.in-Some.parent.node.now)) c.span.ensures
    ∙ ap (rows_of_some (told c.args.kind.node.now.span)) c.in-Some.ensures
    ∙ rows_with _ _ (sym c.reads.ensures ∙ c.if-not-reads.false))
    c.tell_arguments.ensures
