use Rattle.std.proofs.Common.{sym, ap, ◌∙◌}
use Rattle.semantic_kinds.specs.Classes.{is_member}
use Rattle.check_model.specs.Types.{is_countable}
use Rattle.semantic_tree.specs.declared.node.Node.{Node}
use Rattle.type_checks.proofs.CountsOn.{others}
use Rattle.type_checks.proofs.enums.counts_on.Goals as goal

pub returns-in_default : goal.returns-in_default
returns-in_default c =
    c.is_member_expression_kind.ensures
    ∙ ap is_member (sym c.ty.ensures)
    ∙ others c.ty.result c.in_default.not-NumericLiteral c.in_default.not-IdentifierReference c.in_default.not-BinaryExpression c.in_default.not-UnaryExpression
    ∙ ap is_countable (c.ty.ensures ∙ ap (λ (node : Node). node.kind) c.without_parentheses-inner.ensures)
