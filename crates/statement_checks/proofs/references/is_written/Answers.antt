use Rattle.std.proofs.Common.{not, ap, ◌∙◌}
use Rattle.semantic_kinds.specs.Classes.{is_member}
use Rattle.semantic_tree.specs.declared.node.Node.{Node}
use Rattle.check_model.specs.Search.{passes}
use Rattle.statement_checks.proofs.references.is_written.Goals as goal

pub returns-in-Some : goal.returns-in-Some
returns-in-Some c = ap not c.is_member_expression_kind.ensures ∙ ap (passes (λ (node : Node). not (is_member node.kind))) c.in-Some.ensures
