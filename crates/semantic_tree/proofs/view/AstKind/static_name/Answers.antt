use Rattle.std.proofs.Common.{Some, sym, ap, ◌∙◌}
use Rattle.semantic_tree.specs.KeyNames.{static_name_by}
use Rattle.semantic_tree.proofs.NullName.{null_shown}
use Rattle.semantic_tree.proofs.view.AstKind.static_name.Goals as goal

pub returns-in-NullLiteral : goal.returns-in-NullLiteral
returns-in-NullLiteral c =
    ap Some null_shown ∙ ap (λ kind. static_name_by kind c.args.self.node.now) (sym c.in-NullLiteral.is ∙ c.ty.ensures)
