use Rattle.std.proofs.Common.{◌≡◌, true, ap, sym, ◌∙◌}
use Rattle.semantic_kinds.specs.declared.role.Role.TheVariants as roles
use Rattle.semantic_tree.specs.KindGroups.{is_wrapper}
use Rattle.semantic_tree.proofs.Wrappers.{child_in_below, unwrapped_child_in, unwrapped_alone}
use Rattle.semantic_tree.proofs.view.AstKind.get_inner_expression.Goals as goal

pub loop-kind-smaller : goal.loop-kind-smaller
loop-kind-smaller c = child_in_below roles.Expression c.loop-kind.kind.node.now.children c.in-Some.inner.node.now (sym c.in-Some.ensures)

pub loop-kind-preserved : goal.loop-kind-preserved
loop-kind-preserved c =
    let wraps : is_wrapper c.loop-kind.kind.node.now.kind ≡ true = ap is_wrapper (sym c.ty.ensures) ∙ sym c.is_wrapper.ensures ∙ c.loop-kind-test.true in
    sym (unwrapped_child_in is_wrapper roles.Expression c.loop-kind.kind.node.now c.in-Some.inner.node.now wraps (sym c.in-Some.ensures)) ∙ c.loop-kind.invariant

pub returns-in-None : goal.returns-in-None
returns-in-None c = sym (unwrapped_alone is_wrapper roles.Expression c.loop-kind.kind.node.now (sym c.in-None.ensures)) ∙ c.loop-kind.invariant
