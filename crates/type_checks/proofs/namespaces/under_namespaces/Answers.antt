use Rattle.std.proofs.Common.{◌≡◌, ap, sym, ◌∙◌}
use Rattle.semantic_kinds.specs.Kinds.{same_kind}
use Rattle.semantic_kinds.specs.declared.kind.AstType.TheVariants as kinds
use Rattle.semantic_kinds.specs.declared.role.Role.TheVariants as roles
use Rattle.semantic_tree.proofs.Wrappers.{child_in_below}
use Rattle.semantic_model.proofs.form.Clauses.{kind_is}
use Rattle.check_model.specs.Groups.{is_namespace}
use Rattle.type_checks.proofs.UnderNamespaces.{under_namespace, under_nothing}
use Rattle.type_checks.proofs.namespaces.under_namespaces.Goals as goal

pub loop-inner-smaller : goal.loop-inner-smaller
loop-inner-smaller c = child_in_below roles.Body c.loop-inner.inner.node.now.children c.in-Some.body.node.now (sym c.in-Some.ensures)

pub loop-inner-preserved : goal.loop-inner-preserved
loop-inner-preserved c =
    let node = c.loop-inner.inner.node.now in
    let namespace : node.kind ≡ kinds.TSNamespaceDeclaration = kind_is node.kind kinds.TSNamespaceDeclaration (ap (λ k. same_kind k kinds.TSNamespaceDeclaration) (sym c.ty.ensures) ∙ sym c.eq.ensures ∙ c.loop-inner-test.true) in
    sym (under_namespace node c.in-Some.body.node.now (ap is_namespace namespace) (sym c.in-Some.ensures)) ∙ c.loop-inner.invariant

pub returns-in-None : goal.returns-in-None
returns-in-None c = sym (under_nothing c.loop-inner.inner.node.now (sym c.in-None.ensures)) ∙ c.loop-inner.invariant
