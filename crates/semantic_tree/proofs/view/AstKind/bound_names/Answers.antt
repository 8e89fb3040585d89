use Rattle.std.proofs.Common.{◌∷◌, [], if◌then◌else◌, ap, sym, ◌∙◌}
use Rattle.semantic_kinds.specs.Kinds.{same_kind}
use Rattle.semantic_kinds.specs.declared.kind.AstType.TheVariants.{BindingIdentifier}
use Rattle.semantic_tree.specs.Children.{forest_of}
use Rattle.semantic_tree.specs.BoundNames.{bound_below, rising}
use Rattle.semantic_tree.proofs.Preorder.{names_rise}
use Rattle.semantic_tree.proofs.view.AstKind.bound_names.Goals as goal

pub returns : goal.returns
returns c =
    let node = c.args.self.node.now in
    let names =
    ap (λ kind. rising 0 (bound_below kind (forest_of c.as_slice.result.now))) c.ty-2.ensures
    ∙ ap (λ below. rising 0 (bound_below node.kind below)) (c.as_slice.ensures.forest ∙ ap (λ n. n.children) c.node.ensures)
    ∙ ap (λ b. rising 0 (if b then node ∷ [] else bound_below node.kind node.children)) (sym c.if-eq.false ∙ c.eq.ensures ∙ ap (λ kind. same_kind kind BindingIdentifier) c.ty.ensures) in
    record { rising = names; in_order = λ ordered. names ∙ names_rise node ordered }
