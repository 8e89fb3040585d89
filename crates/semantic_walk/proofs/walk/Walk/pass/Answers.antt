use Rattle.std.proofs.Common.{◌≡◌, true, false, cond, sym, ap, ◌∙◌}
use Rattle.semantic_kinds.specs.Kinds.{same_kind}
use Rattle.semantic_kinds.specs.declared.kind.AstType.TheVariants as kind
use Rattle.semantic_tree.specs.Views.{is}
use Rattle.semantic_walk.specs.Walker.{referring}
use Rattle.semantic_walk.proofs.PlaceRows.{on_ok_same}
use Rattle.semantic_walk.proofs.walk.Walk.pass.Goals as goal

pub returns-then-eq-clause-made : goal.returns-then-eq-clause-made
returns-then-eq-clause-made c =
    let w = c.args.self.now in
    let node = c.args.kind.node.now in
    let reference : is kind.IdentifierReference node ≡ true = ap (λ k. same_kind k kind.IdentifierReference) (sym c.ty.ensures) ∙ sym c.eq.ensures ∙ c.if-eq.true in
    on_ok_same c.refer_in_passing.result c.refer_in_passing.new.self _ _ (ap (λ b. cond b (record (referring w node) { cursor = 0 }) w) (sym reference)) c.refer_in_passing.ensures.made

pub returns-else-eq-clause-made : goal.returns-else-eq-clause-made
returns-else-eq-clause-made c =
    let w = c.args.self.now in
    let node = c.args.kind.node.now in
    let other : is kind.IdentifierReference node ≡ false = ap (λ k. same_kind k kind.IdentifierReference) (sym c.ty.ensures) ∙ sym c.eq.ensures ∙ c.if-eq.false in
    ap (λ b. cond b (record (referring w node) { cursor = 0 }) w) (sym other)
