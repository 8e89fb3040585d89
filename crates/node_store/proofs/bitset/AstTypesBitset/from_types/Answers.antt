use Rattle.std.proofs.Common.{◌||◌, sym, ◌∙◌, ap, get_or}
use Rattle.std.proofs.lemmas.List.Folds.{list_any_more}
use Rattle.semantic_kinds.specs.declared.kind.AstType.TheVariants.{Program}
use Rattle.semantic_kinds.specs.Kinds.{same_kind}
use Rattle.node_store.proofs.bitset.AstTypesBitset.from_types.Goals as goal

pub loop-ty-preserved : goal.loop-ty-preserved
loop-ty-preserved c = λ k.
    c.set.ensures k
    ∙ ap (λ b. b || same_kind k (get_or c.args.types.now c.loop-ty.ty-index Program)) (c.loop-ty.invariant k)
    ∙ sym (list_any_more (same_kind k) c.args.types.now c.loop-ty.ty-index Program c.loop-ty-test.true)
