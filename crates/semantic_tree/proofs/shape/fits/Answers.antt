use Rattle.std.proofs.Common.{ap, sym, ◌∙◌}
use Rattle.std.proofs.Math.ListN.{drop_of_length-le}
use Rattle.semantic_tree.specs.Fit.{fit}
use Rattle.semantic_tree.proofs.Fits.{part_passes, part_fails}
use Rattle.semantic_tree.proofs.shape.fits.Goals as goal

pub loop-part-init : goal.loop-part-init
loop-part-init c = record {
  items = c.parts-part-items.ensures;
  rest = ap (λ parts. fit parts c.args.children.now) c.parts-part-items.ensures;
}

pub split_at-requires : goal.split_at-requires
split_at-requires c = c.lead.ensures.within

pub loop-part-preserved : goal.loop-part-preserved
loop-part-preserved c =
    let here = c.loop-part in
    record {
      items = here.invariant.items;
      rest = part_passes c.parts-part-items.result.now here.part-index c.lead.result _ here.left.now c.split_at.result.0.now c.split_at.result.1.now c.loop-part-test.true c.lead.ensures.lead c.split_at.ensures.front c.split_at.ensures.back (sym c.is_run.ensures ∙ c.if-not-is_run.false)
          ∙ here.invariant.rest;
    }

pub returns-then-not-is_run : goal.returns-then-not-is_run
returns-then-not-is_run c =
    let here = c.loop-part in
    sym (part_fails c.parts-part-items.result.now here.part-index c.lead.result _ here.left.now c.split_at.result.0.now c.split_at.result.1.now c.loop-part-test.true c.lead.ensures.lead c.split_at.ensures.front c.split_at.ensures.back (sym c.is_run.ensures ∙ c.if-not-is_run.true))
    ∙ here.invariant.rest

pub returns : goal.returns
returns c =
    let here = c.loop-part in
    c.is_empty.ensures ∙ sym (ap (λ parts. fit parts here.left.now) (drop_of_length-le c.parts-part-items.result.now c.loop-part-test.false)) ∙ here.invariant.rest
