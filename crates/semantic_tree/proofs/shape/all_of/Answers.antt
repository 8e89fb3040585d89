use Rattle.std.proofs.Common.{ap, sym, ◌∙◌}
use Rattle.std.proofs.Math.ListN.{drop_of_length-le}
use Rattle.semantic_kinds.specs.Classes.{is_of}
use Rattle.semantic_tree.specs.Fit.{all_of}
use Rattle.semantic_tree.proofs.Fits.{class_goes_on, class_ends}
use Rattle.semantic_tree.proofs.shape.all_of.Goals as goal

pub loop-child-preserved : goal.loop-child-preserved
loop-child-preserved c =
    let child = c.loop-child-item.result in
    class_goes_on c.args.class c.args.children.now c.loop-child.child-index child c.loop-child-test.true c.loop-child-item.is
    (sym (ap (is_of c.args.class child.1.kind) c.as_str.ensures.chars) ∙ sym c.is_of.ensures ∙ c.if-not-is_of.false)
    ∙ c.loop-child.invariant

pub returns-then-not-is_of : goal.returns-then-not-is_of
returns-then-not-is_of c =
    let child = c.loop-child-item.result in
    sym (class_ends c.args.class c.args.children.now c.loop-child.child-index child c.loop-child-test.true c.loop-child-item.is
    (sym (ap (is_of c.args.class child.1.kind) c.as_str.ensures.chars) ∙ sym c.is_of.ensures ∙ c.if-not-is_of.true))
    ∙ c.loop-child.invariant

pub returns : goal.returns
returns c = sym (ap (all_of c.args.class) (drop_of_length-le c.args.children.now c.loop-child-test.false)) ∙ c.loop-child.invariant
