use Rattle.std.proofs.Common.{◌≡◌, true, get_or, ◌∙◌}
use Rattle.semantic_tree.specs.Sound.{is_sound}
use Rattle.semantic_model.specs.Element.{Element}
use Rattle.class_table.specs.Seen.{element_seen}
use Rattle.check_context.specs.Handed.{around}
use Rattle.check_context.proofs.Stopping.{stopped, all_told_so_far}
use Rattle.expression_checks.proofs.EachElement.{no_element, before_each, earlier_goes_on, element_told, element_begun}
use Rattle.expression_checks.proofs.elements.tell_elements.Goals as goal

pub tell_element-requires : goal.tell_element-requires
tell_element-requires c =
    before_each (λ (e : Element). is_sound c.args.ctx.now.source_text.now e.span ≡ true) (element_seen (get_or c.args.elements.now c.loop-own.own-index no_element)) c.args.elements.now c.loop-own.own-index c.loop-own.earlier c.requires.sound c.loop-own.invariant.earlier

pub returns-in_err-tell_element : goal.returns-in_err-tell_element
returns-in_err-tell_element c =
    stopped _ c.from_residual.result _ _ _ c.from_residual.ensures.1
    (element_begun (around c.args.ctx.now) c.args.elements.now c.loop-own.own-index c.loop-own-test.true c.loop-own.earlier c.loop-own.invariant.earlier _ _ _ _ c.loop-own.invariant.told c.in_err-tell_element.ensures)

pub returns-in_err-add : goal.returns-in_err-add
returns-in_err-add c =
    stopped _ c.from_residual-in_err-add.result _ _ _ c.from_residual-in_err-add.ensures.1
    (all_told_so_far _ _ _ _ (element_told (around c.args.ctx.now) c.args.elements.now c.loop-own.own-index c.loop-own-test.true c.loop-own.earlier c.loop-own.invariant.earlier _ _ _ _ c.loop-own.invariant.told c.in_ok-tell_element.ensures))

pub loop-own-preserved : goal.loop-own-preserved
loop-own-preserved c = record {
  earlier = c.in_ok-add.ensures ∙ earlier_goes_on (around c.args.ctx.now) c.args.elements.now c.loop-own.own-index c.loop-own-test.true c.loop-own.earlier c.loop-own.invariant.earlier;
  told = element_told (around c.args.ctx.now) c.args.elements.now c.loop-own.own-index c.loop-own-test.true c.loop-own.earlier c.loop-own.invariant.earlier _ _ _ _ c.loop-own.invariant.told c.in_ok-tell_element.ensures;
}
