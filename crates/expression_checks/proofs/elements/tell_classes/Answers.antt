use Rattle.std.proofs.Common.{◌≡◌, ◌++◌, map, subst, sym}
use Rattle.class_table.specs.Seen.{element_seen}
use Rattle.check_model.specs.Elements.{class_rows}
use Rattle.check_context.specs.Handed.{around}
use Rattle.check_context.specs.Tells.{TellsSome}
use Rattle.check_context.proofs.Telling.{loop_stops, goes_past}
use Rattle.expression_checks.specs.SoundElements.{AreSound}
use Rattle.expression_checks.proofs.EachClass.{each_at, next_at}
use Rattle.expression_checks.proofs.elements.tell_classes.Goals as goal

pub tell_class-requires : goal.tell_class-requires
tell_class-requires c =
    let source = c.args.ctx.now.source_text.now in
    let all = each_at (λ v. map element_seen v.items) (AreSound source) c.args.classes.now c.loop-elements.elements-index c.elements-item.result c.loop-elements-test.true c.requires in
    subst (λ els. AreSound source (map element_seen els)) (sym c.as_slice.ensures.value)
    (subst (λ v. AreSound source (map element_seen v.items)) (sym c.elements-item.is) all)

pub returns-in_err-tell_class : goal.returns-in_err-tell_class
returns-in_err-tell_class c =
    loop_stops _ (class_rows (around c.args.ctx.now)) _ _ _ _ _ _ _ c.from_residual.result c.from_residual.ensures.1
    (next_at (λ v. map element_seen v.items) c.args.classes.now c.loop-elements.elements-index c.elements-item.result c.loop-elements-test.true c.elements-item.is)
    c.loop-elements.invariant
    (subst (λ els. TellsSome (class_rows (around c.args.ctx.now) (map element_seen els)) c.loop-elements.out c.tell_class.new.out) c.as_slice.ensures.value c.in_err-tell_class.ensures)

pub loop-elements-preserved : goal.loop-elements-preserved
loop-elements-preserved c =
    goes_past (class_rows (around c.args.ctx.now)) _ _ _ _ _ _ _
    (next_at (λ v. map element_seen v.items) c.args.classes.now c.loop-elements.elements-index c.elements-item.result c.loop-elements-test.true c.elements-item.is)
    c.loop-elements.invariant
    (subst (λ els. c.tell_class.new.out ≡ c.loop-elements.out ++ class_rows (around c.args.ctx.now) (map element_seen els)) c.as_slice.ensures.value c.in_ok-tell_class.ensures)
