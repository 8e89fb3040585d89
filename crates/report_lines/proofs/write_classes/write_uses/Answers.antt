use Rattle.std.proofs.Common.{ap, refl, ◌∙◌}
use Rattle.report_lines.specs.Rows as row
use Rattle.class_table.specs.Seen.{use_behind}
use Rattle.report_lines.specs.ClassLines.{private_use_text, private_use_line}
use Rattle.report_lines.proofs.Items.{items_go_on, items_fail}
use Rattle.report_lines.proofs.Utf8.{same_characters}
use Rattle.report_lines.proofs.Made.{writes_made}
use Rattle.report_lines.proofs.write_classes.write_uses.Goals as goal

pub loop-used-preserved : goal.loop-used-preserved
loop-used-preserved g c =
    items_go_on g.K.Sink.held g.K.Sink.faults use_behind (private_use_line c.args.class) _ _ _ _ _ _ _ _ _ c.loop-used.invariant c.in-Some.is c.next.ensures.steps
    (writes_made g.K.Sink.held g.K.Sink.faults _ _ _ _ _ _ _ c.in_ok-offer_made.ensures c.make_private_use_line-made.ensures (ap (λ bytes. private_use_text c.args.class c.in-Some.used.now.id bytes c.in-Some.used.now.span c.as_slice.result.now) (same_characters _ _ c.as_str.utf8 c.as_str.ensures)
    ∙ ap (private_use_text c.args.class c.in-Some.used.now.id _ c.in-Some.used.now.span) c.as_slice.ensures) (row.private_use _ _, refl))

pub returns-in_err-offer_made : goal.returns-in_err-offer_made
returns-in_err-offer_made g c =
    items_fail g.K.Sink.held g.K.Sink.faults use_behind (private_use_line c.args.class) _ _ _ _ _ _ _ _ _ c.from_residual.result c.loop-used.invariant c.in-Some.is c.next.ensures.steps
    (writes_made g.K.Sink.held g.K.Sink.faults _ _ _ _ _ _ _ c.in_err-offer_made.ensures c.make_private_use_line-made.ensures (ap (λ bytes. private_use_text c.args.class c.in-Some.used.now.id bytes c.in-Some.used.now.span c.as_slice.result.now) (same_characters _ _ c.as_str.utf8 c.as_str.ensures)
    ∙ ap (private_use_text c.args.class c.in-Some.used.now.id _ c.in-Some.used.now.span) c.as_slice.ensures) (row.private_use _ _, refl)) c.from_residual.ensures.1
