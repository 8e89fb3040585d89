use Rattle.std.proofs.Common.{ap, refl}
use Rattle.scoping_rows.specs.Names.{list_of}
use Rattle.report_lines.specs.Rows as row
use Rattle.report_lines.specs.TableLines.{free_text, free_line}
use Rattle.report_lines.proofs.Items.{items_go_on, items_fail}
use Rattle.report_lines.proofs.Utf8.{same_characters}
use Rattle.report_lines.proofs.Made.{writes_made}
use Rattle.report_lines.proofs.write_references.write_frees.Goals as goal

pub loop-name-preserved : goal.loop-name-preserved
loop-name-preserved g c =
    items_go_on g.K.Sink.held g.K.Sink.faults list_of free_line _ _ _ _ _ _ _ _ _ c.loop-name.invariant c.in-Some.is c.next.ensures.steps
    (writes_made g.K.Sink.held g.K.Sink.faults _ _ _ _ _ _ _ c.in_ok-offer_made.ensures c.make_free_line-made.ensures (ap (λ bytes. free_text bytes c.in-Some.references.now) (same_characters _ _ c.as_str.utf8 c.as_str.ensures)) (row.free _, refl))

pub returns-in_err-offer_made : goal.returns-in_err-offer_made
returns-in_err-offer_made g c =
    items_fail g.K.Sink.held g.K.Sink.faults list_of free_line _ _ _ _ _ _ _ _ _ c.from_residual.result c.loop-name.invariant c.in-Some.is c.next.ensures.steps
    (writes_made g.K.Sink.held g.K.Sink.faults _ _ _ _ _ _ _ c.in_err-offer_made.ensures c.make_free_line-made.ensures (ap (λ bytes. free_text bytes c.in-Some.references.now) (same_characters _ _ c.as_str.utf8 c.as_str.ensures)) (row.free _, refl)) c.from_residual.ensures.1
