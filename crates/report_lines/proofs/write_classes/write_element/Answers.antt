use Rattle.std.proofs.Common.{ap, ◌++◌, refl}
use Rattle.report_lines.specs.ClassLines.{element_head, element_end}
use Rattle.report_lines.specs.Rows as row
use Rattle.report_lines.proofs.Made.{writes_made}
use Rattle.report_lines.proofs.Utf8.{same_characters}
use Rattle.report_lines.proofs.write_classes.write_element.Goals as goal

pub returns : goal.returns
returns g c =
    writes_made g.K.Sink.held g.K.Sink.faults _ _ _ _ _ _ _ c.offer_made.ensures c.make_element_line-made.ensures
    (ap (λ bytes. element_head c.args.class c.args.number bytes c.args.element.now.span ++ element_end c.args.element.now.is_private c.args.element.now.is_static c.args.element.now.kind)
    (same_characters _ _ c.as_str.utf8 c.as_str.ensures))
    (row.element _ _ _, refl)
