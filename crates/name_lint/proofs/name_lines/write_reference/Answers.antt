use Rattle.std.proofs.Common.{ap, ◌∙◌, refl}
use Rattle.std.specs.Str.{encode_utf8_all}
use Rattle.report_lines.proofs.Made.{writes_made}
use Rattle.report_lines.proofs.Utf8.{same_characters}
use Rattle.name_lint.proofs.Lines.{reference_told}
use Rattle.name_lint.proofs.name_lines.write_reference.Goals as goal

pub returns : goal.returns
returns g c =
    writes_made g.K.Sink.held g.K.Sink.faults _ _ _ _ _ _ _ c.offer_made.ensures c.make_name_line-made.ensures
    (reference_told c.args.nodes.now c.args.reference c.index-2.result c.index.result c.index-nodes-index.result c.as_str.result.now c.span.result c.index-2.ensures c.index.ensures c.requires c.index-nodes-index.is
    (same_characters _ _ c.as_str.utf8 c.as_str.ensures ∙ ap encode_utf8_all c.text.ensures) c.span.ensures)
    (_, _, _, _, refl)
