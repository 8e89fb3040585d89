use Rattle.std.proofs.Common.{rules, ◌≡◌, refl}
use Rattle.semantic_syntax.specs.Reading.{reference_of}
use Rattle.report_lines.specs.TableLines.{reference_text, reference_line}
use Rattle.report_lines.specs.Rows as row
use Rattle.report_lines.proofs.Made.{writes_made}
use Rattle.report_lines.proofs.write_references.write_reference.Goals as goal

pub returns : goal.returns
returns g c =
    let same : reference_text c.index.result c.reference_name-name.result.now c.get_reference.result.now ≡ reference_line c.args.scoping.now c.args.reference (reference_of c.args.scoping.now c.args.reference) = search rules in
    writes_made g.K.Sink.held g.K.Sink.faults _ _ _ _ _ _ _ c.offer_made.ensures c.make_reference_line-made.ensures same (row.reference c.args.scoping.now _ _, refl)
