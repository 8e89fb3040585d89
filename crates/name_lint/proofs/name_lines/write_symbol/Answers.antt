use Rattle.std.proofs.Common.{rules, ◌≡◌, codes, refl}
use Rattle.report_lines.proofs.Made.{writes_made}
use Rattle.name_lint.specs.Lines.{name_line, unused_line}
use Rattle.name_lint.proofs.name_lines.write_symbol.Goals as goal

pub returns : goal.returns
returns g c =
    let same : name_line (codes "unused ") c.index.result c.symbol_name.result.now c.symbol_span.result ≡ unused_line c.args.scoping.now c.args.symbol = search rules in
    writes_made g.K.Sink.held g.K.Sink.faults _ _ _ _ _ _ _ c.offer_made.ensures c.make_name_line-made.ensures same (_, _, _, _, refl)
