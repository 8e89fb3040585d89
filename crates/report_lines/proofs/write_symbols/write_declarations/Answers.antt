use Rattle.std.proofs.Common.{refl, rules, ◌≡◌, flat_map}
use Rattle.semantic_syntax.specs.Reading.{symbol_of, redeclarations_of}
use Rattle.report_ends.proofs.Stages.{writes_not_then, writes_then}
use Rattle.report_lines.specs.Rows as row
use Rattle.report_lines.specs.TableLines.{symbol_line, symbol_text, redeclaration_line}
use Rattle.report_lines.proofs.Made.{writes_made}
use Rattle.report_lines.proofs.write_symbols.write_declarations.Goals as goal

pub returns-in_err-offer_made : goal.returns-in_err-offer_made
returns-in_err-offer_made g c =
    let symbol = symbol_of c.args.scoping.now c.args.symbol in
    let same : symbol_text c.args.symbol c.symbol_name.result.now c.symbol_scope_id.result c.symbol_declaration.result c.symbol_span.result c.symbol_flags.result ≡ symbol_line c.args.symbol symbol = search rules in
    writes_not_then g.K.Sink.held g.K.Sink.faults _ _ (symbol_line c.args.symbol symbol) (flat_map (redeclaration_line c.args.symbol) (redeclarations_of c.args.scoping.now c.args.symbol)) _ _ c.from_residual.result
    (writes_made g.K.Sink.held g.K.Sink.faults _ _ _ _ _ _ _ c.in_err-offer_made.ensures c.make_symbol_line-made.ensures same (row.symbol _ symbol, refl)) c.from_residual.ensures.1 refl

pub returns : goal.returns
returns g c =
    let symbol = symbol_of c.args.scoping.now c.args.symbol in
    let same : symbol_text c.args.symbol c.symbol_name.result.now c.symbol_scope_id.result c.symbol_declaration.result c.symbol_span.result c.symbol_flags.result ≡ symbol_line c.args.symbol symbol = search rules in
    writes_then g.K.Sink.held g.K.Sink.faults _ _ _ (symbol_line c.args.symbol symbol) _ _ _ _
    (writes_made g.K.Sink.held g.K.Sink.faults _ _ _ _ _ _ _ c.in_ok-offer_made.ensures c.make_symbol_line-made.ensures same (row.symbol _ symbol, refl)) c.write_redeclarations.ensures (rw c.symbol_redeclarations.ensures refl)
