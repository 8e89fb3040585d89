use Rattle.std.proofs.Common.{refl, rules, ◌≡◌}
use Rattle.semantic_syntax.specs.Reading.{uses_of}
use Rattle.report_ends.proofs.Stages.{writes_not_then, writes_then}
use Rattle.report_lines.specs.Rows as row
use Rattle.report_lines.specs.TableLines.{uses_line}
use Rattle.report_lines.proofs.Made.{writes_made}
use Rattle.report_lines.proofs.write_symbols.write_symbol.Goals as goal

pub returns-in_err-write_declarations : goal.returns-in_err-write_declarations
returns-in_err-write_declarations g c = writes_not_then g.K.Sink.held g.K.Sink.faults _ _ _ (uses_line c.args.symbol (uses_of c.args.scoping.now c.args.symbol)) _ _ c.from_residual.result c.in_err-write_declarations.ensures c.from_residual.ensures.1 refl

pub returns : goal.returns
returns g c =
    let same : uses_line c.args.symbol c.get_resolved_reference_ids.result.now ≡ uses_line c.args.symbol (uses_of c.args.scoping.now c.args.symbol) = search rules in
    writes_then g.K.Sink.held g.K.Sink.faults _ _ _ _ (uses_line c.args.symbol (uses_of c.args.scoping.now c.args.symbol)) _ _ c.offer_made.result c.in_ok-write_declarations.ensures
    (writes_made g.K.Sink.held g.K.Sink.faults _ _ _ _ _ _ _ c.offer_made.ensures c.make_uses_line-made.ensures same (row.uses _ _, refl)) refl
