use Rattle.std.proofs.Common.{refl, ◌++◌}
use Rattle.report_lines.specs.TableLines.{all_symbol_lines, all_reference_lines}
use Rattle.report_ends.proofs.Stages.{writes_not_then, writes_then}
use Rattle.report_lines.proofs.write_tables.write_tables.Goals as goal

pub returns-in_err-write_scopes : goal.returns-in_err-write_scopes
returns-in_err-write_scopes g c = writes_not_then g.K.Sink.held g.K.Sink.faults _ _ _ (all_symbol_lines c.args.scoping.now ++ all_reference_lines c.args.scoping.now) _ _ c.from_residual.result c.in_err-write_scopes.ensures c.from_residual.ensures.1 refl

pub returns-in_err-write_all_symbols : goal.returns-in_err-write_all_symbols
returns-in_err-write_all_symbols g c =
    writes_then g.K.Sink.held g.K.Sink.faults _ _ _ _ (all_symbol_lines c.args.scoping.now ++ all_reference_lines c.args.scoping.now) _ _ c.from_residual-in_err-write_all_symbols.result c.in_ok-write_scopes.ensures
    (writes_not_then g.K.Sink.held g.K.Sink.faults _ _ _ (all_reference_lines c.args.scoping.now) _ _ c.from_residual-in_err-write_all_symbols.result c.in_err-write_all_symbols.ensures c.from_residual-in_err-write_all_symbols.ensures.1 refl) refl

pub returns : goal.returns
returns g c =
    writes_then g.K.Sink.held g.K.Sink.faults _ _ _ _ (all_symbol_lines c.args.scoping.now ++ all_reference_lines c.args.scoping.now) _ _ _ c.in_ok-write_scopes.ensures
    (writes_then g.K.Sink.held g.K.Sink.faults _ _ _ _ _ _ _ _ c.in_ok-write_all_symbols.ensures c.write_all_references.ensures refl) refl
