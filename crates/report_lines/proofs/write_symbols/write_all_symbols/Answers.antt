use Rattle.std.proofs.Common.{refl}
use Rattle.std.specs.List.{flat_map}
use Rattle.report_lines.specs.TableLines.{pure_line}
use Rattle.report_ends.proofs.Stages.{writes_not_then, writes_then}
use Rattle.report_lines.proofs.write_symbols.write_all_symbols.Goals as goal

pub returns-in_err-write_symbols : goal.returns-in_err-write_symbols
returns-in_err-write_symbols g c = writes_not_then g.K.Sink.held g.K.Sink.faults _ _ _ (flat_map pure_line c.args.scoping.now.pure_symbols) _ _ c.from_residual.result c.in_err-write_symbols.ensures c.from_residual.ensures.1 refl

pub returns : goal.returns
returns g c = writes_then g.K.Sink.held g.K.Sink.faults _ _ _ _ _ _ _ _ c.in_ok-write_symbols.ensures c.write_pures.ensures (rw c.no_side_effects.ensures refl)
