use Rattle.std.proofs.Common.{refl}
use Rattle.std.specs.List.{flat_map}
use Rattle.report_lines.specs.TableLines.{free_line}
use Rattle.report_ends.proofs.Stages.{lacks_memory_at_once, writes_not_then, writes_then}
use Rattle.report_lines.proofs.write_references.write_all_references.Goals as goal

pub returns-in_err-names : goal.returns-in_err-names
returns-in_err-names g c = lacks_memory_at_once g.K.Sink.held g.K.Sink.faults c.args.out.now _ c.from_residual.result c.from_residual.ensures.1

pub returns-in_err-write_named : goal.returns-in_err-write_named
returns-in_err-write_named g c = writes_not_then g.K.Sink.held g.K.Sink.faults _ _ _ (flat_map free_line c.args.scoping.now.free) _ _ c.from_residual-in_err-write_named.result c.in_err-write_named.ensures c.from_residual-in_err-write_named.ensures.1 refl

pub returns : goal.returns
returns g c = writes_then g.K.Sink.held g.K.Sink.faults _ _ _ _ _ _ _ _ c.in_ok-write_named.ensures c.write_frees.ensures refl
