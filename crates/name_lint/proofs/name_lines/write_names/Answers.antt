use Rattle.std.proofs.Common.{refl, flat_map, map}
use Rattle.report_ends.proofs.Stages.{writes_not_then, writes_then}
use Rattle.name_lint.specs.Gathered.{text_of, span_of}
use Rattle.name_lint.specs.Lines.{undeclared_line}
use Rattle.name_lint.proofs.name_lines.write_names.Goals as goal

pub returns-in_err-write_unused : goal.returns-in_err-write_unused
returns-in_err-write_unused g c =
    writes_not_then g.K.Sink.held g.K.Sink.faults _ _ _ (flat_map (undeclared_line (map text_of c.args.nodes.now) (map span_of c.args.nodes.now)) c.args.report.now.undeclared) _ _ c.from_residual.result c.in_err-write_unused.ensures
    c.from_residual.ensures.1 (rw c.as_slice.ensures refl)

pub returns : goal.returns
returns g c = writes_then g.K.Sink.held g.K.Sink.faults _ _ _ _ _ _ _ _ c.in_ok-write_unused.ensures c.write_undeclared.ensures (rw (c.as_slice.ensures, c.as_slice-2.ensures) refl)
