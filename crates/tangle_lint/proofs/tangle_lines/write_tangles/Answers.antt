use Rattle.std.proofs.Common.{ap, ◌∙◌}
use Rattle.report_lines.proofs.Items.{writes_same}
use Rattle.tangle_lint.specs.Lines.{tangle_lines}
use Rattle.tangle_lint.proofs.Lines.{lines_seen}
use Rattle.tangle_lint.proofs.tangle_lines.write_tangles.Goals as goal

pub returns : goal.returns
returns g c =
    writes_same g.K.Sink.held g.K.Sink.faults _ _ _ _ c.write_each.result c.write_each.ensures
    (lines_seen c.args.scoping.now c.as_slice.result.now ∙ ap (tangle_lines c.args.scoping.now) c.as_slice.ensures)
