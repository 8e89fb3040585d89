use Rattle.report_ends.proofs.Stages.{flat_map_goes_on, flat_map_fails}
use Rattle.tangle_lint.specs.Lines.{seen_line}
use Rattle.tangle_lint.proofs.tangle_lines.write_each.Goals as goal

pub loop-name-preserved : goal.loop-name-preserved
loop-name-preserved g c =
    flat_map_goes_on g.K.Sink.held g.K.Sink.faults (seen_line c.args.scoping.now) c.loop-name.name-index c.args.names.now _ _ _ _ _ _ c.loop-name.invariant c.loop-name-test.true c.name-item.is c.in_ok-write_tangle.ensures

pub returns-in_err-write_tangle : goal.returns-in_err-write_tangle
returns-in_err-write_tangle g c =
    flat_map_fails g.K.Sink.held g.K.Sink.faults (seen_line c.args.scoping.now) c.loop-name.name-index c.args.names.now _ _ _ _ _ _ c.from_residual.result c.loop-name.invariant c.loop-name-test.true c.name-item.is c.in_err-write_tangle.ensures
    c.from_residual.ensures.1
