use Rattle.std.proofs.Common.{◌<◌, ◌≤◌, ◌∙◌, inl, length, Ok, Err, arith}
use Rattle.report_ends.proofs.Growth.{wrote_more, taken_inside}
use Rattle.report_ends.proofs.Offering.{offered_again, offered_in_vain, offered_part, offered_all}
use Rattle.report_ends.proofs.streams.write_whole.Goals as goal

pub returns-in_err-count-clause-pieces : goal.returns-in_err-count-clause-pieces
returns-in_err-count-clause-pieces g c =
    offered_part g.K.Sink.Offered _ _ _ _ c.from_residual.result c.from_residual.ensures.1
    (offered_in_vain g.K.Sink.Offered _ _ _ c.loop-taken.taken _ c.loop-taken.invariant.offered (Err c.in_err-count.field-0.0) c.loop-taken-test.true c.in_err-count.ensures.offered tt)

pub returns-then-count-eq0-clause-pieces : goal.returns-then-count-eq0-clause-pieces
returns-then-count-eq0-clause-pieces g c = record {
  whole = tt;
  part = offered_in_vain g.K.Sink.Offered _ _ _ c.loop-taken.taken _ c.loop-taken.invariant.offered (Ok c.in_ok-count.count) c.loop-taken-test.true c.in_ok-count.ensures.offered c.if-count-eq0.true;
}

pub loop-taken-preserved : goal.loop-taken-preserved
loop-taken-preserved g c =
    let some : 0 < c.in_ok-count.count = omega (arith, c.if-count-eq0.false) in
    record {
      fits = taken_inside c.loop-taken.taken c.in_ok-count.count c.args.piece.now c.loop-taken-test.true c.in_ok-count.ensures.bound;
      written = wrote_more _ _ _ c.loop-taken.taken c.in_ok-count.count c.args.piece.now c.loop-taken.invariant.written c.in_ok-count.ensures.bytes;
      faults = c.in_ok-count.ensures.cause.kept (inl some) ∙ c.loop-taken.invariant.faults;
      offered = offered_again g.K.Sink.Offered _ _ _ c.loop-taken.taken c.args.piece.now c.loop-taken.invariant.offered c.in_ok-count.count some c.in_ok-count.ensures.offered;
    }

pub returns-clause-pieces : goal.returns-clause-pieces
returns-clause-pieces g c =
    let past : length c.args.piece.now ≤ c.loop-taken.taken = omega (arith, c.loop-taken-test.false) in
    record { whole = offered_all g.K.Sink.Offered _ _ c.loop-taken.taken c.args.piece.now c.loop-taken.invariant.offered past; part = tt }
