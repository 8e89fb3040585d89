use Rattle.std.proofs.Common.{◌≡◌, length}
use Rattle.serving.specs.Serving.{HasServed}
use Rattle.serving.proofs.turns.serve.Given as goal

-- so many requests are answered, and no end failed
abbrev pub invariant-loop : goal.invariant-loop
invariant-loop g l = let left = g.S.Source.left in let held = g.K.Sink.held in
    (served : HasServed g.K.Sink.Offered (g.A.Answering.Answers l.fn.answering) (left l.fn.source) (left l.source) (held l.fn.out) (held l.out) l.fn.out l.out)
    × (length served.told ≡ l.counter) × (g.S.Source.faults l.source ≡ g.S.Source.faults l.fn.source) × (g.K.Sink.faults l.out ≡ g.K.Sink.faults l.fn.out)
