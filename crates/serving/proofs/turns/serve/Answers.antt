use Rattle.std.proofs.Common.{subst, ◌∙◌, refl, arith, ◌∷◌, [], length-append}
use Rattle.serving.specs.Serving.{Turn}
use Rattle.serving.proofs.Steps.{stopped_by}
use Rattle.serving.proofs.Exchanges.{served_none, served_more, served_all, served_some, served_most}
use Rattle.serving.proofs.Wholes.{only_memory}
use Rattle.serving.proofs.turns.serve.Goals as goal

pub loop-init : goal.loop-init
loop-init g c = (served_none g.K.Sink.Offered _ _ _ _, refl, refl, refl)

pub loop-preserved : goal.loop-preserved
loop-preserved g c =
    let one = subst (Turn g.K.Sink.Offered _ _ _ _ _ _ _) c.in-Some.is c.in_ok-serve_one.ensures.turn in (
      served_more g.K.Sink.Offered _ _ _ _ _ _ _ _ _ _ c.loop.invariant.0 one,
      omega (arith, c.loop.invariant.1, length-append c.loop.invariant.0.told (one.told ∷ [])),
      c.in_ok-serve_one.ensures.read_kept ∙ c.loop.invariant.2,
      c.in_ok-serve_one.ensures.write_kept ∙ c.loop.invariant.3,
    )

pub returns-in_err-serve_one-clause-stopped : goal.returns-in_err-serve_one-clause-stopped
returns-in_err-serve_one-clause-stopped g c =
    stopped_by _ c.in_err-serve_one.field-0.0 c.from_residual.result
    (served_some g.K.Sink.Offered _ _ _ _ _ _ _ _ _ _ _ _ _ _ _ _ c.in_err-serve_one.field-0.0 c.loop.invariant.0 c.loop.invariant.2 c.loop.invariant.3 c.in_err-serve_one.ensures.part c.in_err-serve_one.ensures.fault) c.from_residual.ensures.1

pub returns-in_err-serve_one-clause-complete : goal.returns-in_err-serve_one-clause-complete
returns-in_err-serve_one-clause-complete g c = λ count input few told whole read_holds write_holds.
    stopped_by _ c.in_err-serve_one.field-0.0 c.from_residual.result
    (only_memory g.K.Sink.Offered _ _ _ _ _ _ _ _ _ c.in_err-serve_one.field-0.0
    (served_some g.K.Sink.Offered _ _ _ _ _ _ _ _ _ _ _ _ _ _ _ _ c.in_err-serve_one.field-0.0 c.loop.invariant.0 c.loop.invariant.2 c.loop.invariant.3 c.in_err-serve_one.ensures.part c.in_err-serve_one.ensures.fault)
    count input few told whole read_holds write_holds) c.from_residual.ensures.1

pub returns-clause-stopped : goal.returns-clause-stopped
returns-clause-stopped g c = served_most g.K.Sink.Offered _ _ _ _ _ _ _ _ _ c.loop.invariant.0 (omega (arith, c.loop.invariant.1))

pub returns-clause-complete : goal.returns-clause-complete
returns-clause-complete g c = λ count input few told whole read_holds write_holds.
    only_memory g.K.Sink.Offered _ _ _ _ _ _ _ _ _ _ (served_most g.K.Sink.Offered _ _ _ _ _ _ _ _ _ c.loop.invariant.0 (omega (arith, c.loop.invariant.1))) count input few told whole read_holds write_holds
