use Rattle.semantic_diagnostics.proofs.makers.functions.await_or_yield_in_parameter.Goals as goal

pub returns : goal.returns
returns c = rw (c.in_ok-message.ensures, c.said_at.ensures, c.in_ok-around.ensures) at c.one.ensures
