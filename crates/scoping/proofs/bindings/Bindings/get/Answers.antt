use Rattle.std.proofs.Common.{sym, ◌∙◌}
use Rattle.scoping.proofs.Named.{lookup-unknown, lookup-named}
use Rattle.scoping.proofs.bindings.Bindings.get.Goals as goal

pub returns-in_err-number : goal.returns-in_err-number
returns-in_err-number c = rw (← c.self.view_is) (c.from_residual.ensures ∙ sym (lookup-unknown _ _ c.in_err-number.ensures _ c.self.invariant.1))

pub returns : goal.returns
returns c = rw (← c.self.view_is) (c.get.ensures ∙ sym (lookup-named _ _ _ c.in_ok-number.ensures _ c.self.invariant.1))
