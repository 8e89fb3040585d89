use Rattle.std.proofs.Common.{refl, arith}
use Rattle.semantic_syntax.proofs.Results.{on_err}
use Rattle.scoping.proofs.Clones.{sound_same, tables_same}
use Rattle.scoping.proofs.Shown.{tables_eq}
use Rattle.scoping.proofs.Pushed.{sound_referenced}
use Rattle.scoping.proofs.scoping.Scoping.create_reference.Goals as goal

pub invariant_of-self-2 : goal.invariant_of-self-2
invariant_of-self-2 c = sound_referenced c.self.inside c.self.invariant _ _ c.in_ok-push.ensures.items (rw (← c.self.view_is) at c.requires.room)

pub overflow_cast-len : goal.overflow_cast-len
overflow_cast-len c = omega (arith, c.len.ensures, c.self.inside.references.ok.0, c.self.invariant.references_fit)

pub invariant_of-self : goal.invariant_of-self
invariant_of-self c = sound_same c.self.inside _ c.self.invariant refl refl refl refl c.in_err-push.ensures.items refl refl

pub returns-in_err-push-clause-err : goal.returns-in_err-push-clause-err
returns-in_err-push-clause-err c =
    rw (← c.self.view_is) (on_err c.from_residual.result (tables_same c.self.inside _ _ _ _ _ _ _ _ refl refl refl refl c.in_err-push.ensures.items refl refl refl))

pub returns-clause-added : goal.returns-clause-added
returns-clause-added c = rw (← c.self.view_is) (omega (arith, c.new-id.ensures, c.len.ensures, c.self.inside.references.ok.0))

pub returns-clause-ok : goal.returns-clause-ok
returns-clause-ok c = rw (← c.self.view_is) (tables_eq _ _ refl refl refl c.in_ok-push.ensures.items refl refl refl)
