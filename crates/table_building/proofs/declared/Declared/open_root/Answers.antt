use Rattle.std.proofs.Common.{refl}
use Rattle.table_building.proofs.Growing.{grows-refl}
use Rattle.table_building.proofs.Grown.{at_least, one_more, sound_grown}
use Rattle.table_building.proofs.declared.Declared.open_root.Goals as goal

pub add_scope-requires-clause-room : goal.add_scope-requires-clause-room
add_scope-requires-clause-room c = rw (← c.self.view_is) at c.requires

pub add_scope-requires-clause-parent : goal.add_scope-requires-clause-parent
add_scope-requires-clause-parent c = tt

pub invariant_of-self : goal.invariant_of-self
invariant_of-self c = sound_grown c.self.inside _ c.self.invariant (rw c.in_err-scope.ensures.err (grows-refl c.self.inside.scoping)) refl refl

pub returns-in_err-scope-clause-goes : goal.returns-in_err-scope-clause-goes
returns-in_err-scope-clause-goes c = rw (← c.self.view_is, c.in_err-scope.ensures.err) (record { tables = grows-refl _; waiting = at_least _ })

pub invariant_of-self-in_err-set_scope : goal.invariant_of-self-in_err-set_scope
invariant_of-self-in_err-set_scope c = sound_grown c.self.inside _ c.self.invariant (rw c.in_ok-scope.ensures.ok (record { scopes = one_more _ _; symbols = at_least _; references = at_least _ })) refl refl

pub returns-in_err-set_scope-clause-goes : goal.returns-in_err-set_scope-clause-goes
returns-in_err-set_scope-clause-goes c = rw (← c.self.view_is, c.in_ok-scope.ensures.ok) (record { tables = record { scopes = one_more _ _; symbols = at_least _; references = at_least _ }; waiting = at_least _ })

pub invariant_of-self-2 : goal.invariant_of-self-2
invariant_of-self-2 c = sound_grown c.self.inside _ c.self.invariant (rw c.in_ok-scope.ensures.ok (record { scopes = one_more _ _; symbols = at_least _; references = at_least _ })) refl refl

pub returns-clause-goes : goal.returns-clause-goes
returns-clause-goes c = rw (← c.self.view_is, c.in_ok-scope.ensures.ok) (record { tables = record { scopes = one_more _ _; symbols = at_least _; references = at_least _ }; waiting = at_least _ })
