use Rattle.std.proofs.Common.{refl}
use Rattle.table_building.proofs.Growing.{grows-refl}
use Rattle.table_building.proofs.Grown.{at_least, one_more, sound_grown}
use Rattle.table_building.proofs.declared.Declared.add_reference.Goals as goal

pub create_reference-requires : goal.create_reference-requires
create_reference-requires c = record { room = rw (← c.self.view_is) at c.requires }

pub invariant_of-self : goal.invariant_of-self
invariant_of-self c = sound_grown c.self.inside _ c.self.invariant (rw c.in_err-id.ensures.err (grows-refl c.self.inside.scoping)) refl refl

pub returns-in_err-id-clause-goes : goal.returns-in_err-id-clause-goes
returns-in_err-id-clause-goes c = rw (← c.self.view_is, c.in_err-id.ensures.err) (record { tables = grows-refl _; waiting = at_least _ })

pub invariant_of-self-in_err-set_reference : goal.invariant_of-self-in_err-set_reference
invariant_of-self-in_err-set_reference c = sound_grown c.self.inside _ c.self.invariant (rw c.in_ok-id.ensures.ok (record { scopes = at_least _; symbols = at_least _; references = one_more _ _ })) refl refl

pub returns-in_err-set_reference-clause-goes : goal.returns-in_err-set_reference-clause-goes
returns-in_err-set_reference-clause-goes c = rw (← c.self.view_is, c.in_ok-id.ensures.ok) (record { tables = record { scopes = at_least _; symbols = at_least _; references = one_more _ _ }; waiting = at_least _ })

pub invariant_of-self-2 : goal.invariant_of-self-2
invariant_of-self-2 c = sound_grown c.self.inside _ c.self.invariant (rw c.in_ok-id.ensures.ok (record { scopes = at_least _; symbols = at_least _; references = one_more _ _ })) refl refl

pub returns-clause-goes : goal.returns-clause-goes
returns-clause-goes c = rw (← c.self.view_is, c.in_ok-id.ensures.ok) (record { tables = record { scopes = at_least _; symbols = at_least _; references = one_more _ _ }; waiting = at_least _ })
