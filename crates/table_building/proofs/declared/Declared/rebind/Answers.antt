use Rattle.std.proofs.Common.{refl}
use Rattle.table_building.proofs.Growing.{grows-refl}
use Rattle.table_building.proofs.Grown.{at_least, as_many, sound_grown}
use Rattle.table_building.proofs.declared.Declared.rebind.Goals as goal

pub add_binding-requires-clause-scope : goal.add_binding-requires-clause-scope
add_binding-requires-clause-scope c = rw (← c.self.view_is) at c.requires.to

pub add_binding-requires-clause-symbol : goal.add_binding-requires-clause-symbol
add_binding-requires-clause-symbol c = rw (← c.self.view_is) at c.requires.symbol

pub invariant_of-self : goal.invariant_of-self
invariant_of-self c = sound_grown c.self.inside _ c.self.invariant (rw c.in_err-add_binding.ensures.err (grows-refl c.self.inside.scoping)) refl refl

pub returns-in_err-add_binding-clause-goes : goal.returns-in_err-add_binding-clause-goes
returns-in_err-add_binding-clause-goes c = rw (← c.self.view_is, c.in_err-add_binding.ensures.err) (record { tables = grows-refl _; waiting = at_least _ })

pub remove_binding-requires : goal.remove_binding-requires
remove_binding-requires c = rw c.in_ok-add_binding.ensures.ok (rw (← c.self.view_is) at c.requires.from)

pub set_symbol_scope_id-requires : goal.set_symbol_scope_id-requires
set_symbol_scope_id-requires c = rw (c.remove_binding.ensures, c.in_ok-add_binding.ensures.ok) (rw (← c.self.view_is) at c.requires.symbol)

pub invariant_of-self-2 : goal.invariant_of-self-2
invariant_of-self-2 c =
    sound_grown c.self.inside _ c.self.invariant
    (rw (c.set_symbol_scope_id.ensures, c.remove_binding.ensures, c.in_ok-add_binding.ensures.ok) (record { scopes = at_least _; symbols = as_many _ _ _; references = at_least _ }))
    refl refl

pub returns-clause-goes : goal.returns-clause-goes
returns-clause-goes c =
    rw (← c.self.view_is, c.set_symbol_scope_id.ensures, c.remove_binding.ensures, c.in_ok-add_binding.ensures.ok)
    (record { tables = record { scopes = at_least _; symbols = as_many _ _ _; references = at_least _ }; waiting = at_least _ })
