use Rattle.std.proofs.Common.{refl}
use Rattle.scoping.proofs.Cases.{either}
use Rattle.table_building.specs.Growth.{Grows}
use Rattle.table_building.proofs.Growing.{grows-refl}
use Rattle.table_building.proofs.Grown.{at_least, one_more, sound_grown}
use Rattle.table_building.proofs.declared.Declared.make.Goals as goal

pub create_symbol_with_binding-requires-clause-room : goal.create_symbol_with_binding-requires-clause-room
create_symbol_with_binding-requires-clause-room c = rw (← c.self.view_is) at c.requires.room

pub create_symbol_with_binding-requires-clause-bind_in : goal.create_symbol_with_binding-requires-clause-bind_in
create_symbol_with_binding-requires-clause-bind_in c = rw (← c.self.view_is) at c.requires.scope

module _ (c : goal.After-create_symbol_with_binding) where
  grows : Grows c.self.inside.scoping c.create_symbol_with_binding.new.self
  grows =
      either c.create_symbol_with_binding.result
      (λ is. rw is (record { scopes = at_least _; symbols = one_more _ _; references = at_least _ }))
      (λ is. rw is (grows-refl c.self.inside.scoping))
      c.create_symbol_with_binding.ensures.ok c.create_symbol_with_binding.ensures.err

pub invariant_of-self : goal.invariant_of-self
invariant_of-self c = sound_grown c.self.inside _ c.self.invariant (grows c) refl refl

pub returns-clause-goes : goal.returns-clause-goes
returns-clause-goes c = rw (← c.self.view_is) (record { tables = grows c; waiting = at_least _ })
