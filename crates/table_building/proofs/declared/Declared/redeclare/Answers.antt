use Rattle.std.proofs.Common.{refl}
use Rattle.scoping.proofs.Cases.{either}
use Rattle.table_building.specs.Growth.{Grows}
use Rattle.table_building.proofs.Growing.{grows-refl}
use Rattle.table_building.proofs.Grown.{at_least, as_many, sound_grown}
use Rattle.table_building.proofs.declared.Declared.redeclare.Goals as goal

pub add_symbol_redeclaration-requires : goal.add_symbol_redeclaration-requires
add_symbol_redeclaration-requires c = rw (← c.self.view_is) at c.requires

module _ (c : goal.After-add_symbol_redeclaration) where
  grows : Grows c.self.inside.scoping c.add_symbol_redeclaration.new.self
  grows =
      either c.add_symbol_redeclaration.result
      (λ is. rw is (record { scopes = at_least _; symbols = as_many _ _ _; references = at_least _ }))
      (λ is. rw is (grows-refl c.self.inside.scoping))
      c.add_symbol_redeclaration.ensures.ok c.add_symbol_redeclaration.ensures.err

pub invariant_of-self : goal.invariant_of-self
invariant_of-self c = sound_grown c.self.inside _ c.self.invariant (grows c) refl refl

pub returns-clause-goes : goal.returns-clause-goes
returns-clause-goes c = rw (← c.self.view_is) (record { tables = grows c; waiting = at_least _ })
