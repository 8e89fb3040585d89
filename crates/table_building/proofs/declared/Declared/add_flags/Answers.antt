use Rattle.std.proofs.Common.{refl}
use Rattle.table_building.specs.Growth.{Grows}
use Rattle.table_building.proofs.Grown.{at_least, as_many, sound_grown}
use Rattle.table_building.proofs.declared.Declared.add_flags.Goals as goal

pub union_symbol_flag-requires : goal.union_symbol_flag-requires
union_symbol_flag-requires c = rw (← c.self.view_is) at c.requires

module _ (c : goal.After-union_symbol_flag) where
  grows : Grows c.self.inside.scoping c.union_symbol_flag.new.self
  grows = rw c.union_symbol_flag.ensures (record { scopes = at_least _; symbols = as_many _ _ _; references = at_least _ })

pub invariant_of-self : goal.invariant_of-self
invariant_of-self c = sound_grown c.self.inside _ c.self.invariant (grows c) refl refl

pub returns-clause-goes : goal.returns-clause-goes
returns-clause-goes c = rw (← c.self.view_is) (record { tables = grows c; waiting = at_least _ })
