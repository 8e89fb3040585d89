use Rattle.std.proofs.Common.{refl}
use Rattle.scoping.proofs.Cases.{either}
use Rattle.table_building.specs.Growth.{Grows}
use Rattle.table_building.proofs.Growing.{grows-refl}
use Rattle.table_building.proofs.Grown.{at_least, sound_grown}
use Rattle.table_building.proofs.Claims.{grows_claimed}
use Rattle.table_building.proofs.declared.Declared.claim.Goals as goal

pub claim-requires-clause-room : goal.claim-requires-clause-room
claim-requires-clause-room c = rw (← c.self.view_is) at c.requires.room

pub claim-requires-clause-scope : goal.claim-requires-clause-scope
claim-requires-clause-scope c = rw (← c.self.view_is) at c.requires.scope

module _ (c : goal.After-claim) where
  grows : Grows c.self.inside.scoping c.claim.new.self
  grows =
      either c.claim.result
      (λ is. rw is (grows_claimed _ _))
      (λ is. rw is (grows-refl c.self.inside.scoping))
      c.claim.ensures.ok c.claim.ensures.err

pub invariant_of-self : goal.invariant_of-self
invariant_of-self c = sound_grown c.self.inside _ c.self.invariant (grows c) refl refl

pub returns-clause-goes : goal.returns-clause-goes
returns-clause-goes c = rw (← c.self.view_is) (record { tables = grows c; waiting = at_least _ })
