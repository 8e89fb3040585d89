use Rattle.std.proofs.Common.{refl}
use Rattle.table_building.proofs.Growing.{grows-refl}
use Rattle.table_building.proofs.Grown.{sound_grown}
use Rattle.table_building.proofs.declared.Declared.note_symbol.Goals as goal

pub invariant_of-self : goal.invariant_of-self
invariant_of-self c = sound_grown c.self.inside _ c.self.invariant (grows-refl c.self.inside.scoping) refl refl

pub invariant_of-self-in_err-mark_no_side_effects : goal.invariant_of-self-in_err-mark_no_side_effects
invariant_of-self-in_err-mark_no_side_effects c =
    sound_grown c.self.inside _ c.self.invariant (rw c.in_err-mark_no_side_effects.ensures.err (grows-refl c.self.inside.scoping)) refl refl
