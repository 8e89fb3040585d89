use Rattle.std.proofs.Common.{refl}
use Rattle.scoping.proofs.Clones.{sound_same}
use Rattle.scoping.proofs.scoping.Scoping.mark_no_side_effects.Goals as goal

pub invariant_of-self : goal.invariant_of-self
invariant_of-self c = sound_same c.self.inside _ c.self.invariant refl refl refl refl refl refl refl

pub invariant_of-self-2 : goal.invariant_of-self-2
invariant_of-self-2 c = sound_same c.self.inside _ c.self.invariant refl refl refl refl refl refl refl
