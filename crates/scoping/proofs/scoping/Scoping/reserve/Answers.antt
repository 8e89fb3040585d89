use Rattle.std.proofs.Common.{refl, ap}
use Rattle.scoping.proofs.Clones.{sound_same, tables_same}
use Rattle.scoping_rows.proofs.Rows.{rows}
use Rattle.scoping.proofs.scoping.Scoping.reserve.Goals as goal

pub invariant_of-self-2 : goal.invariant_of-self-2
invariant_of-self-2 c =
    let room = c.reserve_rows.ensures in
    sound_same c.self.inside _ c.self.invariant c.reserve.ensures room.scopes c.reserve-2.ensures room.symbols room.references (ap rows room.uses) refl

pub returns : goal.returns
returns c =
    let room = c.reserve_rows.ensures in
    rw (← c.self.view_is) (tables_same c.self.inside _ _ _ _ _ _ _ _ c.reserve.ensures room.scopes c.reserve-2.ensures room.symbols room.references (ap rows room.uses) refl refl)

pub invariant_of-self : goal.invariant_of-self
invariant_of-self c = sound_same c.self.inside _ c.self.invariant c.reserve.ensures refl refl refl refl refl refl

pub returns-in_err-reserve : goal.returns-in_err-reserve
returns-in_err-reserve c = rw (← c.self.view_is) (tables_same c.self.inside _ _ _ _ _ _ _ _ c.reserve.ensures refl refl refl refl refl refl refl)

pub invariant_of-self-in_err-reserve-2 : goal.invariant_of-self-in_err-reserve-2
invariant_of-self-in_err-reserve-2 c = sound_same c.self.inside _ c.self.invariant c.reserve.ensures refl c.reserve-2.ensures refl refl refl refl

pub returns-in_err-reserve-2 : goal.returns-in_err-reserve-2
returns-in_err-reserve-2 c = rw (← c.self.view_is) (tables_same c.self.inside _ _ _ _ _ _ _ _ c.reserve.ensures refl c.reserve-2.ensures refl refl refl refl refl)
