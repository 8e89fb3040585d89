use Rattle.std.proofs.Common.{◌≡◌, drop}
use Rattle.scoping_rows.specs.Flat.{filled}
use Rattle.scoping_rows.proofs.scope_slots.ScopeSlots.next_bound.Given as goal

-- the slots before bind nothing
abbrev pub invariant-loop-position : goal.invariant-loop-position
invariant-loop-position l = filled (drop l.position l.self) ≡ filled (drop l.start l.self)
