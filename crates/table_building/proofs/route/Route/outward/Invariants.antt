use Rattle.std.proofs.Common.{◌<◌, ◌-◌, length, All}
use Rattle.table_building.proofs.Ways.{GoesOn}
use Rattle.table_building.proofs.route.Route.outward.Given as goal

-- the scopes so far exist, and to go on from here is to go from the beginning
abbrev pub invariant-loop : goal.invariant-loop
invariant-loop l = record {
  scope : l.scope < length l.scoping.scopes;
  passed : All (λ s. s < length l.scoping.scopes) l.passed.items;
  way : GoesOn l.scoping l.fn.from l.flags.bits (length l.scoping.scopes - l.counter) l.scope l.passed.items;
}
