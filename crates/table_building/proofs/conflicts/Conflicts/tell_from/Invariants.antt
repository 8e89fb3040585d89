use Rattle.std.proofs.Common.{◌≡◌, ◌++◌, ◌-◌, length, map, drop}
use Rattle.table_building.specs.Conflicting.{conflict_of, noted_conflict_diagnostic}
use Rattle.table_building.proofs.conflicts.Conflicts.tell_from.Given as goal

-- to tell what is left is to tell all from the position on
abbrev pub invariant-loop-conflict : goal.invariant-loop-conflict
invariant-loop-conflict l = l.out ++ map noted_conflict_diagnostic (map conflict_of (drop l.next l.entries)) ≡ l.initial.out ++ map noted_conflict_diagnostic (map conflict_of (drop l.from l.entries))

abbrev pub decreases-loop-conflict : goal.decreases-loop-conflict
decreases-loop-conflict l = length l.entries - l.next
