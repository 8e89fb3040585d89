use Rattle.std.proofs.Common.{◌-◌, ◌≤◌, length}
use Rattle.scoping_rows.specs.Plain.{plain_count}
use Rattle.scoping_rows.proofs.redeclarations.plain_from.Given as goal

-- so many stand before the first at least
abbrev pub invariant-loop-plain : goal.invariant-loop-plain
invariant-loop-plain l = l.plain ≤ plain_count l.entries

abbrev pub decreases-loop-plain : goal.decreases-loop-plain
decreases-loop-plain l = length l.entries - l.plain
