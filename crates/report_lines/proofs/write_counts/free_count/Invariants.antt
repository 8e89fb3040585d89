use Rattle.std.proofs.Common.{◌≡◌, ◌+◌, ◌≤◌, drop}
use Rattle.report_lines.specs.CountLines.{free_count}
use Rattle.report_lines.proofs.write_counts.free_count.Given as goal

abbrev pub invariant-loop-number : goal.invariant-loop-number
invariant-loop-number l = record {
  counted : l.free + free_count (drop l.number l.scoping.references) ≡ free_count l.scoping.references;
  few : l.free ≤ l.number;
}
