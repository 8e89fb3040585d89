use Rattle.std.proofs.Common.{◌≡◌, ◌++◌, drop}
use Rattle.name_lint.specs.Live.{unmarked_from}
use Rattle.name_lint.proofs.liveness.unmarked.Given as goal

abbrev pub invariant-loop-number : goal.invariant-loop-number
invariant-loop-number l = l.symbols.items ++ unmarked_from l.number (drop l.number l.marks) ≡ unmarked_from 0 l.marks
