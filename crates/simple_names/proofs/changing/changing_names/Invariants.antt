use Rattle.std.proofs.Common.{◌≡◌, [], drop}
use Rattle.simple_names.specs.TakenNames.{changes_by}
use Rattle.simple_names.proofs.ChangingTurns.{joined}
use Rattle.simple_names.proofs.changing.changing_names.Given as goal

-- with those of the symbols that are left, all names are there
abbrev pub invariant-loop-number : goal.invariant-loop-number
invariant-loop-number l = joined (changes_by l.taken) l.names (drop l.number l.scoping.symbols) ≡ joined (changes_by l.taken) [] l.scoping.symbols
