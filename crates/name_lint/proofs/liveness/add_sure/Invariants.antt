use Rattle.std.proofs.Common.{◌≡◌, ◌++◌, drop}
use Rattle.name_lint.specs.Live.{sure_from}
use Rattle.name_lint.proofs.liveness.add_sure.Given as goal

abbrev pub invariant-loop-number : goal.invariant-loop-number
invariant-loop-number l =
    l.symbols.items ++ sure_from l.scoping l.number (drop l.number l.scoping.symbols) ≡ l.initial.symbols.items ++ sure_from l.scoping 0 l.scoping.symbols
