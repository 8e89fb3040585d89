use Rattle.std.proofs.Common.{◌≡◌, ◌++◌, map, drop}
use Rattle.name_lint.specs.Gathered.{text_of}
use Rattle.name_lint.specs.Undeclared.{undeclared_from}
use Rattle.name_lint.proofs.undeclared_names.undeclared.Given as goal

abbrev pub invariant-loop-number : goal.invariant-loop-number
invariant-loop-number l =
    l.found.items ++ undeclared_from l.known l.scoping l.number (drop l.number (map text_of l.references)) (drop l.number l.scoping.references)
    ≡ undeclared_from l.known l.scoping 0 (map text_of l.references) l.scoping.references
