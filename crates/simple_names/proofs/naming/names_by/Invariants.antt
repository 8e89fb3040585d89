use Rattle.std.proofs.Common.{◌≡◌, ◌++◌, drop}
use Rattle.mangle_model.specs.OneNameEach.{names_by_name}
use Rattle.simple_names.proofs.naming.names_by.Given as goal

-- with those of the symbols that are left, all names are there
abbrev pub invariant-loop-number : goal.invariant-loop-number
invariant-loop-number l = l.names ++ names_by_name l.pairs (drop l.number l.scoping.symbols) ≡ names_by_name l.pairs l.scoping.symbols
