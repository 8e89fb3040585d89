use Rattle.std.proofs.Common.{◌≡◌, drop}
use Rattle.std.specs.Cmp.Lexicographic.{pointwise}
use Rattle.mangle_model.specs.Tests.{same_symbol}
use Rattle.mangle_model.specs.Assignment.{assignment_of}
use Rattle.mangle_model.specs.Alike.{renamed_symbols}
use Rattle.mangler.proofs.comparing.symbols.are_same_symbols.Given as goal

abbrev pub invariant-loop-number : goal.invariant-loop-number
invariant-loop-number l = pointwise same_symbol (drop l.number l.other.symbols) (drop l.number (renamed_symbols (assignment_of l.names) 0 l.one.symbols)) ≡ pointwise same_symbol l.other.symbols (renamed_symbols (assignment_of l.names) 0 l.one.symbols)
