use Rattle.std.proofs.Common.{◌≡◌, bytes_eq}
use Rattle.mangler.proofs.comparing.free_names.are_same_pure.Given as goal

abbrev pub invariant-loop-symbol : goal.invariant-loop-symbol
invariant-loop-symbol l = bytes_eq l.theirs l.symbol-iterator ≡ bytes_eq l.other.pure_symbols l.one.pure_symbols
