use Rattle.std.proofs.Common.{length}
use Rattle.statement_checks.specs.Bound.{root_symbols, AreCounting}
use Rattle.statement_checks.proofs.imports.counts_of_bound.Given as goal

abbrev pub invariant-loop-symbol : goal.invariant-loop-symbol
invariant-loop-symbol l = AreCounting (root_symbols l.fn.scoping) l.symbol-iterator (length l.fn.scoping.symbols) l.counts.items
