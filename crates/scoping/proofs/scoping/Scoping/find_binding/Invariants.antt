use Rattle.std.proofs.Common.{◌≡◌, ◌<◌, length}
use Rattle.scoping_rows.specs.Names.{name_of}
use Rattle.semantic_syntax.specs.Reading.{first_bound, chain}
use Rattle.scoping.proofs.scoping.Scoping.find_binding.Given as goal

abbrev pub invariant-loop-symbol : goal.invariant-loop-symbol
invariant-loop-symbol l = record {
  within : l.current < length l.self.scopes;
  rest : first_bound l.self.bindings (name_of l.name) (chain l.self.scopes l.fn.scope) ≡ first_bound l.self.bindings (name_of l.name) (chain l.self.scopes l.current);
}

abbrev pub decreases-loop-symbol : goal.decreases-loop-symbol
decreases-loop-symbol l = length (chain l.self.scopes l.current)
