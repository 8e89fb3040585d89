use Rattle.std.proofs.Common.{◌≡◌, ◌++◌, drop}
use Rattle.std.specs.List.{filter_map}
use Rattle.name_lint.specs.Gathered.{symbol_at_node}
use Rattle.name_lint.proofs.liveness.add_declared.Given as goal

abbrev pub invariant-loop-node : goal.invariant-loop-node
invariant-loop-node l =
    l.symbols.items ++ filter_map (symbol_at_node l.tables) (drop l.node-index l.nodes) ≡ l.initial.symbols.items ++ filter_map (symbol_at_node l.tables) l.nodes
