use Rattle.std.proofs.Common.{◌≡◌, ◌++◌}
use Rattle.node_rules.specs.BoundIdentifiers.{names_left}
use Rattle.semantic_model.specs.Names.{bound_names}
use Rattle.semantic_queries.proofs.Pushing.{ids}
use Rattle.semantic_queries.proofs.node_symbols.exports.push_names.Given as goal

-- with the names that are left, all are there
abbrev pub invariant-loop-name : goal.invariant-loop-name
invariant-loop-name l = l.names.items ++ ids (names_left l.name-iterator) ≡ l.initial.names.items ++ ids (bound_names l.node.node.now)
