use Rattle.std.proofs.Common.{◌≡◌}
use Rattle.node_rules.specs.BoundIdentifiers.{names_left}
use Rattle.semantic_model.specs.Names.{bound_names}
use Rattle.namespace_states.specs.FirstNames.{with_first_names}
use Rattle.namespace_states.proofs.first_by_name.FirstByName.put_names.Given as goal

-- to add the names that are left is to add all
abbrev pub invariant-loop-name : goal.invariant-loop-name
invariant-loop-name l = with_first_names l.self l.statement.node.now (names_left l.name-iterator) ≡ with_first_names l.initial.self l.statement.node.now (bound_names l.kind.node.now)
