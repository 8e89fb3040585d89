use Rattle.node_rules.specs.BoundIdentifiers.{names_left}
use Rattle.semantic_model.specs.Names.{bound_names}
use Rattle.walk_model.specs.WrittenNames.{names_in}
use Rattle.walk_notes.proofs.Adding.{Rests}
use Rattle.walk_notes.proofs.namesakes.Namesakes.note.Given as goal

-- with the names that are left, all are added
abbrev pub invariant-loop-name : goal.invariant-loop-name
invariant-loop-name l = Rests l.self (names_in l.opener (names_left l.name-iterator)) l.initial.self (names_in l.opener (bound_names l.kind.node.now))
