use Rattle.std.proofs.Common.{[]}
use Rattle.semantic_tree.specs.BoundNames.{bound_names}
use Rattle.node_rules.specs.BoundIdentifiers.{names_left}
use Rattle.check_model.specs.Methods.{repeated_rows}
use Rattle.check_model.specs.Search.{each_after}
use Rattle.type_checks.specs.Repeats.{IsRepeating}
use Rattle.type_checks.proofs.signatures.tell_each_repeated.Given as goal

abbrev pub invariant-loop-name : goal.invariant-loop-name
invariant-loop-name l = IsRepeating (each_after repeated_rows [] (bound_names l.kind.node.now)) (names_left l.name-iterator) l.seen l.fn.out l.out
