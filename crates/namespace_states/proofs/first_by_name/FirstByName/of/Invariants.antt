use Rattle.std.proofs.Common.{◌≡◌, []}
use Rattle.semantic_tree.specs.ChildIter.{left_of}
use Rattle.semantic_model.specs.Namespace.{statements}
use Rattle.namespace_states.specs.FirstNames.{with_statements}
use Rattle.namespace_states.proofs.first_by_name.FirstByName.of.Given as goal

-- to add the statements that are left is to add all
abbrev pub invariant-loop-statement : goal.invariant-loop-statement
invariant-loop-statement l = with_statements l.made (left_of l.statement-iterator) ≡ with_statements [] (statements l.fn.block.node.now)
