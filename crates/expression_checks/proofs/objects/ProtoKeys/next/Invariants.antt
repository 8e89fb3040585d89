use Rattle.std.proofs.Common.{◌≡◌, length}
use Rattle.std.specs.Prelude.{filter_map}
use Rattle.semantic_tree.specs.ChildIter.{left_of}
use Rattle.check_model.specs.Expressions.{proto_key}
use Rattle.expression_checks.proofs.objects.ProtoKeys.next.Given as goal

abbrev pub invariant-loop-property : goal.invariant-loop-property
invariant-loop-property l = filter_map proto_key (left_of l.self.properties) ≡ filter_map proto_key (left_of l.initial.self.properties)

abbrev pub decreases-loop-property : goal.decreases-loop-property
decreases-loop-property l = length (left_of l.self.properties)
