use Rattle.std.proofs.Common.{option_map}
use Rattle.semantic_tree.specs.ChildIter.{left_of, shown}
use Rattle.check_model.specs.Types.{enum_rows}
use Rattle.check_context.specs.Tells.{IsTelling}
use Rattle.type_checks.proofs.EnumMembers.{rows_from}
use Rattle.type_checks.proofs.enums.tell_members.Given as goal

abbrev pub invariant-loop-member : goal.invariant-loop-member
invariant-loop-member l = IsTelling (enum_rows l.body.node.now) (rows_from (option_map shown l.last) (left_of l.member-iterator)) l.fn.out l.out
