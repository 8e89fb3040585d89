use Rattle.std.proofs.Common.{None, option_map, length}
use Rattle.check_model.specs.Classes.{members}
use Rattle.check_model.specs.Members.{implementation_rows}
use Rattle.check_model.specs.Search.{each_between}
use Rattle.semantic_tree.specs.ChildIter.{shown}
use Rattle.check_context.specs.Grandchildren.{grandchildren_left}
use Rattle.check_context.specs.Tells.{IsTelling}
use Rattle.type_checks.proofs.NextMembers.{from_next}
use Rattle.type_checks.proofs.implementations.tell_implementations.Given as goal

-- the rows of the next member and of those behind it are left
abbrev pub invariant-loop-next : goal.invariant-loop-next
invariant-loop-next l = IsTelling (each_between implementation_rows None (members l.class.node.now)) (each_between implementation_rows (option_map shown l.before) (from_next (option_map shown l.next) (grandchildren_left l.left))) l.fn.out l.out

abbrev pub decreases-loop-next : goal.decreases-loop-next
decreases-loop-next l = length (from_next (option_map shown l.next) (grandchildren_left l.left))
