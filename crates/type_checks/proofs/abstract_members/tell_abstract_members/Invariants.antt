use Rattle.std.specs.Prelude.{flat_map}
use Rattle.check_model.specs.Classes.{members}
use Rattle.check_model.specs.Members.{abstract_rows}
use Rattle.check_context.specs.Grandchildren.{grandchildren_left}
use Rattle.check_context.specs.Tells.{IsTelling}
use Rattle.type_checks.proofs.abstract_members.tell_abstract_members.Given as goal

abbrev pub invariant-loop-member : goal.invariant-loop-member
invariant-loop-member l = IsTelling (flat_map abstract_rows (members l.class.node.now)) (flat_map abstract_rows (grandchildren_left l.member-iterator)) l.fn.out l.out
