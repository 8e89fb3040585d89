use Rattle.std.proofs.Common.{option_map, sym, ap, ◌∙◌}
use Rattle.semantic_kinds.specs.declared.role.Role.TheVariants as roles
use Rattle.semantic_tree.specs.ChildIter.{left_of, shown}
use Rattle.semantic_tree.specs.Views.{all_in}
use Rattle.type_checks.proofs.EnumMembers.{begun, stopped}
use Rattle.type_checks.proofs.enums.tell_members.Goals as goal

pub loop-member-init : goal.loop-member-init
loop-member-init c =
    begun (all_in roles.Members c.args.body.node.now) (left_of c.into_iter-member-iterator.result) c.args.out.now
    (ap left_of c.into_iter-member-iterator.ensures.into_iter_gives ∙ c.children-member-items.ensures)

pub returns-in_err-tell_uncounted-in-None-child : goal.returns-in_err-tell_uncounted-in-None-child
returns-in_err-tell_uncounted-in-None-child c =
    stopped _ c.from_residual.result _ (option_map shown c.loop-member.last) _ _ c.in-Some.member.node.now _ _ _ c.from_residual.ensures.1 c.in-Some.ensures.steps (sym c.in-None-child.ensures) c.loop-member.invariant c.in_err-tell_uncounted-in-None-child.ensures
