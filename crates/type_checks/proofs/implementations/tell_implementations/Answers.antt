use Rattle.std.proofs.Common.{Option, None, option_map, subst}
use Rattle.semantic_tree.specs.ChildIter.{shown}
use Rattle.semantic_tree.specs.declared.view.AstKind.{AstKind}
use Rattle.check_model.specs.Classes.{members}
use Rattle.check_model.specs.Members.{implementation_rows}
use Rattle.check_model.specs.Search.{each_between}
use Rattle.check_context.specs.Grandchildren.{grandchildren_left}
use Rattle.check_context.specs.Tells.{IsTelling}
use Rattle.type_checks.proofs.NextMembers.{from_next, stopped, turned}
use Rattle.type_checks.proofs.implementations.tell_implementations.Goals as goal

pub returns-in_err-tell_implementation : goal.returns-in_err-tell_implementation
returns-in_err-tell_implementation c =
    let last = option_map shown c.loop-next.before in
    let left = grandchildren_left c.loop-next.left in
    let rows = each_between implementation_rows None (members c.args.class.node.now) in
    stopped _ c.from_residual.result rows last c.in-Some.member.node.now c.loop-next.left c.next-next-in-Some.new.self c.next-next-in-Some.result c.args.out.now c.loop-next.out c.tell_implementation.new.out
    c.from_residual.ensures.1 c.next-next-in-Some.ensures.steps
    (subst (λ (n : Option AstKind). IsTelling rows (each_between implementation_rows last (from_next (option_map shown n) left)) c.args.out.now c.loop-next.out) c.in-Some.is c.loop-next.invariant)
    c.in_err-tell_implementation.ensures

pub loop-next-preserved : goal.loop-next-preserved
loop-next-preserved c =
    let last = option_map shown c.loop-next.before in
    let left = grandchildren_left c.loop-next.left in
    let rows = each_between implementation_rows None (members c.args.class.node.now) in
    turned rows last c.in-Some.member.node.now c.loop-next.left c.next-next-in-Some.new.self c.next-next-in-Some.result c.args.out.now c.loop-next.out c.tell_implementation.new.out
    c.next-next-in-Some.ensures.steps
    (subst (λ (n : Option AstKind). IsTelling rows (each_between implementation_rows last (from_next (option_map shown n) left)) c.args.out.now c.loop-next.out) c.in-Some.is c.loop-next.invariant)
    c.in_ok-tell_implementation.ensures
