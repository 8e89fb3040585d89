use Rattle.std.proofs.Common.{◌<◌, ◌≤◌, IfSome, length, sym, ap, subst, ◌∙◌}
use Rattle.semantic_syntax.specs.Counts.{raised}
use Rattle.semantic_syntax.proofs.Results.{on_err}
use Rattle.semantic_tree.specs.Children.{forest_of}
use Rattle.table_building.proofs.Growing.{grows-trans}
use Rattle.semantic_walk.proofs.Going.{turn-goes, turn_grows, stands_on}
use Rattle.semantic_walk.proofs.Counting.{asked_some}
use Rattle.semantic_walk.proofs.TurnEnds.{ended_some}
use Rattle.semantic_walk.proofs.walk.Walk.end_child.Goals as goal

pub returns-in_ok-end_header_behind-in-Some-clause-ends : goal.returns-in_ok-end_header_behind-in-Some-clause-ends
returns-in_ok-end_header_behind-in-Some-clause-ends g c = λ ds p own start stands holds.
    ended_some ds c.args.self.now c.args.turn.now p c.args.turn.now.doings (sym stands.doings) c.args.role (forest_of c.args.rest.now) start own stands holds c.in-Some.own c.in-Some.is _ _
    c.in_ok-end_header_behind-in-Some.ensures.made c.close_behind.ensures.made

pub returns-in_ok-end_header_behind-in-Some-clause-cost : goal.returns-in_ok-end_header_behind-in-Some-clause-cost
returns-in_ok-end_header_behind-in-Some-clause-cost g c = λ ds p own start stands holds.
    c.in_ok-end_header_behind-in-Some.ensures.cost
    ∙ ap (raised c.args.steps.now)
    (asked_some ds c.args.self.now.made c.args.turn.now p c.args.turn.now.doings (sym stands.doings) c.args.role (forest_of c.args.rest.now) start own stands holds c.in-Some.own c.in-Some.is)

pub returns-in_err-end_header_behind-in-Some-clause-given_up : goal.returns-in_err-end_header_behind-in-Some-clause-given_up
returns-in_err-end_header_behind-in-Some-clause-given_up g c = λ ds p own start stands holds.
    on_err c.from_residual.result
    (subst (λ n. c.end_header_behind.new.steps ≤ raised c.args.steps.now n)
    (asked_some ds c.args.self.now.made c.args.turn.now p c.args.turn.now.doings (sym stands.doings) c.args.role (forest_of c.args.rest.now) start own stands holds c.in-Some.own c.in-Some.is)
    c.in_err-end_header_behind-in-Some.ensures.given_up)

pub end_header_behind-requires-clause-scope : goal.end_header_behind-requires-clause-scope
end_header_behind-requires-clause-scope g c = subst (λ o. IfSome o (λ s. s < length c.args.self.now.made.tables.scopes)) c.in-Some.is c.requires.own

pub returns-in_ok-end_header_behind-in-Some-clause-grows : goal.returns-in_ok-end_header_behind-in-Some-clause-grows
returns-in_ok-end_header_behind-in-Some-clause-grows g c =
    grows-trans c.args.self.now.made.tables c.end_header_behind.new.self.made.tables c.close_behind.new.self.made.tables c.in_ok-end_header_behind-in-Some.ensures.grows c.close_behind.ensures.goes.tables

pub end_header_behind-requires-clause-start : goal.end_header_behind-requires-clause-start
end_header_behind-requires-clause-start g c = c.requires.start

pub close_behind-requires : goal.close_behind-requires
close_behind-requires g c =
    stands_on c.args.self.now.made.tables c.end_header_behind.new.self.made.tables c.in-Some.own c.in_ok-end_header_behind-in-Some.ensures.grows
    (subst (λ o. IfSome o (λ s. s < length c.args.self.now.made.tables.scopes)) c.in-Some.is c.requires.own)

pub returns-in_ok-end_header_behind-in-Some-clause-stands : goal.returns-in_ok-end_header_behind-in-Some-clause-stands
returns-in_ok-end_header_behind-in-Some-clause-stands g c =
    turn-goes c.end_header_behind.new.self.made c.close_behind.new.self.made c.args.turn.now c.close_behind.ensures.goes
    (turn_grows c.args.self.now.made c.end_header_behind.new.self.made c.args.turn.now c.in_ok-end_header_behind-in-Some.ensures.grows c.in_ok-end_header_behind-in-Some.ensures.waiting c.requires)

pub returns-in_ok-end_header_behind-in-Some-clause-risen : goal.returns-in_ok-end_header_behind-in-Some-clause-risen
returns-in_ok-end_header_behind-in-Some-clause-risen g c = c.in_ok-end_header_behind-in-Some.ensures.risen
