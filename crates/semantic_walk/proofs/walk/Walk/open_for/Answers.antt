use Rattle.std.proofs.Common.{◌≡◌, None, true, not, sym, ap, ◌∙◌}
use Rattle.semantic_model.specs.Inside.{is_inside}
use Rattle.semantic_walk.proofs.TurnEnds.{on_ok, on_ok_both, none_there, stands_var, opened_turn}
use Rattle.semantic_walk.specs.declared.visit.Turn.{Turn}
use Rattle.semantic_walk.proofs.walk.Walk.open_for.Goals as goal

pub returns-then-is_inside-clause-opens : goal.returns-then-is_inside-clause-opens
returns-then-is_inside-clause-opens c = λ ds p own n cursor start f same in_role between.
    let w = c.args.self.now in
    let turn = c.args.turn.now in
    let absent : turn.own ≡ None = none_there turn.own (c.is_none.ensures ∙ ap not c.if-is_none.true) in
    let inside : is_inside p.node.kind c.args.role ≡ true =
    ap (λ k. is_inside k c.args.role) (sym between.stands.doings) ∙ sym c.is_inside.ensures ∙ c.if-is_inside.true in
    let var = stands_var ds w turn p n cursor start c.args.role f own between absent in
    on_ok_both c.open_own.result (c.open_own.ensures.opens ds p same in_role between.within between.between.stands.chain var) c.open_own.ensures.own
    (λ opens goes. opened_turn ds w turn p n cursor start c.args.role f own between absent inside _ _ opens goes)

pub open_own-requires-clause-turn : goal.open_own-requires-clause-turn
open_own-requires-clause-turn c = c.requires.turn

pub open_own-requires-clause-ids : goal.open_own-requires-clause-ids
open_own-requires-clause-ids c =
    c.requires.ids (none_there c.args.turn.now.own (c.is_none.ensures ∙ ap not c.if-is_none.true))
    (sym c.is_inside.ensures ∙ c.if-is_inside.true)

pub returns-then-is_inside-clause-goes : goal.returns-then-is_inside-clause-goes
returns-then-is_inside-clause-goes c = c.open_own.ensures.goes

pub returns-then-is_inside-clause-stands : goal.returns-then-is_inside-clause-stands
returns-then-is_inside-clause-stands c = c.open_own.ensures.stands

pub returns-then-is_inside-clause-start : goal.returns-then-is_inside-clause-start
returns-then-is_inside-clause-start c = c.open_own.ensures.start

pub returns-then-is_inside-clause-kind : goal.returns-then-is_inside-clause-kind
returns-then-is_inside-clause-kind c = on_ok c.open_own.result c.open_own.ensures.own (λ own. ap (λ (u : Turn). u.doings) own)
