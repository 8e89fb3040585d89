use Rattle.std.proofs.Common.{◌≡◌, None, true, not, sym, ap, ◌∙◌}
use Rattle.semantic_tree.specs.Forest.{nothing}
use Rattle.semantic_model.specs.Inside.{opens}
use Rattle.semantic_walk.proofs.TurnEnds.{on_ok, none_there, stands_var, opened_last}
use Rattle.semantic_walk.proofs.walk.Walk.open_last.Goals as goal

pub returns-then-opens-clause-ends : goal.returns-then-opens-clause-ends
returns-then-opens-clause-ends c = λ ds p own n cursor start same in_role between.
    let w = c.args.self.now in
    let turn = c.args.turn.now in
    let absent : turn.own ≡ None = none_there turn.own (c.is_none.ensures ∙ ap not c.if-is_none.true) in
    let some : opens p.node.kind ≡ true = ap opens (sym between.stands.doings) ∙ sym c.opens.ensures ∙ c.if-opens.true in
    let var = stands_var ds w turn p n cursor start c.args.role nothing own between absent in
    on_ok c.open_empty.result (c.open_empty.ensures.ends ds p same in_role between.within between.between.stands.chain var)
    (λ ends. opened_last ds w turn p n cursor start own between absent some _ ends)
