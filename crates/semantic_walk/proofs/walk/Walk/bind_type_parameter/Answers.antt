use Rattle.std.proofs.Common.{sym, ◌∙◌}
use Rattle.semantic_walk.proofs.PlaceRows.{on_ok_same, parameter_stays, parameter_goes}
use Rattle.semantic_walk.proofs.walk.Walk.bind_type_parameter.Goals as goal

pub returns-then-stands_under-clause-made : goal.returns-then-stands_under-clause-made
returns-then-stands_under-clause-made c = λ ds p e within shown some k.
    on_ok_same c.bind_inferred.result c.bind_inferred.new.self _ _
    (parameter_goes ds c.args.self.now p within c.args.parameter.node.now c.type_parameter_row-row.result e k shown some (sym c.stands_under.ensures ∙ c.if-stands_under.true) c.type_parameter_row-row.ensures)
    c.bind_inferred.ensures.made

pub returns-else-stands_under-clause-made : goal.returns-else-stands_under-clause-made
returns-else-stands_under-clause-made c = λ ds p e within shown some k.
    on_ok_same c.bind_at.result c.bind_at.new.self _ _
    (parameter_stays ds c.args.self.now p within c.args.parameter.node.now c.type_parameter_row-row.result e k (sym c.stands_under.ensures ∙ c.if-stands_under.false) c.type_parameter_row-row.ensures)
    c.bind_at.ensures.made
