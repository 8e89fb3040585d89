use Rattle.std.proofs.Common.{sym, ◌∙◌}
use Rattle.semantic_walk.proofs.PlaceRows.{on_ok_same, rest_in_list, rest_elsewhere}
use Rattle.semantic_walk.proofs.walk.Walk.bind_rest.Goals as goal

pub returns-then-stands_under-clause-made : goal.returns-then-stands_under-clause-made
returns-then-stands_under-clause-made c = λ ds p e within k.
    on_ok_same c.bind_names.result c.bind_names.new.self _ _
    (rest_in_list ds c.args.self.now p within c.args.rest.node.now c.rest_row.result e k (sym c.stands_under.ensures ∙ c.if-stands_under.true) c.rest_row.ensures)
    c.bind_names.ensures.made

pub returns-else-stands_under-clause-made : goal.returns-else-stands_under-clause-made
returns-else-stands_under-clause-made c = λ ds p e within k.
    rest_elsewhere ds c.args.self.now p within k (sym c.stands_under.ensures ∙ c.if-stands_under.false)
