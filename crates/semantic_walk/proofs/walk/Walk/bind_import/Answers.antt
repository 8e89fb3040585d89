use Rattle.semantic_walk.proofs.PlaceRows.{on_ok_same, import_acts}
use Rattle.semantic_walk.proofs.walk.Walk.bind_import.Goals as goal

pub returns-clause-made : goal.returns-clause-made
returns-clause-made c = λ ds p e within.
    on_ok_same c.bind_at.result c.bind_at.new.self _ _
    (import_acts ds c.args.self.now p within c.args.specifier c.import_row-row.result c.parent.result e c.parent.ensures c.import_row-row.ensures)
    c.bind_at.ensures.made
