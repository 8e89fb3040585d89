use Rattle.std.proofs.Common.{None, get_or, ap, ◌∙◌}
use Rattle.scoping_rows.specs.Flat.{filled}
use Rattle.scoping_rows.proofs.Filled.{at_position, filled-unbound, filled-clear, without_none}
use Rattle.scoping_rows.proofs.Indexed.{slot_of, slot_within}
use Rattle.scoping_rows.proofs.Near.{told_near, indexed_clear}
use Rattle.scoping_rows.proofs.binding_table.unbind.Goals as goal

pub returns-in-None-clause-gone : goal.returns-in-None-clause-gone
returns-in-None-clause-gone c = filled-unbound c.args.number c.args.slots.now c.in-None.ensures

pub forget-requires : goal.forget-requires
forget-requires c =
    let xs = c.args.slots.now in
    let was = slot_of c.args.number (get_or xs c.in-Some.position None) (at_position xs c.args.number c.in-Some.position c.in-Some.ensures) in
    told_near c.args.positions.now.entries c.args.scope xs c.requires c.args.number was.0 c.in-Some.position was.1

pub clear-requires : goal.clear-requires
clear-requires c = slot_within c.args.slots.now c.in-Some.position c.args.number (at_position c.args.slots.now c.args.number c.in-Some.position c.in-Some.ensures)

pub pack-requires : goal.pack-requires
pack-requires c =
    let xs = c.args.slots.now in
    let was = slot_of c.args.number (get_or xs c.in-Some.position None) (at_position xs c.args.number c.in-Some.position c.in-Some.ensures) in
    rw c.clear.ensures (indexed_clear c.args.positions.now.entries c.args.scope xs c.requires c.forget.new.positions.entries c.args.number was.0 c.in-Some.position was.1 c.forget.ensures)

pub returns-then-is_sparse-clause-gone : goal.returns-then-is_sparse-clause-gone
returns-then-is_sparse-clause-gone c =
    c.pack.ensures.kept
    ∙ without_none (filled c.clear.new.self)
    ∙ ap filled c.clear.ensures
    ∙ filled-clear c.args.number c.in-Some.position c.args.slots.now c.in-Some.ensures

pub returns-else-is_sparse-clause-positions : goal.returns-else-is_sparse-clause-positions
returns-else-is_sparse-clause-positions c =
    let xs = c.args.slots.now in
    let was = slot_of c.args.number (get_or xs c.in-Some.position None) (at_position xs c.args.number c.in-Some.position c.in-Some.ensures) in
    rw c.clear.ensures (indexed_clear c.args.positions.now.entries c.args.scope xs c.requires c.forget.new.positions.entries c.args.number was.0 c.in-Some.position was.1 c.forget.ensures)

pub returns-else-is_sparse-clause-gone : goal.returns-else-is_sparse-clause-gone
returns-else-is_sparse-clause-gone c =
    ap filled c.clear.ensures
    ∙ filled-clear c.args.number c.in-Some.position c.args.slots.now c.in-Some.ensures
