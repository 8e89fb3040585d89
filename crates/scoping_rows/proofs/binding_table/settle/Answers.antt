use Rattle.std.proofs.Common.{sym, ap}
use Rattle.scoping_rows.specs.Kept.{stays, rows_without_types}
use Rattle.scoping_rows.proofs.Filled.{filled-move, kept-clear}
use Rattle.scoping_rows.proofs.Near.{told_near, told_far, indexed_clear, indexed_move}
use Rattle.scoping_rows.proofs.binding_table.settle.Goals as goal

pub forget-requires : goal.forget-requires
forget-requires c = told_near c.args.positions.now.entries c.args.scope c.args.slots.now c.requires.positions c.in-Some.bound.0 c.in-Some.bound.1 c.args.position (sym c.in-Some.ensures)

pub returns-then-not-stays-clause-positions : goal.returns-then-not-stays-clause-positions
returns-then-not-stays-clause-positions c =
    rw c.clear.ensures
    (indexed_clear c.args.positions.now.entries c.args.scope c.args.slots.now c.requires.positions c.forget.new.positions.entries c.in-Some.bound.0 c.in-Some.bound.1 c.args.position (sym c.in-Some.ensures) c.forget.ensures)

pub returns-then-not-stays-clause-kept : goal.returns-then-not-stays-clause-kept
returns-then-not-stays-clause-kept c = rw c.clear.ensures (kept-clear (λ b. stays c.args.rows.now b.1) c.args.position c.in-Some.bound c.args.slots.now (sym c.in-Some.ensures) (sym c.if-not-stays.ensures))

pub retell-requires-clause-unknown : goal.retell-requires-clause-unknown
retell-requires-clause-unknown c = told_near c.args.positions.now.entries c.args.scope c.args.slots.now c.requires.positions c.in-Some.bound.0 c.in-Some.bound.1 c.args.position (sym c.in-Some.ensures)

pub retell-requires-clause-known : goal.retell-requires-clause-known
retell-requires-clause-known c = told_far c.args.positions.now.entries c.args.scope c.args.slots.now c.requires.positions c.in-Some.bound.0 c.in-Some.bound.1 c.args.position (sym c.in-Some.ensures)

pub returns-clause-positions : goal.returns-clause-positions
returns-clause-positions c =
    rw (c.relocate.ensures, ← c.in-Some.ensures)
    (indexed_move c.args.positions.now.entries c.args.scope c.args.slots.now c.requires.positions c.retell.new.positions.entries c.in-Some.bound.0 c.in-Some.bound.1 c.args.position (sym c.in-Some.ensures)
    c.args.packed c.requires.packed.behind c.requires.within c.requires.packed.gap c.retell.ensures.near c.retell.ensures.far)

pub returns-clause-kept : goal.returns-clause-kept
returns-clause-kept c =
    rw (c.relocate.ensures, ← c.in-Some.ensures)
    (ap (rows_without_types c.args.rows.now) (filled-move c.args.packed c.args.position c.in-Some.bound c.args.slots.now c.requires.packed.behind (sym c.in-Some.ensures) c.requires.packed.gap))
