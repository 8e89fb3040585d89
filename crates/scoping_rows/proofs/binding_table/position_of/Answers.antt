use Rattle.std.proofs.Common.{sym, subst}
use Rattle.scoping_rows.specs.Flat.{StandsAt}
use Rattle.scoping_rows.proofs.Near.{found_near, found_far}
use Rattle.scoping_rows.proofs.binding_table.position_of.Goals as goal

pub returns-in-Some : goal.returns-in-Some
returns-in-Some c = found_near c.args.positions.now.entries c.args.scope c.args.slots.now c.requires c.args.number c.in-Some.position c.in-Some.ensures

pub returns : goal.returns
returns c =
    subst (StandsAt c.args.slots.now c.args.number) (sym c.entered_position.ensures)
    (found_far c.args.positions.now.entries c.args.scope c.args.slots.now c.requires c.args.number c.in_default.ensures)
