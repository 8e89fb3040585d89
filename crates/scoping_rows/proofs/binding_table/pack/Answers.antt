use Rattle.std.proofs.Common.{sym, ◌∙◌, arith}
use Rattle.scoping_rows.specs.Kept.{stays}
use Rattle.scoping_rows.proofs.Filled.{filled-take, kept_all}
use Rattle.scoping_rows.proofs.Near.{indexed_take}
use Rattle.scoping_rows.proofs.binding_table.pack.Goals as goal

pub truncate-requires : goal.truncate-requires
truncate-requires c = let p = c.loop-position.invariant in filled-take c.loop-position.packed c.loop-position.slots (λ i l k. p.packed.gap i l (omega (arith, c.len-position-end.ensures, p.count)))

pub returns-clause-kept : goal.returns-clause-kept
returns-clause-kept c =
    let p = c.loop-position.invariant in
    rw c.truncate.ensures
    (filled-take c.loop-position.packed c.loop-position.slots (λ i l k. p.packed.gap i l (omega (arith, c.len-position-end.ensures, p.count)))
    ∙ sym (kept_all (λ b. stays c.args.rows.now b.1) c.loop-position.slots (λ i l. p.packed.stay i (omega (arith, c.len-position-end.ensures, p.count))))
    ∙ p.kept)

pub returns-clause-positions : goal.returns-clause-positions
returns-clause-positions c =
    let p = c.loop-position.invariant in
    rw c.truncate.ensures
    (indexed_take c.loop-position.positions.entries c.args.scope c.loop-position.slots p.positions c.loop-position.packed (λ i l k. p.packed.gap i l (omega (arith, c.len-position-end.ensures, p.count))))
