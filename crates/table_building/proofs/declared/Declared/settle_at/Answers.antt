use Rattle.std.proofs.Common.{◌≡◌, sym, slice_index_or}
use Rattle.resolver.specs.Terms.{pending_of}
use Rattle.table_building.specs.Settled.{no_pending}
use Rattle.table_building.proofs.Waiting.{waiting_at, pending_at, none_at}
use Rattle.table_building.proofs.declared.Declared.settle_at.Goals as goal

pub settle_one-requires-clause-reference : goal.settle_one-requires-clause-reference
settle_one-requires-clause-reference c = rw (← c.self.view_is) (waiting_at _ _ _ _ (sym c.in-Some.ensures) c.self.invariant.waiting)

pub returns-in-Some-clause-made : goal.returns-in-Some-clause-made
returns-in-Some-clause-made c =
    let is : slice_index_or c.args.self.now.waiting c.args.position no_pending ≡ pending_of c.in-Some.entry =
    rw (← c.self.view_is) (pending_at c.self.inside.pending c.args.position c.in-Some.entry (sym c.in-Some.ensures)) in
    rw is c.settle_one.ensures.made

pub returns-in-None-clause-made : goal.returns-in-None-clause-made
returns-in-None-clause-made c = absurd (none_at c.self.inside.pending c.args.position (sym c.in-None.ensures) (rw (← c.self.view_is) at c.requires.position))
