use Rattle.std.proofs.Common.{◌∙◌, refl, arith}
use Rattle.resolver.proofs.Kept.{applied_tied, applied_free, applied_pending, applied_all}
use Rattle.resolver.proofs.pending.UnresolvedReferences.apply.Goals.{in-Pending, in-Tied, in-Free}
use Rattle.resolver.proofs.pending.UnresolvedReferences.apply.Goals as goal

pub loop-outcome-init : goal.loop-outcome-init
loop-outcome-init c = rw c.self.view_is (record { position_is = omega arith; behind = omega arith; length_is = refl; rest = refl })

pub index-entry-requires : goal.index-entry-requires
index-entry-requires c =
    let more = rw c.as_slice-outcome-items.ensures at c.loop-outcome-test.true in
    omega (arith, more, c.requires, c.loop-outcome.invariant.position_is, c.loop-outcome.invariant.length_is)

pub loop-outcome-preserved : goal.loop-outcome-preserved
loop-outcome-preserved c =
    let more = rw c.as_slice-outcome-items.ensures at c.loop-outcome-test.true in
    let item = rw c.as_slice-outcome-items.ensures at c.outcome-item.is in
    elim c.match-outcome.branch [
      | in-Pending w ↦ rw (w.kept-is, w.self-inside-is) (applied_pending _ _ _ _ _ _ _ c.loop-outcome.invariant c.requires _ more item w.in-Pending.scope w.index-entry.result.now w.in-Pending.is w.index-entry.ensures)
      | in-Tied w ↦ rw (w.kept-is, w.self-inside-is) (applied_tied _ _ _ _ _ _ _ c.loop-outcome.invariant c.requires _ more item w.in-Tied.field-0 w.in-Tied.is)
      | in-Free w ↦ rw (w.kept-is, w.self-inside-is) (applied_free _ _ _ _ _ _ _ c.loop-outcome.invariant c.requires _ more item w.in-Free.is)
    ]

pub returns : goal.returns
returns c =
    let over = rw c.as_slice-outcome-items.ensures at c.loop-outcome-test.false in
    let kept = applied_all _ _ _ _ _ _ _ c.loop-outcome.invariant c.requires over in
    c.truncate.ensures.items ∙ kept
