use Rattle.std.proofs.Common.{◌≡◌, ◌<◌, ◌+◌, true, ap, sym, subst, ◌∙◌, length, All, arith}
use Rattle.reachability.specs.Rows.{row, lists}
use Rattle.reachability.specs.Marked.{is_marked, with_numbers_marked}
use Rattle.reachability.proofs.Lists.{among_at, row_within}
use Rattle.reachability.proofs.Marks.{listed_within}
use Rattle.reachability.proofs.Closing.{Stands, begins, goes_on, all_reached}
use Rattle.reachability.proofs.search.reached.Goals as goal

pub loop-next-init : goal.loop-next-init
loop-next-init c =
    subst (λ m. Stands (lists c.args.rows.now) c.args.seeds.now (length c.args.rows.now) 0 m)
    (sym (c.in_ok-mark_all.ensures.ok ∙ ap (λ m. with_numbers_marked m c.args.seeds.now) c.in_ok-marking.ensures))
    (begins (lists c.args.rows.now) c.args.seeds.now (length c.args.rows.now) c.requires.seeds)

pub row-requires : goal.row-requires
row-requires c = subst (λ a. a < length c.args.rows.now) (sym c.at-a.ensures) (listed_within _ c.loop-next.marking _ c.loop-next.invariant.fits (among_at c.loop-next.marking.list c.loop-next.next 0 (omega arith)))

pub mark_all-requires-in-loop-next : goal.mark_all-requires-in-loop-next
mark_all-requires-in-loop-next c =
    subst (λ n. All (λ a. a < n) c.row.result.now) (sym c.loop-next.invariant.fits.size)
    (subst (All (λ a. a < length c.args.rows.now)) (sym c.row.ensures) (row_within (length c.args.rows.now) (lists c.args.rows.now) c.at-a.result c.requires.rows))

pub loop-next-preserved : goal.loop-next-preserved
loop-next-preserved c =
    subst (λ m. Stands (lists c.args.rows.now) c.args.seeds.now (length c.args.rows.now) (c.loop-next.next + 1) m)
    (sym (c.in_ok-mark_all-2.ensures.ok ∙ ap (with_numbers_marked c.loop-next.marking) (c.row.ensures ∙ ap (row (lists c.args.rows.now)) c.at-a.ensures)))
    (goes_on (lists c.args.rows.now) c.args.seeds.now (length c.args.rows.now) c.loop-next.next c.loop-next.marking 0 c.loop-next.invariant (omega arith) c.requires.rows)

pub returns-clause-complete : goal.returns-clause-complete
returns-clause-complete c = λ a r.
    subst (λ marks. is_marked marks a ≡ true) (sym c.into_marks.ensures)
    (c.loop-next.invariant.fits.marked a (all_reached (lists c.args.rows.now) c.args.seeds.now (length c.args.rows.now) c.loop-next.next c.loop-next.marking c.loop-next.invariant (omega arith) a r))
