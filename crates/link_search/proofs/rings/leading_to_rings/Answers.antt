use Rattle.std.proofs.Common.{◌≡◌, ◌<◌, [], ℕ, sym, ap, refl, subst, ◌∙◌, length, false, map, IfOk, Result, Ok, Err, arith}
use Rattle.reachability.specs.Rows.{lists}
use Rattle.reachability.specs.Marked.{is_marked}
use Rattle.link_search.specs.Walked.{Walked, is_new, is_ring, mark_of}
use Rattle.link_search.specs.Keeping.{Keeps}
use Rattle.link_search.proofs.Walking.{nothing_kept, ring_told, ring_found, flag_at}
use Rattle.link_search.proofs.rings.leading_to_rings.Goals as goal

pub loop-start-init : goal.loop-start-init
loop-start-init c =
    subst (λ (w : Walked). Keeps (lists c.args.rows.now) (length c.args.rows.now) w × (w.tasks ≡ []) × ((b : ℕ) → b < 0 → is_new (mark_of w.marks b) ≡ false))
    (sym c.in_ok-walk.ensures)
    (nothing_kept (lists c.args.rows.now) (length c.args.rows.now), refl, (λ b h. absurd (omega (arith, h))))

ok_weaker : {X E : Type 0} (P Q : X → Type 0) (r : Result X E) → ((x : X) → P x → Q x) → IfOk r P → IfOk r Q
ok_weaker P Q (Ok x) h p = h x p
ok_weaker P Q (Err e) h p = tt

pub returns-clause-sound : goal.returns-clause-sound
returns-clause-sound c =
    ok_weaker (λ flags. flags.items ≡ map is_ring c.loop-start.walk.marks) _ c.flags.result
    (λ flags e a h. ring_told (lists c.args.rows.now) (length c.args.rows.now) c.loop-start.walk a c.loop-start.invariant.0 (sym (flag_at c.loop-start.walk.marks a) ∙ ap (λ fs. is_marked fs a) (sym e) ∙ h))
    c.flags.ensures

pub returns-clause-complete : goal.returns-clause-complete
returns-clause-complete c =
    ok_weaker (λ flags. flags.items ≡ map is_ring c.loop-start.walk.marks) _ c.flags.result
    (λ flags e a h r. ap (λ fs. is_marked fs a) e ∙ flag_at c.loop-start.walk.marks a ∙ ring_found (lists c.args.rows.now) (length c.args.rows.now) c.loop-start.walk a c.loop-start.invariant.0 c.loop-start.invariant.1 (c.loop-start.invariant.2 a (omega (arith, h))) r)
    c.flags.ensures
