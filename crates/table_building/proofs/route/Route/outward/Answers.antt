use Rattle.std.proofs.Common.{◌≡◌, ◌+◌, ◌-◌, suc, length, refl, sym, ap, subst, ◌∙◌, arith}
use Rattle.semantic_syntax.specs.Sets.{meets}
use Rattle.semantic_syntax.specs.declared.scope_flags.ScopeFlags.{ScopeFlags}
use Rattle.table_building.proofs.Growing.{All-push}
use Rattle.table_building.proofs.Ways.{GoesOn, goes_on-hit, goes_on-next, goes_on-last, goes_on-out, way_none}
use Rattle.table_building.proofs.route.Route.outward.Goals.{else-loop-test, then-loop-test+else-intersects+in_ok-push+in-None}
use Rattle.table_building.proofs.route.Route.outward.Goals as goal

pub returns-then-intersects-clause-way : goal.returns-then-intersects-clause-way
returns-then-intersects-clause-way c =
    let t = c.args.scoping.now in
    let bits = c.args.flags.bits in
    let turn : length t.scopes - c.loop.counter ≡ suc (length t.scopes - (c.loop.counter + 1)) = omega arith in
    goes_on-hit t c.args.from bits (length t.scopes - (c.loop.counter + 1)) c.loop.scope c.loop.passed.items
    (subst (λ n. GoesOn t c.args.from bits n c.loop.scope c.loop.passed.items) turn c.loop.invariant.way)
    (ap (λ (f : ScopeFlags). meets f.bits bits) (sym c.scope_flags.ensures) ∙ sym c.intersects.ensures ∙ c.if-intersects.true)
    _ refl refl

pub loop-preserved : goal.loop-preserved
loop-preserved c =
    let t = c.args.scoping.now in
    let bits = c.args.flags.bits in
    let turn : length t.scopes - c.loop.counter ≡ suc (length t.scopes - (c.loop.counter + 1)) = omega arith in
    let next = goes_on-next t c.args.from bits (length t.scopes - (c.loop.counter + 1)) c.loop.scope c.loop.passed.items
    (subst (λ n. GoesOn t c.args.from bits n c.loop.scope c.loop.passed.items) turn c.loop.invariant.way)
    (ap (λ (f : ScopeFlags). meets f.bits bits) (sym c.scope_flags.ensures) ∙ sym c.intersects.ensures ∙ c.if-intersects.false)
    c.in-Some.around (sym c.in-Some.ensures.value) in
    record {
      scope = c.in-Some.ensures.within;
      passed = rw c.in_ok-push.ensures.ok (All-push (length t.scopes) c.loop.passed.items c.loop.scope c.loop.invariant.passed c.loop.invariant.scope);
      way = subst (λ xs. GoesOn t c.args.from bits (length t.scopes - (c.loop.counter + 1)) c.in-Some.around xs) (sym c.in_ok-push.ensures.ok) next;
    }

pub returns-clause-way : goal.returns-clause-way
returns-clause-way c =
    let t = c.args.scoping.now in
    let bits = c.args.flags.bits in
    elim c.loop-test.branch [
      | else-loop-test w ↦
          let out : length t.scopes - c.loop.counter ≡ 0 = omega (arith, w.loop-test.false, c.scopes_len-end.ensures.count) in
          way_none t c.args.from bits c.requires
          (goes_on-out t c.args.from bits c.loop.scope c.loop.passed.items (subst (λ n. GoesOn t c.args.from bits n c.loop.scope c.loop.passed.items) out c.loop.invariant.way))
          _ c.new.ensures.items refl
      | then-loop-test+else-intersects+in_ok-push+in-None w ↦
          let turn : length t.scopes - c.loop.counter ≡ suc (length t.scopes - (c.loop.counter + 1)) = omega (arith, w.loop-test.true, c.scopes_len-end.ensures.count) in
          way_none t c.args.from bits c.requires
          (goes_on-last t c.args.from bits (length t.scopes - (c.loop.counter + 1)) c.loop.scope c.loop.passed.items
          (subst (λ n. GoesOn t c.args.from bits n c.loop.scope c.loop.passed.items) turn c.loop.invariant.way)
          (ap (λ (f : ScopeFlags). meets f.bits bits) (sym w.scope_flags.ensures) ∙ sym w.intersects.ensures ∙ w.if-intersects.false)
          (sym w.in-None.ensures.value))
          _ c.new.ensures.items refl
    ]
