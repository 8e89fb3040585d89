use Rattle.std.proofs.Common.{◌≡◌, ◌<◌, ◌+◌, ◌-◌, length, map, drop, ap, subst, ◌∙◌, arith, ℕ}
use Rattle.walk_model.specs.WalkState.{WalkState}
use Rattle.walk_model.specs.Settles.{settle}
use Rattle.resolver.specs.Terms.{outcome_of}
use Rattle.table_building.proofs.Growing.{grows-trans}
use Rattle.table_building.proofs.Settling.{settle_turn}
use Rattle.table_building.proofs.declared.Declared.settle_all.Goals as goal

pub loop-position-preserved : goal.loop-position-preserved
loop-position-preserved c =
    let w = c.loop-position.self in
    let v = c.settle_at.new.self in
    let items = c.as_slice-items.result.now in
    let i = c.loop-position.position - c.args.start in
    let within : c.loop-position.position < length w.waiting = omega (arith, ap length c.loop-position.invariant.waiting) in
    let here : i < length items = omega (arith, ap length c.as_slice-items.ensures, c.requires.count, ap length c.loop-position.invariant.waiting, within) in
    let next : i + 1 ≡ c.loop-position.position + 1 - c.args.start = omega arith in
    let rest = settle_turn w v _ c.loop-position.position i items c.index-items-position.result within here c.index-items-position.is c.in_ok-settle_at.ensures.made c.loop-position.invariant.rest in
    record {
      waiting = ap (λ (u : WalkState). u.waiting) c.in_ok-settle_at.ensures.made ∙ c.loop-position.invariant.waiting;
      rest = subst (λ (n : ℕ). ◌≡◌ {A = WalkState} (record v { tables = settle v.tables (drop (c.loop-position.position + 1) v.waiting) (map outcome_of (drop n items)) })
          (record c.args.self.now { tables = settle c.args.self.now.tables (drop c.args.start c.args.self.now.waiting) (map outcome_of items) })) next rest;
      grows = grows-trans _ _ _ c.loop-position.invariant.grows c.in_ok-settle_at.ensures.grows;
    }
