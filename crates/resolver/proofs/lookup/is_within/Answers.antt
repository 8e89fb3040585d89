use Rattle.std.proofs.Common.{refl, sym}
use Rattle.resolver.proofs.Chain.{out_found, out_ended, out_further, shorter}
use Rattle.resolver.proofs.lookup.is_within.Goals as goal

pub loop-scope-init : goal.loop-scope-init
loop-scope-init g c = record { within = c.requires; rest = refl }

pub returns-then-eq : goal.returns-then-eq
returns-then-eq g c = out_found _ _ _ _ c.loop-scope.invariant (sym c.if-eq.ensures)

pub parent-requires : goal.parent-requires
parent-requires g c = c.loop-scope.invariant.within

pub loop-scope-smaller : goal.loop-scope-smaller
loop-scope-smaller g c = shorter _ _ c.loop-scope.invariant.within c.in-Some.ensures.law _ (sym c.in-Some.ensures.outward)

pub loop-scope-preserved : goal.loop-scope-preserved
loop-scope-preserved g c = out_further _ _ _ _ c.loop-scope.invariant c.in-Some.ensures.law _ (sym c.if-eq.ensures) (sym c.in-Some.ensures.outward)

pub returns-in-None : goal.returns-in-None
returns-in-None g c = out_ended _ _ _ _ c.loop-scope.invariant (sym c.if-eq.ensures) (sym c.in-None.ensures.outward)
