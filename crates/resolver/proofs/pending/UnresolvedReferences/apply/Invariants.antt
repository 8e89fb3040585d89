use Rattle.resolver.proofs.Kept.{HasApplied}
use Rattle.resolver.proofs.pending.UnresolvedReferences.apply.Given as goal

abbrev pub invariant-loop-outcome : goal.invariant-loop-outcome
invariant-loop-outcome l = HasApplied l.fn.start l.fn.self l.outcomes l.kept l.position l.outcome-index l.self-inside.entries.items
