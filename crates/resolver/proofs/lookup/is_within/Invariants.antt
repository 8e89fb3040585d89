use Rattle.std.proofs.Common.{length}
use Rattle.semantic_syntax.specs.Source.{chain}
use Rattle.resolver.proofs.Chain.{HasComeOut}
use Rattle.resolver.proofs.lookup.is_within.Given as goal

abbrev pub invariant-loop-scope : goal.invariant-loop-scope
invariant-loop-scope g l = HasComeOut (g.B.BindingSource.meaning l.source) l.fn.inner l.fn.scope l.at

abbrev pub decreases-loop-scope : goal.decreases-loop-scope
decreases-loop-scope g l = length (chain (g.B.BindingSource.meaning l.source) l.at)
