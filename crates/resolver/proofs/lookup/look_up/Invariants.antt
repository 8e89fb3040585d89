use Rattle.std.proofs.Common.{length}
use Rattle.std.specs.Str.{chars}
use Rattle.semantic_syntax.specs.Source.{chain}
use Rattle.resolver.proofs.Asking.{HasCome}
use Rattle.resolver.proofs.lookup.look_up.Given as goal

abbrev pub invariant-loop-symbol : goal.invariant-loop-symbol
invariant-loop-symbol g l =
    HasCome (g.B.BindingSource.meaning l.source) (chars l.pending.name.text.now) l.way.bits l.last l.pending.lookup_scope_id l.scope l.fn.steps l.steps

abbrev pub decreases-loop-symbol : goal.decreases-loop-symbol
decreases-loop-symbol g l = length (chain (g.B.BindingSource.meaning l.source) l.scope)
