use Rattle.std.proofs.Common.{sym}
use Rattle.std.proofs.lemmas.List.FromFn.{length-range_with_len}
use Rattle.scoping.proofs.scope_iterators.ScopeIds.len.Goals as goal

pub returns : goal.returns
returns c = rw (← c.self.view_is) (sym (length-range_with_len c.self.inside.next c.self.inside.left))
