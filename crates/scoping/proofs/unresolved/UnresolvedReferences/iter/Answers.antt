use Rattle.std.proofs.Common.{length, sym}
use Rattle.scoping_rows.proofs.Entries.{known-by_value}
use Rattle.scoping.proofs.unresolved.UnresolvedReferences.iter.Goals as goal

pub invariant_of-result : goal.invariant_of-result
invariant_of-result c = known-by_value (λ v. v.items) (length c.self.inside.names.now) c.iter.result (rw (sym c.iter.ensures) at c.self.invariant)
