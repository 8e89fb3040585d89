use Rattle.std.proofs.Common.{sym, ap, ◌∙◌}
use Rattle.std.specs.Map.{values_of}
use Rattle.scoping_rows.proofs.Entries.{values-by_value}
use Rattle.scoping.proofs.unresolved.FreeLists.new.Goals as goal

pub returns : goal.returns
returns c = sym (values-by_value (λ v. v.items) c.iter.result) ∙ ap values_of c.iter.ensures
