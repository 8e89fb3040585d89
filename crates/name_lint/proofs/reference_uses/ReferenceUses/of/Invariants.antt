use Rattle.std.proofs.Common.{◌≡◌, ◌++◌, drop}
use Rattle.std.specs.List.{filter_map}
use Rattle.name_lint.specs.Uses.{uses_by}
use Rattle.name_lint.specs.Live.{free_use, owned_use}
use Rattle.name_lint.proofs.reference_uses.ReferenceUses.of.Given as goal

abbrev pub invariant-loop-number : goal.invariant-loop-number
invariant-loop-number l = record {
  free : l.uses.free.items ++ filter_map free_use (uses_by (drop l.number l.owners) (drop l.number l.scoping.references)) ≡ filter_map free_use (uses_by l.owners l.scoping.references);
  owned : l.uses.owned.items ++ filter_map owned_use (uses_by (drop l.number l.owners) (drop l.number l.scoping.references)) ≡ filter_map owned_use (uses_by l.owners l.scoping.references);
}
