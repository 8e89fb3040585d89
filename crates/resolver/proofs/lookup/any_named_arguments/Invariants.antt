use Rattle.std.proofs.Common.{◌≡◌, false, All, take}
use Rattle.scoping_rows.specs.Names.{name_of}
use Rattle.resolver.specs.Terms.{is_arguments_name}
use Rattle.resolver.proofs.lookup.any_named_arguments.Given as goal

abbrev pub invariant-loop-entry : goal.invariant-loop-entry
invariant-loop-entry l = All (λ u. is_arguments_name (name_of u.name) ≡ false) (take l.entry-index l.batch)
