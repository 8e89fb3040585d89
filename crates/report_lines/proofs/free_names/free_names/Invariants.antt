use Rattle.std.proofs.Common.{◌≡◌, map}
use Rattle.report_lines.specs.FreeNames.{name_shown, names_with_free, free_names}
use Rattle.report_lines.proofs.free_names.free_names.Given as goal

abbrev pub invariant-loop-name : goal.invariant-loop-name
invariant-loop-name l = names_with_free (map name_shown l.names.items) l.name-iterator ≡ free_names l.scoping
