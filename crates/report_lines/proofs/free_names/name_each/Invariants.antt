use Rattle.std.proofs.Common.{◌≡◌, drop, map}
use Rattle.scoping_rows.specs.Names.{name_of}
use Rattle.report_lines.specs.FreeNames.{name_shown, named_each}
use Rattle.report_lines.proofs.free_names.name_each.Given as goal

abbrev pub invariant-loop-reference : goal.invariant-loop-reference
invariant-loop-reference l = named_each (map name_shown l.names) (drop l.reference-index l.references) (name_of l.name) ≡ named_each (map name_shown l.fn.names) l.references (name_of l.name)
