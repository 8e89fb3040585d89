-- Conflicts of the program, in the words of the definitions, and what is told of each.
use Rattle.std.specs.Str.{chars}
use Rattle.semantic_diagnostics.specs.declared.diagnostic.Diagnostic.{Diagnostic}
use Rattle.semantic_diagnostics.specs.Names.{redeclaration}
use Rattle.semantic_model.specs.Fold.{Conflict as NotedConflict}
use Rattle.table_building.specs.declared.conflicts.Conflict.{Conflict}

abbrev pub conflict_of : Conflict → NotedConflict
conflict_of c = record { name = chars c.name.now; earlier = c.earlier; later = c.later }

-- the diagnostic of a conflict
abbrev pub noted_conflict_diagnostic : NotedConflict → Diagnostic
noted_conflict_diagnostic c = redeclaration c.name c.earlier c.later
