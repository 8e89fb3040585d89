use Rattle.std.proofs.Common.{drop}
use Rattle.module_entries.specs.Names.{names_of}
use Rattle.module_entries.proofs.NamesFound.{FirstsWith}
use Rattle.module_entries.proofs.module_names.ModuleNames.of.Given as goal

-- the map has the first number of each name that was met
abbrev pub invariant-loop-number : goal.invariant-loop-number
invariant-loop-number l = FirstsWith (names_of l.modules) l.numbers l.number (names_of (drop l.number l.modules))
