use Rattle.std.proofs.Common.{◌≡◌, ◌++◌, List, drop}
use Rattle.semantic_syntax.specs.Tables.{Name}
use Rattle.link_targets.specs.Denoted.{Grows}
use Rattle.module_entries.proofs.Continuing.{Continues}
use Rattle.module_linker.proofs.SetSteps.{ExportsLeft, TargetsLeft, places_left}
use Rattle.module_linker.proofs.set_targets.set_targets.Given as goal

-- what stands for the modules that are left, stands with what is there for all
abbrev pub invariant-loop-number : goal.invariant-loop-number
invariant-loop-number l = record {
  grows : Grows l.initial.texts l.texts;
  exports : (later : List Name) → Grows l.texts later → Continues (ExportsLeft l.names later l.number (drop l.number l.modules)) (ExportsLeft l.names later 0 l.modules) l.made.exports.items;
  targets : (later : List Name) → Grows l.texts later → Continues (TargetsLeft l.names later l.number (drop l.number l.modules)) (TargetsLeft l.names later 0 l.modules) l.made.targets.items;
  places : l.made.places.items ++ places_left l.number (drop l.number l.modules) ≡ places_left 0 l.modules;
}
