use Rattle.std.proofs.Common.{List, drop}
use Rattle.semantic_syntax.specs.Tables.{Name}
use Rattle.link_targets.specs.Denoted.{Grows}
use Rattle.module_linker.specs.AnalysedIn.{ties_in}
use Rattle.module_entries.proofs.Continuing.{Continues}
use Rattle.module_linker.proofs.ImportSteps.{TargetsStand, BoundStand}
use Rattle.module_linker.proofs.import_targets.import_targets.Given as goal

-- what stands for the imports that are left, stands with what is there for all
abbrev pub invariant-loop-import : goal.invariant-loop-import
invariant-loop-import l = record {
  grows : Grows l.initial.texts l.texts;
  targets : (later : List Name) → Grows l.texts later → Continues (TargetsStand l.names later (drop l.import-index l.imports)) (TargetsStand l.names later l.imports) l.made.targets.items;
  bound : (later : List Name) → Grows l.texts later → Continues (BoundStand l.names later (ties_in l.analysed) (drop l.import-index l.imports)) (BoundStand l.names later (ties_in l.analysed) l.imports) l.made.bound.items;
}
