use Rattle.std.proofs.Common.{List, drop}
use Rattle.semantic_syntax.specs.Tables.{Name}
use Rattle.link_model.specs.Imports.{imports}
use Rattle.link_targets.specs.Denoted.{Grows}
use Rattle.module_linker.specs.AnalysedIn.{analysed_in, ties_in}
use Rattle.module_linker.specs.ScopeOf.{ScopeLeads}
use Rattle.module_entries.proofs.Continuing.{Continues}
use Rattle.module_linker.proofs.ExportSteps.{ExportsStand}
use Rattle.module_linker.proofs.export_targets.export_targets.Given as goal

-- what stands for the exports that are left, stands with what is there for all
abbrev pub invariant-loop-export : goal.invariant-loop-export
invariant-loop-export l =
    let told : List Name → _ = ExportsStand l.names l.scope.analysed.now.number (ties_in l.scope.analysed.now) (imports (analysed_in l.scope.analysed.now)) in
    record {
      grows : Grows l.initial.texts l.texts;
      leads : ScopeLeads l.names l.texts l.scope;
      targets : (later : List Name) → Grows l.texts later → Continues (told later (drop l.export-index l.exports)) (told later l.exports) l.targets.items;
    }
