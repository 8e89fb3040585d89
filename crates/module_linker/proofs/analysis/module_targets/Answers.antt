use Rattle.std.proofs.Common.{◌≡◌, List, map, subst, IfOk}
use Rattle.link_model.specs.Imports.{imports}
use Rattle.link_model.specs.Leads.{import_end}
use Rattle.link_model.specs.Module.{Analysed, analysed}
use Rattle.link_targets.specs.Denoted.{AreDenoted}
use Rattle.link_targets.specs.Described.{IsModuleExports}
use Rattle.module_linker.specs.AnalysedIn.{import_nodes}
use Rattle.module_linker.proofs.AnalysisTold.{seen_by, analysed_told}
use Rattle.module_linker.proofs.analysis.module_targets.Goals as goal

pub returns : goal.returns
returns c =
    let m = c.args.module.now in
    let told : seen_by m c.scoping.result.now c.tables.result.now ≡ analysed m =
    analysed_told m c.scoping.result.now c.in_ok-analysis.analysis.semantic.scoping c.tables.result.now c.in_ok-analysis.analysis.semantic.tables c.in_ok-analysis.analysis.diagnostics c.scoping.ensures c.tables.ensures c.in_ok-analysis.ensures.analysed.analysis c.in_ok-analysis.ensures.analysed.nodes in
    record {
      grows = c.targets_of-made.ensures.grows;
      nodes = subst (λ (x : Analysed). IfOk c.targets_of-made.result (λ made. made.nodes.items ≡ import_nodes (imports x))) told c.targets_of-made.ensures.nodes;
      targets = subst (λ (x : Analysed). IfOk c.targets_of-made.result (λ made. AreDenoted c.targets_of-made.new.texts made.targets.items (map (import_end c.args.names.now) (imports x)))) told c.targets_of-made.ensures.targets;
      exports = subst (λ (x : Analysed). IfOk c.targets_of-made.result (λ made. IsModuleExports c.args.names.now c.targets_of-made.new.texts c.args.number x made.exports)) told c.targets_of-made.ensures.exports;
    }
