use Rattle.std.proofs.Common.{arith}
use Rattle.link_model.specs.Imports.{imports}
use Rattle.link_targets.proofs.Growth.{grows_on}
use Rattle.module_linker.specs.AnalysedIn.{analysed_in, ties_in}
use Rattle.module_linker.proofs.ExportSteps.{scope_stays, exports_more, exports_all}
use Rattle.module_linker.proofs.export_targets.export_targets.Goals as goal

pub loop-export-preserved : goal.loop-export-preserved
loop-export-preserved c =
    let l = c.loop-export in
    let scope = c.args.scope.now in
    record {
      grows = grows_on c.args.texts.now l.texts c.entry_target.new.texts l.invariant.grows c.in_ok-name.ensures.grows;
      leads = scope_stays c.args.names.now l.texts c.entry_target.new.texts scope c.in_ok-name.ensures.grows l.invariant.leads;
      targets = exports_more c.args.names.now scope.analysed.now.number (ties_in scope.analysed.now) (imports (analysed_in scope.analysed.now)) c.args.exports.now l.export-index c.export-item.result c.export-item.result (omega arith) c.export-item.is
          l.texts c.entry_target.new.texts c.in_ok-name.ensures.grows (c.in_ok-name.name, c.in_ok-name.target) c.in_ok-name.ensures.stands l.targets.items c.push.new.self.items c.in_ok-push.ensures.items l.invariant.targets;
    }

pub returns-clause-stand : goal.returns-clause-stand
returns-clause-stand c =
    let l = c.loop-export in
    let scope = c.args.scope.now in
    exports_all c.args.names.now scope.analysed.now.number (ties_in scope.analysed.now) (imports (analysed_in scope.analysed.now)) l.texts c.args.exports.now l.export-index l.targets.items (omega arith) l.invariant.targets
