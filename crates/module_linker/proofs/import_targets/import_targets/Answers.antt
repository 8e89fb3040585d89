use Rattle.std.proofs.Common.{arith}
use Rattle.link_targets.proofs.Growth.{grows_on}
use Rattle.module_linker.specs.AnalysedIn.{ties_in}
use Rattle.module_linker.proofs.ImportSteps.{targets_more, bound_more, targets_all, bound_all}
use Rattle.module_linker.proofs.import_targets.import_targets.Goals as goal

pub loop-import-preserved : goal.loop-import-preserved
loop-import-preserved c =
    let l = c.loop-import in
    let added = c.in_ok-add.ensures.added in
    record {
      grows = grows_on c.args.texts.now l.texts c.add.new.texts l.invariant.grows c.in_ok-add.ensures.grows;
      targets = targets_more c.args.names.now c.args.imports.now l.import-index c.import-item.result c.import-item.result (omega arith) c.import-item.is l.texts c.add.new.texts c.in_ok-add.ensures.grows added.target added.stands
          l.made.targets.items c.add.new.self.targets.items added.targets l.invariant.targets;
      bound = bound_more c.args.names.now c.args.imports.now l.import-index c.import-item.result c.import-item.result (omega arith) c.import-item.is l.texts c.add.new.texts c.in_ok-add.ensures.grows added.target added.stands
          (ties_in c.args.analysed.now) l.made.bound.items c.add.new.self.bound.items added.bound l.invariant.bound;
    }

pub returns-clause-targets : goal.returns-clause-targets
returns-clause-targets c = targets_all c.args.names.now c.loop-import.texts c.args.imports.now c.loop-import.import-index c.loop-import.made.targets.items (omega arith) c.loop-import.invariant.targets

pub returns-clause-bound : goal.returns-clause-bound
returns-clause-bound c = bound_all c.args.names.now c.loop-import.texts (ties_in c.args.analysed.now) c.args.imports.now c.loop-import.import-index c.loop-import.made.bound.items (omega arith) c.loop-import.invariant.bound
