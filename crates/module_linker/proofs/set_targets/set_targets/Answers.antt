use Rattle.std.proofs.Common.{arith}
use Rattle.link_targets.proofs.Growth.{grows_on}
use Rattle.module_linker.proofs.SetSteps.{exports_more, targets_more, places_more, exports_all, targets_all, places_all}
use Rattle.module_linker.proofs.set_targets.set_targets.Goals as goal

pub loop-number-preserved : goal.loop-number-preserved
loop-number-preserved c =
    let l = c.loop-number in
    let all = c.args.modules.now in
    let m = c.index-modules-number.result in
    let told = c.in_ok-told.told in
    record {
      grows = grows_on c.args.texts.now l.texts c.module_targets.new.texts l.invariant.grows c.in_ok-told.ensures.grows;
      exports = exports_more c.args.names.now all l.number m m (omega arith) c.index-modules-number.is l.texts c.module_targets.new.texts c.in_ok-told.ensures.grows told.exports c.in_ok-told.ensures.exports
          l.made.exports.items c.add.new.self.exports.items c.in_ok-add.ensures.exports l.invariant.exports;
      targets = targets_more c.args.names.now all l.number m m (omega arith) c.index-modules-number.is l.texts c.module_targets.new.texts c.in_ok-told.ensures.grows told.targets.items c.in_ok-told.ensures.targets
          l.made.targets.items c.add.new.self.targets.items c.in_ok-add.ensures.targets l.invariant.targets;
      places = places_more all l.number m m (omega arith) c.index-modules-number.is l.made.places.items c.add.new.self.places.items told.nodes.items c.in_ok-told.ensures.nodes c.in_ok-add.ensures.places l.invariant.places;
    }

pub returns-clause-made : goal.returns-clause-made
returns-clause-made c =
    let l = c.loop-number in
    let all = c.args.modules.now in
    record {
      exports = exports_all c.args.names.now l.texts all l.number (omega arith) l.made.exports.items l.invariant.exports;
      places = places_all all l.number (omega arith) l.made.places.items l.invariant.places;
      targets = targets_all c.args.names.now l.texts all l.number (omega arith) l.made.targets.items l.invariant.targets;
    }
