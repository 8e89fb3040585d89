use Rattle.std.proofs.Common.{length}
use Rattle.link_search.specs.Exports.{targets_of}
use Rattle.link_search.specs.Targets.{target_names}
use Rattle.link_search.proofs.Within.{all_within, ways_within}
use Rattle.link_search.proofs.exports.NameWaysWays.ways.Goals as goal

pub returns-clause-within : goal.returns-clause-within
returns-clause-within c =
    let exports = c.args.self.now.exports.now in
    ways_within (length exports.modules.items) exports.names c.names_from.result (target_names (targets_of exports c.args.pair)) c.names_from.ensures
    (all_within (length exports.modules.items) exports.names (target_names (targets_of exports c.args.pair)) (c.args.self.now.within c.args.pair))
