use Rattle.std.proofs.Common.{◌<◌, ◌≤◌, nat_eq, length, arith}
use Rattle.std.specs.HashSet.{contains as has_key}
use Rattle.rename_model.specs.Renamed.{bears_name}
use Rattle.renamer.specs.Told.{told_by}
use Rattle.mangler.proofs.SeenSets.{more_any, no_more}
use Rattle.mangler.proofs.seen.symbols_of.Goals as goal

pub loop-node-preserved : goal.loop-node-preserved
loop-node-preserved c = λ s.
    let within : c.loop-node.node-index < length c.args.nodes.now = omega arith in
    more_any (bears_name (told_by c.args.analysed.now) s) c.args.nodes.now c.loop-node.node-index c.node-item.result (has_key nat_eq c.loop-node.set s) (has_key nat_eq c.add_symbols.new.set s) _ within c.node-item.is
    (c.in_ok-add_symbols.ensures s) (c.loop-node.invariant s)

pub returns : goal.returns
returns c = λ s.
    let ended : length c.args.nodes.now ≤ c.loop-node.node-index = omega arith in
    no_more (bears_name (told_by c.args.analysed.now) s) c.args.nodes.now c.loop-node.node-index (has_key nat_eq c.loop-node.set s) _ ended (c.loop-node.invariant s)
