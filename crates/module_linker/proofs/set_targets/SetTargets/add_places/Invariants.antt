use Rattle.std.proofs.Common.{◌≡◌, ◌++◌, drop}
use Rattle.module_linker.specs.SetTold.{places_in}
use Rattle.module_linker.proofs.set_targets.SetTargets.add_places.Given as goal

-- with the nodes that are left, all places are there
abbrev pub invariant-loop-node : goal.invariant-loop-node
invariant-loop-node l = record {
  exports : l.self.exports ≡ l.initial.self.exports;
  places : l.self.places.items ++ places_in l.number (drop l.node-index l.nodes) ≡ l.initial.self.places.items ++ places_in l.number l.nodes;
  targets : l.self.targets ≡ l.initial.self.targets;
}
