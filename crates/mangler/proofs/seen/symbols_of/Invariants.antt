use Rattle.std.proofs.Common.{◌≡◌, ◌||◌, ℕ, nat_eq, drop}
use Rattle.std.specs.HashSet.{contains as has_key}
use Rattle.std.specs.List.{list_any}
use Rattle.rename_model.specs.Renamed.{bears_name}
use Rattle.renamer.specs.Told.{told_by}
use Rattle.mangler.proofs.seen.symbols_of.Given as goal

-- the set has the symbols but those of the nodes that are left
abbrev pub invariant-loop-node : goal.invariant-loop-node
invariant-loop-node l = (s : ℕ) → (has_key nat_eq l.set s || list_any (bears_name (told_by l.analysed) s) (drop l.node-index l.nodes)) ≡ list_any (bears_name (told_by l.analysed) s) l.nodes
