use Rattle.std.proofs.Common.{◌≡◌, drop}
use Rattle.semantic_tree.specs.Forest.{count}
use Rattle.semantic_tree.specs.Children.{forest_of}
use Rattle.module_entries.specs.Entries.{seen, entered_below}
use Rattle.module_entries.proofs.entries.ModuleEntries.+gather_below.Given as goal

-- to gather from what is left is to gather from all
abbrev pub invariant-loop-child : goal.invariant-loop-child
invariant-loop-child l = record {
  items : forest_of l.child-items ≡ l.parent.children;
  rest : entered_below l.parent (forest_of (drop l.child-index l.child-items)) (seen l.self) ≡ entered_below l.parent l.parent.children (seen l.initial.self);
}

-- how many nodes are below
abbrev pub decreases-gather_below : goal.decreases-gather_below
decreases-gather_below l = count l.parent.now.children
