use Rattle.std.proofs.Common.{◌≡◌, drop}
use Rattle.semantic_tree.specs.Forest.{count}
use Rattle.semantic_tree.specs.Children.{forest_of}
use Rattle.walk_notes.specs.WrittenNames.{openers_of}
use Rattle.walk_model.specs.WrittenNames.{written_below}
use Rattle.walk_notes.proofs.Adding.{Rests}
use Rattle.walk_notes.proofs.namesakes.Namesakes.+collect.Given as goal

-- with what is written in the children that are left, all below the node is added
abbrev pub invariant-loop-role : goal.invariant-loop-role
invariant-loop-role l = record {
  items : forest_of l.role-items ≡ l.kind.node.now.children;
  rest : Rests l.self (written_below l.kind.node.now (openers_of l.openers) (forest_of (drop l.role-index l.role-items))) l.initial.self (written_below l.kind.node.now (openers_of l.openers) l.kind.node.now.children);
}

-- how many nodes are below
abbrev pub decreases-collect : goal.decreases-collect
decreases-collect l = count l.kind.node.now.children
