use Rattle.std.proofs.Common.{◌≡◌, drop}
use Rattle.semantic_tree.specs.Children.{forest_of}
use Rattle.semantic_tree.specs.Forest.{count, join}
use Rattle.semantic_tree.specs.declared.node.Node.{Node}
use Rattle.mangle_model.specs.WithNames.{with_names}
use Rattle.renamer.specs.Renaming.{AreKnown}
use Rattle.renamer.proofs.renaming.+push_renamed.Given as goal

-- the children so far, and those that are left, are all children
abbrev pub invariant-loop-role : goal.invariant-loop-role
invariant-loop-role g l = record {
  items : forest_of l.role-items ≡ l.from.children;
  known : AreKnown (forest_of (drop l.role-index l.role-items));
  rest : ◌≡◌ {A = Node} (record l.into { children = join l.into.children (with_names (g.N.GivenNames.given l.names) (forest_of (drop l.role-index l.role-items))) })
      (record l.initial.into { children = join l.initial.into.children (with_names (g.N.GivenNames.given l.names) l.from.children) });
}

-- how many nodes are below
abbrev pub decreases-push_renamed : goal.decreases-push_renamed
decreases-push_renamed g l = count l.from.now.children
