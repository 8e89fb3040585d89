use Rattle.std.proofs.Common.{◌≡◌, nat_eq, drop}
use Rattle.std.specs.HashSet.{contains as has_key}
use Rattle.semantic_tree.specs.Forest.{count}
use Rattle.semantic_tree.specs.Children.{forest_of}
use Rattle.semantic_tree.specs.Place.{placed_below, placed_from}
use Rattle.semantic_tree.specs.Faults.{first_where}
use Rattle.renamer.specs.Told.{told_by}
use Rattle.rename_model.specs.Renamed.{bears_name}
use Rattle.renamer.specs.Fixing.{fixes_at}
use Rattle.renamer.proofs.fixing.+first_fixing.Given as goal

-- no node of the children so far fixes a name
abbrev pub invariant-loop-role : goal.invariant-loop-role
invariant-loop-role l = record {
  items : forest_of l.role-items ≡ l.node.children;
  rest : first_where (fixes_at (has_key nat_eq l.exported) (bears_name (told_by l.analysed) l.symbol)) (placed_below l.fn.place l.node.kind (forest_of (drop l.role-index l.role-items)))
      ≡ first_where (fixes_at (has_key nat_eq l.exported) (bears_name (told_by l.analysed) l.symbol)) (placed_from l.fn.place l.node);
}

-- how many nodes are below
abbrev pub decreases-first_fixing : goal.decreases-first_fixing
decreases-first_fixing l = count l.node.now.children
