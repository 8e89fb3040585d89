use Rattle.std.proofs.Common.{◌≡◌, ◌+◌, ◌-◌, ◌≤◌, ◌∷◌, ◌++◌, drop, length, map}
use Rattle.tree_json.specs.Lines.{node_lines}
use Rattle.tree_json.specs.Listing.{line, Continues}
use Rattle.tree_json.proofs.build.+node_of.Given as goal

abbrev pub decreases-node_of : goal.decreases-node_of
decreases-node_of l = length l.rows.now - l.place.now

-- the lines of the node so far, with those that are left, are all
abbrev pub invariant-loop-below : goal.invariant-loop-below
invariant-loop-below l = record {
  lines : node_lines l.row.depth l.row.role l.node ++ map line (drop l.place l.rows) ≡ line l.row ∷ map line (drop l.fn.place l.rows);
  rest : Continues (l.row.depth + 1) (map line (drop l.place l.rows));
  forward : l.fn.place ≤ l.place;
}

abbrev pub decreases-loop-below : goal.decreases-loop-below
decreases-loop-below l = length l.rows - l.place
