use Rattle.std.proofs.Common.{◌≡◌, ◌||◌, drop}
use Rattle.semantic_syntax.specs.Tables.{Name}
use Rattle.semantic_tree.specs.Forest.{count}
use Rattle.semantic_tree.specs.Children.{forest_of}
use Rattle.mangle_model.specs.OneNameEach.{bears_such, fixed_below}
use Rattle.simple_names.specs.Telling.{is_name_among, may_by, told_by}
use Rattle.simple_names.proofs.standing.+add_names.Given as goal

-- with those of the children that are left, all names are there
abbrev pub invariant-loop-role : goal.invariant-loop-role
invariant-loop-role l = record {
  items : forest_of l.role-items ≡ l.node.children;
  rest : (q : Name) → (is_name_among l.names q || is_name_among (fixed_below (bears_such (may_by l.known) (told_by l.known)) l.setting (forest_of (drop l.role-index l.role-items))) q)
      ≡ (is_name_among l.fn.names q || is_name_among (fixed_below (bears_such (may_by l.known) (told_by l.known)) l.setting l.node.children) q);
}

-- how many nodes are below
abbrev pub decreases-add_names : goal.decreases-add_names
decreases-add_names l = count l.node.now.children
