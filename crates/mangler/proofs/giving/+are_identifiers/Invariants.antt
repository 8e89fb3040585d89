use Rattle.std.proofs.Common.{◌≡◌, drop}
use Rattle.semantic_tree.specs.Forest.{count}
use Rattle.semantic_tree.specs.Children.{forest_of}
use Rattle.mangle_model.specs.Assignment.{assignment_of}
use Rattle.mangle_model.specs.Mangling.{all_identifiers}
use Rattle.mangle_model.specs.Renamed.{given}
use Rattle.mangle_model.specs.WithNames.{is_given}
use Rattle.renamer.specs.Told.{told_by}
use Rattle.mangler.proofs.giving.+are_identifiers.Given as goal

-- the children so far are identifiers, if they are given a name
abbrev pub invariant-loop-child : goal.invariant-loop-child
invariant-loop-child l = record {
  items : forest_of l.child-items ≡ l.node.children;
  rest : all_identifiers (is_given (given (assignment_of l.names) (told_by l.analysed))) (forest_of (drop l.child-index l.child-items)) ≡ all_identifiers (is_given (given (assignment_of l.names) (told_by l.analysed))) l.node.children;
}

-- how many nodes are below
abbrev pub decreases-are_identifiers : goal.decreases-are_identifiers
decreases-are_identifiers l = count l.node.now.children
