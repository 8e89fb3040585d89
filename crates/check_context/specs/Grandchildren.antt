-- What an iterator over grandchildren has left.
use Rattle.std.specs.Prelude.{List, ◌++◌, flat_map}
use Rattle.semantic_tree.specs.declared.node.Node.{Node}
use Rattle.semantic_tree.specs.ChildIter.{left_of}
use Rattle.semantic_tree.specs.Views.{all_in}
use Rattle.check_context.specs.declared.grandchildren.Grandchildren.{Grandchildren}

-- the grandchildren that are left
abbrev pub grandchildren_left : Grandchildren → List Node
grandchildren_left it = left_of it.inner ++ flat_map (all_in it.role) (left_of it.outer)
