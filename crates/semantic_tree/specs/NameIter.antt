-- What an iterator over bound names has left.
use Rattle.std.specs.Prelude.{List, [], ◌∷◌, ◌++◌, Option, Some, None}
use Rattle.semantic_tree.specs.Children.{forest_of}
use Rattle.semantic_tree.specs.BoundNames.{bound_below, rising}
use Rattle.semantic_tree.specs.declared.node.Node.{Node}
use Rattle.semantic_tree.specs.declared.view.AstKind.{AstKind}
use Rattle.semantic_tree.specs.declared.bound_names.BoundNames.{BoundNames}

-- the node itself, if it is a name that was not given yet
abbrev pub own_name : Option AstKind → List Node
own_name None = []
own_name (Some kind) = kind.node.now ∷ []

-- the names that are left below the parent
abbrev pub names_below : BoundNames → List Node
names_below it = rising it.from (bound_below it.parent (forest_of it.left.now))

-- the names that are left
abbrev pub names_left : BoundNames → List Node
names_left it = own_name it.own ++ names_below it
