-- What a list of names, whose first stands apart, and an iterator over it show.
use Rattle.std.specs.Prelude.{◌≡◌, ⊤, List, [], ◌∷◌, Option, None, Some, map}
use Rattle.std.specs.Slice.Iter.{iter_rest}
use Rattle.semantic_tree.specs.declared.node.Node.{Node}
use Rattle.semantic_tree.specs.declared.view.AstKind.{AstKind}
use Rattle.semantic_tree.specs.ChildIter.{shown}
use Rattle.node_rules.specs.declared.bound_identifiers.BoundIdentifiersIter.{BoundIdentifiersIter}

-- the first, if there is one, and then the others
abbrev pub first_and_rest : Option AstKind → List AstKind → List Node
first_and_rest None more = map shown more
first_and_rest (Some first) more = first.node.now ∷ map shown more

-- the first place is filled before the others
abbrev pub IsFilledInOrder : Option AstKind → List AstKind → Type 0
IsFilledInOrder None more = map shown more ≡ []
IsFilledInOrder (Some first) more = ⊤

-- the names that are left
abbrev pub names_left : BoundIdentifiersIter → List Node
names_left it = first_and_rest it.first (iter_rest it.more)
