-- A place on the way outward from a node, and what of the way is left.
use Rattle.std.specs.Prelude.{◌≡◌, ℕ, List, [], ◌∷◌, ◌==◌, ◌||◌, not, Bool, true, Option, Some, None, nat_lt}
use Rattle.std.specs.List.{find, take_while}
use Rattle.semantic_kinds.specs.declared.role.Role.TheVariants as roles
use Rattle.semantic_tree.specs.Views.{is_child_in}
use Rattle.semantic_tree.specs.declared.node.Node.{Node}
use Rattle.semantic_tree.specs.declared.view.AstKind.{AstKind}
use Rattle.node_store.specs.PathLeft.{path_left}
use Rattle.check_model.specs.Search.{neighbours, onward, passes}
use Rattle.check_model.specs.Super.{is_element}
use Rattle.expression_checks.specs.declared.way.Way.{Way}

-- the nodes from the place on, if it is not behind the last
abbrev pub nodes_from : Option AstKind → List Node → List Node
nodes_from None above = []
nodes_from (Some here) above = here.node.now ∷ above

abbrev pub way_left : Way → List Node
way_left way = nodes_from way.here (path_left way.above)

-- each place that is left with the next one
abbrev pub way_links : Way → List (Node × Node)
way_links way = neighbours (way_left way)

-- the nodes from the one with the id on
abbrev pub from_id : ℕ → List Node → List Node
from_id id nodes = onward (λ node. node.node_id == id) nodes

-- the id is lower than each that was passed
abbrev pub is_below_all : Option ℕ → ℕ → Bool
is_below_all None id = true
is_below_all (Some least) id = nat_lt id least

-- the way is that along the nodes: none that was passed has an id below the least of them
abbrev pub GoesAlong : List Node → Way → Type 0
GoesAlong nodes way = (id : ℕ) → is_below_all way.least id ≡ true → from_id id nodes ≡ from_id id (way_left way)

-- going on outward along the nodes, the first element of the class is left through its value or its type
abbrev pub leaves_value_from : ℕ → List Node → Bool
leaves_value_from class nodes =
    passes (λ link. is_child_in roles.Value link.1 link.0 || is_child_in roles.Annotation link.1 link.0) (find (λ link. is_element link.1.kind) (take_while (λ link. not (link.1.node_id == class)) (neighbours nodes)))
