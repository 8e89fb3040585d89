-- What views and iterators over them show.
use Rattle.std.specs.Prelude.{List, ◌∷◌}
use Rattle.semantic_tree.specs.declared.node.Node.{Node}
use Rattle.semantic_tree.specs.declared.view.AstKind.{AstKind}
use Rattle.node_store.specs.PathLeft.{path_left}
use Rattle.check_model.specs.Search.{neighbours}
use Rattle.check_context.specs.declared.links.Links.{Links}

-- a node and its parent
abbrev pub link_shown : AstKind × AstKind → Node × Node
link_shown link = (link.0.node.now, link.1.node.now)

-- the nodes from the child on, each with its parent
abbrev pub links_left : Links → List (Node × Node)
links_left links = neighbours (links.child.node.now ∷ path_left links.above)
