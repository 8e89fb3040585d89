-- What contracts see of a program.
use Rattle.std.specs.Prelude.{◌≡◌, ℕ, List}
use Rattle.semantic_syntax.specs.declared.source_type.SourceType.{SourceType}
use Rattle.semantic_tree.specs.Children.{numbered_node}
use Rattle.semantic_tree.specs.declared.comment.Comment.{Comment}
use Rattle.semantic_tree.specs.declared.node.Node.{Node}

-- a program: the characters of its source, its type, its comments and its root
pub record Tree : Type 0 where
  pub source : List ℕ
  pub source_type : SourceType
  pub comments : List Comment
  pub root : Node

-- the ids are the places of the nodes in preorder
abbrev pub IsNumbered : Node → Type 0
IsNumbered node = numbered_node 0 node ≡ node

-- the ids from the node's own on are the places in preorder
abbrev pub IsPreorder : Node → Type 0
IsPreorder node = numbered_node node.node_id node ≡ node

-- the same program, whose nodes are numbered in preorder
abbrev pub numbered_tree : Tree → Tree
numbered_tree p = record p { root = numbered_node 0 p.root }
