-- The listing of a tree: its nodes in preorder, each as a line with its depth.
use Rattle.std.specs.Prelude.{ℕ, ◌+◌, List, [], ◌∷◌, ◌++◌}
use Rattle.semantic_syntax.specs.declared.spans.Span.{Span}
use Rattle.semantic_kinds.specs.declared.kind.AstType.{AstType}
use Rattle.semantic_kinds.specs.declared.role.Role.{Role}
use Rattle.semantic_kinds.specs.declared.role.Role.TheVariants.{Root}
use Rattle.semantic_kinds.specs.declared.marks.Marks.{Marks}
use Rattle.semantic_tree.specs.Forest.{Forest, nothing, tree}
use Rattle.semantic_tree.specs.declared.node.Node.{Node}

-- a line: what a node says of itself, and how deep it stands
pub record Line : Type 0 where
  pub depth : ℕ
  pub role : Role
  pub kind : AstType
  pub span : Span
  pub text : List ℕ
  pub marks : Marks

-- the lines of the trees of a forest that stands at a depth
abbrev pub lines_of : ℕ → Forest → List Line
lines_of depth nothing = []
lines_of depth (tree role kind span text marks below id after) =
    record { depth = depth; role = role; kind = kind; span = span; text = text; marks = marks }
    ∷ (lines_of (depth + 1) below ++ lines_of depth after)

-- the line of a node
abbrev pub line_of : ℕ → Role → Node → Line
line_of depth role node = record { depth = depth; role = role; kind = node.kind; span = node.span; text = node.text; marks = node.marks }

-- the lines of a node and of all below it
abbrev pub node_lines : ℕ → Role → Node → List Line
node_lines depth role node = line_of depth role node ∷ lines_of (depth + 1) node.children

-- the listing of a tree
abbrev pub listing : Node → List Line
listing root = node_lines 0 Root root
