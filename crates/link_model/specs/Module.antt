-- The modules of a set, and those that specifiers name.
use Rattle.std.specs.Prelude.{ℕ, List, [], ◌∷◌, ◌++◌, Option, Some, None, bytes_eq, map, position}
use Rattle.semantic_kinds.specs.declared.role.Role.TheVariants as role
use Rattle.semantic_tree.specs.Tree.{Tree}
use Rattle.semantic_tree.specs.Forest.{Forest, nothing, tree}
use Rattle.semantic_tree.specs.declared.node.Node.{Node}
use Rattle.semantic_syntax.specs.Tables.{Name}
use Rattle.semantic_tree.specs.Views.{child_of}
use Rattle.module_set.specs.declared.modules.Module.{Module}
use Rattle.semantic_model.specs.Analysis.{Analysis, analysis_of}

-- a module with the analysis of its program
pub record Analysed : Type 0 where
  pub name : Name
  pub program : Tree
  pub analysis : Analysis

abbrev pub analysed : Module → Analysed
analysed m = record { name = m.name; program = m.program; analysis = analysis_of m.program }

abbrev pub all_analysed : List Module → List Analysed
all_analysed ms = map analysed ms

-- the names of modules, in order
abbrev pub module_names : List Analysed → List Name
module_names ms = map (λ (m : Analysed). m.name) ms

-- the module that a specifier names: the first with the name
abbrev pub module_named : List Name → Name → Option ℕ
module_named names text = position (bytes_eq text) names

-- the text of a node, if there is one
abbrev pub text_or_empty : Option Node → Name
text_or_empty None = []
text_or_empty (Some node) = node.text

-- the text of the specifier of a statement
abbrev pub source_text : Node → Name
source_text node = text_or_empty (child_of role.Source node)

-- a node, and the one of which it is a child
pub record Below : Type 0 where
  pub parent : Node
  pub node : Node

-- the nodes below a node, in preorder
abbrev pub nodes_below : Node → Forest → List Below
nodes_below parent nothing = []
nodes_below parent (tree r kind span text marks below id after) =
    let node : Node = record { kind = kind; span = span; text = text; marks = marks; children = below; node_id = id } in
    record { parent = parent; node = node } ∷ (nodes_below node below ++ nodes_below parent after)

-- the nodes of a module below its program, in preorder
abbrev pub nodes_below_program : Analysed → List Below
nodes_below_program m = nodes_below m.program.root m.program.root.children
