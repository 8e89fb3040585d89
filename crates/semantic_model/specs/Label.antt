-- Labels that no jump names. A jump names the innermost labelled statement of its label, also across functions.
use Rattle.std.specs.Prelude.{ℕ, List, [], ◌∷◌, ◌++◌, Bool, true, false, ◌&&◌, ◌||◌, not, Option, Some, None, cond}
use Rattle.semantic_kinds.specs.Kinds.{same_kind}
use Rattle.semantic_kinds.specs.declared.kind.AstType.{AstType}
use Rattle.semantic_kinds.specs.declared.kind.AstType.TheVariants as kind
use Rattle.semantic_kinds.specs.declared.role.Role.TheVariants as role
use Rattle.semantic_syntax.specs.Tables.{Name}
use Rattle.semantic_tree.specs.Forest.{Forest, nothing, tree}
use Rattle.semantic_tree.specs.Nodes.{first_of}
use Rattle.semantic_tree.specs.declared.node.Node.{Node}
use Rattle.semantic_tree.specs.Views.{has_text, holds, children_of}

-- the label of a statement that has the children
abbrev pub label_of : Forest → Option Node
label_of below = first_of (children_of role.Label below)

abbrev pub is_jump : AstType → Bool
is_jump k = same_kind k kind.BreakStatement || same_kind k kind.ContinueStatement

abbrev pub is_labelled : AstType → Bool
is_labelled k = same_kind k kind.LabeledStatement

abbrev has_label : Name → Forest → Bool
has_label label below = holds (has_text label) (label_of below)

-- a jump of the forest names the label, and no labelled statement of the forest takes it first
abbrev pub is_named_in : Name → Forest → Bool
is_named_in label nothing = false
is_named_in label (tree r k span text marks below id after) =
    (is_jump k && has_label label below) || (not (is_labelled k && has_label label below) && is_named_in label below) || is_named_in label after

-- a jump below a statement names its label; one without label counts as named
abbrev pub is_used : Option Node → Forest → Bool
is_used None below = true
is_used (Some label) below = is_named_in label.text below

-- the labelled statements of a forest that no jump names, in the order of leaving them
abbrev pub unused_in : Forest → List ℕ
unused_in nothing = []
unused_in (tree r k span text marks below id after) =
    unused_in below ++ (cond (is_labelled k && not (is_used (label_of below) below)) (id ∷ []) [] ++ unused_in after)

-- the unused labels of a program
abbrev pub unused_labels : Node → List ℕ
unused_labels root = unused_in root.children
