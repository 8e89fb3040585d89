-- What a walk notes of labels: a labelled statement is come to and left, and a jump names its label.
use Rattle.std.specs.Prelude.{ℕ, List, [], ◌∷◌, Bool, ◌&&◌, ◌||◌, not, Option, Some, None, cond, is_some}
use Rattle.std.specs.List.{list_any}
use Rattle.semantic_syntax.specs.Tables.{Name}
use Rattle.semantic_tree.specs.Forest.{Forest, nothing, tree}
use Rattle.semantic_tree.specs.declared.node.Node.{Node}
use Rattle.semantic_model.specs.Label.{label_of, is_jump, is_labelled, is_named_in}
use Rattle.unused_labels.specs.LabelStack.{Labelled, LabelLists, label_entered, is_label_named, jumped, label_left}

-- a statement with the label, if it has one, is come to: a jump, a labelled statement or another one
abbrev pub label_met : Bool → Bool → Option Node → ℕ → LabelLists → LabelLists
label_met jump labelled None node w = w
label_met jump labelled (Some label) node w = cond jump (jumped w label.text) (cond labelled (label_entered w label.text node) w)

-- a node is entered
abbrev pub node_entered : Node → LabelLists → LabelLists
node_entered here w = label_met (is_jump here.kind) (is_labelled here.kind) (label_of here.children) here.node_id w

-- a node is left
abbrev pub node_left : Node → LabelLists → LabelLists
node_left here w = cond (is_labelled here.kind && is_some (label_of here.children)) (label_left w) w

-- the nodes of a forest are walked
abbrev pub walked_below : Forest → LabelLists → LabelLists
walked_below nothing w = w
walked_below (tree r k span text marks below id after) w =
    let here : Node = record { kind = k; span = span; text = text; marks = marks; children = below; node_id = id } in
    walked_below after (node_left here (walked_below below (node_entered here w)))

-- the labels of which the test holds are used, each by the innermost statement of the label
abbrev pub used_where : (Name → Bool) → List Labelled → List Labelled
used_where test [] = []
used_where test (l ∷ ls) = record l { used = l.used || (not (list_any (is_label_named l.name) ls) && test l.name) } ∷ used_where test ls

-- the statements around a forest, once its jumps are walked
abbrev pub used_by : Forest → List Labelled → List Labelled
used_by f around = used_where (λ label. is_named_in label f) around
