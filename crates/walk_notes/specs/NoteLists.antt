-- What a walk notes of classes and labels.
use Rattle.std.specs.Prelude.{List, Bool, ◌||◌, None}
use Rattle.semantic_kinds.specs.Kinds.{same_kind}
use Rattle.semantic_kinds.specs.declared.kind.AstType.{AstType}
use Rattle.semantic_kinds.specs.declared.kind.AstType.TheVariants as kind
use Rattle.semantic_tree.specs.Forest.{Forest}
use Rattle.semantic_tree.specs.declared.node.Node.{Node}
use Rattle.semantic_model.specs.Label.{is_jump, is_labelled}
use Rattle.class_table.specs.Lists.{no_classes}
use Rattle.class_table.specs.Noted.{class_left, noted_below}
use Rattle.class_table.specs.NotedSteps.{entered_under}
use Rattle.class_table.specs.declared.builder.ClassTableBuilder.{ClassTableBuilder}
use Rattle.unused_labels.specs.LabelStack.{LabelLists, no_labels}
use Rattle.unused_labels.specs.Labelling.{node_entered, node_left, walked_below}

-- the classes so far, and the labelled statements
pub record NoteLists : Type 0 where
  pub classes : ClassTableBuilder
  pub labels : LabelLists

-- nothing is noted yet; classes will be, or not
abbrev pub nothing_noted : Bool → NoteLists
nothing_noted on = record { classes = record { enabled = on; current_class_id = None; classes = no_classes }; labels = no_labels }

-- a node is entered below these nodes, parent first
abbrev pub noting : List Node → Node → NoteLists → NoteLists
noting above here x = record { classes = entered_under above here x.classes; labels = node_entered here x.labels }

-- a node is left
abbrev pub leaving : Node → NoteLists → NoteLists
leaving here x = record { classes = class_left here.kind x.classes; labels = node_left here x.labels }

-- the nodes of a forest below the parent are walked
abbrev pub noted_inside : Node → Forest → NoteLists → NoteLists
noted_inside parent f x = record { classes = noted_below parent.kind parent.node_id f x.classes; labels = walked_below f x.labels }

-- a node below these nodes is walked, with all that is below it
abbrev pub noted_over : List Node → Node → NoteLists → NoteLists
noted_over above here x = leaving here (noted_inside here here.children (noting above here x))

-- whether a node of the kind may have a label
abbrev pub has_label_kind : AstType → Bool
has_label_kind k = is_jump k || is_labelled k

-- whether something may be noted where a node of the kind is entered
abbrev pub is_noted : AstType → Bool
is_noted k = has_label_kind k || (same_kind k kind.ClassBody || same_kind k kind.PrivateIdentifier)

-- whether something may be noted where it is left
abbrev pub is_noted_behind : AstType → Bool
is_noted_behind k = is_labelled k || same_kind k kind.Class
