-- What a walk notes of classes: each class body is declared where it is entered, each private identifier is offered as a use, and a class is current until its node is left.
use Rattle.std.specs.Prelude.{ℕ, true, cond, Option, None}
use Rattle.semantic_kinds.specs.Kinds.{same_kind}
use Rattle.semantic_kinds.specs.declared.kind.AstType.{AstType}
use Rattle.semantic_kinds.specs.declared.kind.AstType.TheVariants as kind
use Rattle.semantic_tree.specs.Forest.{Forest, nothing, tree}
use Rattle.semantic_tree.specs.declared.node.Node.{Node}
use Rattle.class_table.specs.Lists.{ClassLists, no_classes}
use Rattle.class_table.specs.Building.{with_body, with_use_under, popped}
use Rattle.class_table.specs.declared.builder.ClassTableBuilder.{ClassTableBuilder}

-- a node is entered below a parent of the kind and the id
abbrev pub class_entered : AstType → ℕ → Node → ClassTableBuilder → ClassTableBuilder
class_entered parent node here b =
    let used : ClassTableBuilder = cond (same_kind here.kind kind.PrivateIdentifier) (with_use_under b here here.node_id parent) b in
    cond (same_kind here.kind kind.ClassBody) (with_body used here node) used

-- a node of the kind is left
abbrev pub class_left : AstType → ClassTableBuilder → ClassTableBuilder
class_left k b = cond (same_kind k kind.Class) (popped b) b

-- the nodes below a parent of the kind and the id are walked
abbrev pub noted_below : AstType → ℕ → Forest → ClassTableBuilder → ClassTableBuilder
noted_below parent node nothing b = b
noted_below parent node (tree r k span text marks below id after) b =
    let here : Node = record { kind = k; span = span; text = text; marks = marks; children = below; node_id = id } in
    noted_below parent node after (class_left k (noted_below k id below (class_entered parent node here b)))

-- the builder of a walk that notes classes, with the current class and the lists so far
abbrev pub noting_in : Option ℕ → ClassLists → ClassTableBuilder
noting_in current lists = record { enabled = true; current_class_id = current; classes = lists }

-- the builder that begins it
abbrev pub begun_builder : ClassTableBuilder
begun_builder = noting_in None no_classes

-- a program with the root is walked
abbrev pub program_noted : Node → ClassTableBuilder → ClassTableBuilder
program_noted root b = noted_below root.kind root.node_id root.children b
