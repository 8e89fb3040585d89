-- Where a walk notes nothing.
use Rattle.std.proofs.Common.{◌≡◌, List, [], ◌∷◌, true, false, ◌&&◌, ◌||◌, cond, is_some, refl}
use Rattle.std.proofs.lemmas.Bool.{or_parts}
use Rattle.semantic_kinds.specs.Kinds.{same_kind}
use Rattle.semantic_kinds.specs.declared.kind.AstType.{AstType}
use Rattle.semantic_kinds.specs.declared.kind.AstType.TheVariants as kind
use Rattle.semantic_tree.specs.declared.node.Node.{Node}
use Rattle.semantic_model.specs.Label.{is_labelled, label_of}
use Rattle.class_table.specs.Building.{with_body, with_use_under, popped}
use Rattle.class_table.specs.NotedSteps.{entered_under}
use Rattle.class_table.specs.declared.builder.ClassTableBuilder.{ClassTableBuilder}
use Rattle.unused_labels.specs.LabelStack.{LabelLists, label_left}
use Rattle.unused_labels.specs.Labelling.{node_entered}
use Rattle.unused_labels.proofs.Walked.{others_met}
use Rattle.walk_notes.specs.NoteLists.{NoteLists, noting, leaving, has_label_kind, is_noted, is_noted_behind}

-- neither a class body nor a private identifier
unclassed : (above : List Node) (here : Node) (b : ClassTableBuilder) → same_kind here.kind kind.ClassBody ≡ false → same_kind here.kind kind.PrivateIdentifier ≡ false → entered_under above here b ≡ b
unclassed [] here b body name = refl
unclassed (parent ∷ above) here b body name = λ i.
    let used : ClassTableBuilder = cond (name i) (with_use_under b here here.node_id parent.kind) b in
    cond (body i) (with_body used here parent.node_id) used

no_body : (k : AstType) → has_label_kind k ≡ true → same_kind k kind.ClassBody ≡ false
no_body kind.BreakStatement h = refl
no_body kind.ContinueStatement h = refl
no_body kind.LabeledStatement h = refl
no_body _ h = absurd cc

no_name : (k : AstType) → has_label_kind k ≡ true → same_kind k kind.PrivateIdentifier ≡ false
no_name kind.BreakStatement h = refl
no_name kind.ContinueStatement h = refl
no_name kind.LabeledStatement h = refl
no_name _ h = absurd cc

-- what may have a label is nothing of a class
pub labels_class_nothing : (above : List Node) (here : Node) (b : ClassTableBuilder) → has_label_kind here.kind ≡ true → entered_under above here b ≡ b
labels_class_nothing above here b h = unclassed above here b (no_body here.kind h) (no_name here.kind h)

-- and nothing else has one
pub others_label_nothing : (here : Node) (w : LabelLists) → has_label_kind here.kind ≡ false → node_entered here w ≡ w
others_label_nothing = others_met

-- where nothing is noted on entering
pub enters_nothing : (above : List Node) (here : Node) (x : NoteLists) → is_noted here.kind ≡ false → noting above here x ≡ x
enters_nothing above here x h =
    let other : has_label_kind here.kind ≡ false = (or_parts (has_label_kind here.kind) _ h).0 in
    let rest : (same_kind here.kind kind.ClassBody || same_kind here.kind kind.PrivateIdentifier) ≡ false = (or_parts (has_label_kind here.kind) _ h).1 in
    λ i. record {
      classes = unclassed above here x.classes ((or_parts (same_kind here.kind kind.ClassBody) _ rest).0) ((or_parts (same_kind here.kind kind.ClassBody) _ rest).1) i;
      labels = others_met here x.labels other i;
    }

-- and where nothing is noted on leaving
pub leaves_nothing : (here : Node) (x : NoteLists) → is_noted_behind here.kind ≡ false → leaving here x ≡ x
leaves_nothing here x h = λ i. record {
  classes = cond ((or_parts (is_labelled here.kind) (same_kind here.kind kind.Class) h).1 i) (popped x.classes) x.classes;
  labels = cond ((or_parts (is_labelled here.kind) (same_kind here.kind kind.Class) h).0 i && is_some (label_of here.children)) (label_left x.labels) x.labels;
}

pub ruleset unnoted = (labels_class_nothing, others_label_nothing)

pub ruleset silent = (enters_nothing, leaves_nothing)
