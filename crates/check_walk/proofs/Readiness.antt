-- A recursion over a program knows at each place what checks ask.
use Rattle.std.proofs.Common.{◌≡◌, ℕ, ◌+◌, List, ◌∷◌, None, sym, ap, ◌∙◌}
use Rattle.std.specs.Str.{encode_utf8_all}
use Rattle.semantic_kinds.specs.declared.role.Role.{Role}
use Rattle.semantic_tree.specs.Faults.{first_fault}
use Rattle.semantic_tree.specs.Forest.{Forest, tree, count, numbered}
use Rattle.semantic_tree.specs.Tree.{Tree, IsNumbered, IsPreorder}
use Rattle.semantic_tree.specs.declared.node.Node.{Node}
use Rattle.semantic_tree.proofs.Forests.{below_same}
use Rattle.semantic_tree.proofs.Preorder.{root_in_preorder}
use Rattle.semantic_model.specs.Place.{Place}
use Rattle.semantic_model.specs.Step.{root_place}
use Rattle.walk_model.specs.WalkState.{WalkState}
use Rattle.class_table.specs.Noted.{begun_builder, class_entered, class_left, noted_below}
use Rattle.class_table.specs.NotedSteps.{entered_under}
use Rattle.class_table.specs.declared.builder.ClassTableBuilder.{ClassTableBuilder}
use Rattle.check_walk.specs.Apart.{HasApart}
use Rattle.check_walk.specs.Ready.{IsReadyAt, IsReadyBetween}
use Rattle.check_walk.proofs.ClassForm.{classes_formed}
use Rattle.check_walk.proofs.Conditions.{program_in_source, under_sound, entered_sound, below_sound, left_sound}
use Rattle.check_walk.proofs.ShownClasses.{begins, comes, turns, child_comes}

pub ready_begins : (p : Tree) → first_fault p ≡ None → IsNumbered p.root → (w : WalkState) → HasApart w → IsReadyAt (encode_utf8_all p.source) w begun_builder (root_place p)
ready_begins p h e w a =
    let formed = classes_formed p h in
    record { around = begins; shape = formed.0; below = formed.1; in_source = program_in_source p h; order = root_in_preorder p.root e; apart = a; elements = tt }

pub ready_enters : (source : List ℕ) (w v : WalkState) (b : ClassTableBuilder) (p : Place) → IsReadyAt source w b p → HasApart v → IsReadyBetween source v (entered_under p.path p.node b) p p.node.children
ready_enters source w v b p h a = record {
  classes = comes b p h.shape h.below h.around;
  spans = h.in_source.below;
  next = p.node.node_id + 1;
  order = ap (λ (n : Node). n.children) h.order;
  apart = a;
  elements = entered_sound source p.path p.node b h.in_source.below h.elements;
}

module _ (source : List ℕ) (w v : WalkState) (b : ClassTableBuilder) (p : Place) (r : Role) (here : Node) (after : Forest) where
  abbrev Left : Type 0
  Left = IsReadyBetween source w b p (tree r here.kind here.span here.text here.marks here.children here.node_id after)

  pub ready_child : (child : Place) → child.node ≡ here → child.path ≡ p.node ∷ p.path → Left → HasApart v → IsReadyAt source v b child
  ready_child child is path h a =
      let k = child_comes b p r here after h.classes in
      let (inner, own, rest) = below_same h.order in
      let order : IsPreorder here = ap (λ (f : Forest). record here { children = f }) (ap (λ m. numbered (m + 1) here.children) (sym own) ∙ inner) in
      rw (is, path) (record { around = h.classes.around; shape = k.0; below = k.1; in_source = record { span = h.spans.0; below = h.spans.1.0 }; order = order; apart = a; elements = h.elements })

  pub ready_behind : Left → HasApart v → IsReadyBetween source v (class_left here.kind (noted_below here.kind here.node_id here.children (class_entered p.node.kind p.node.node_id here b))) p after
  ready_behind h a =
      let (inner, own, rest) = below_same h.order in
      let into : ClassTableBuilder = class_entered p.node.kind p.node.node_id here b in
      let into_sound = under_sound source p.node.kind p.node.node_id here b h.spans.1.0 h.elements in
      record {
        classes = turns b p r here after h.classes;
        spans = h.spans.1.1;
        next = h.next + 1 + count here.children;
        order = rest;
        apart = a;
        elements = left_sound source here.kind (noted_below here.kind here.node_id here.children into) (below_sound source here.kind here.node_id here.children into h.spans.1.0 into_sound);
      }
