-- What the steps of a walk note is what the walk notes.
use Rattle.std.proofs.Common.{◌≡◌, ℕ, List, ◌++◌, Option, None, refl, ap, ◌∙◌}
use Rattle.semantic_tree.specs.Forest.{Forest}
use Rattle.semantic_tree.specs.Tree.{Tree}
use Rattle.semantic_tree.specs.Faults.{first_fault}
use Rattle.semantic_model.specs.Place.{Place, OpenScope}
use Rattle.semantic_model.specs.Class.{classes}
use Rattle.semantic_model.specs.Step.{Step, steps_below, steps_of, root_place, steps}
use Rattle.semantic_model.proofs.steps.StepFolds.{IsWalk, done-append, steps_done, node_steps_done}
use Rattle.class_table.specs.Lists.{no_classes}
use Rattle.class_table.specs.Noted.{class_entered, class_left, noted_below, begun_builder, program_noted}
use Rattle.class_table.specs.NotedSteps.{entered_under, noting_step, noting_all}
use Rattle.class_table.specs.Told.{lists_told}
use Rattle.class_table.specs.declared.builder.ClassTableBuilder.{ClassTableBuilder}
use Rattle.class_table.proofs.Noting.{fits_none}
use Rattle.class_table.proofs.Staying.{notes_other}
use Rattle.class_table.proofs.BodiesStand.{bodies_stand}

-- what is noted of steps is what a walk over their nodes notes
noting_walks : IsWalk noting_step noting_all class_entered (λ here. class_left here.kind) noted_below
noting_walks = record {
  none = λ b. refl;
  first = λ b x xs. refl;
  opens = λ b p s. refl;
  ends = λ b p s. refl;
  closes = λ b p s. refl;
  enters = λ b p own cursor r node. refl;
  leaves = λ b p. refl;
  no_child = λ k id b. refl;
  child = λ parent above r k span text marks below id after b. refl;
}

pub all_append : (b : ClassTableBuilder) (xs ys : List Step) → noting_all b (xs ++ ys) ≡ noting_all (noting_all b xs) ys
all_append = done-append noting_walks

-- the steps below a place
pub steps_note : (f : Forest) (p : Place) (own : Option OpenScope) (n cursor : ℕ) (b : ClassTableBuilder) → noting_all b (steps_below p own n cursor f) ≡ noted_below p.node.kind p.node.node_id f b
steps_note = steps_done noting_walks

pub node_steps_note : (p : Place) (n : ℕ) (b : ClassTableBuilder) → noting_all b (steps_of p n) ≡ class_left p.node.kind (noted_below p.node.kind p.node.node_id p.node.children (entered_under p.path p.node b))
node_steps_note = node_steps_done noting_walks

-- the walk over a program
pub noted_classes : (p : Tree) → first_fault p ≡ None → program_noted p.root begun_builder ≡ record begun_builder { classes = lists_told (classes p.root) }
noted_classes p h = let stand = bodies_stand p h in notes_other p.root.children stand.2 stand.1 p.root.kind p.root.node_id None no_classes fits_none

pub all_steps_note : (p : Tree) → first_fault p ≡ None → noting_all begun_builder (steps p) ≡ record begun_builder { classes = lists_told (classes p.root) }
all_steps_note p h =
    let stand = bodies_stand p h in
    node_steps_note (root_place p) 0 begun_builder ∙ ap (λ k. class_left k (program_noted p.root begun_builder)) stand.0 ∙ noted_classes p h
