-- What the steps of a walk note of labels is what the walk notes.
use Rattle.std.proofs.Common.{◌≡◌, ℕ, List, [], ◌++◌, false, Option, None, Some, refl, ap, ◌∙◌}
use Rattle.semantic_tree.specs.Forest.{Forest}
use Rattle.semantic_tree.specs.Tree.{Tree}
use Rattle.semantic_tree.specs.Faults.{first_fault}
use Rattle.semantic_tree.specs.declared.node.Node.{Node}
use Rattle.semantic_model.specs.Place.{Place, OpenScope}
use Rattle.semantic_model.specs.Label.{label_of, is_jump, is_labelled, unused_labels}
use Rattle.semantic_model.specs.Step.{Step, steps_below, steps_of, root_place, steps}
use Rattle.semantic_model.proofs.form.Shape.{has_form}
use Rattle.semantic_model.proofs.steps.StepFolds.{IsWalk, done-append, steps_done, node_steps_done}
use Rattle.unused_labels.specs.LabelStack.{LabelLists, no_labels}
use Rattle.unused_labels.specs.Labelling.{label_met, node_entered, node_left, walked_below}
use Rattle.unused_labels.specs.LabelSteps.{labelling, labelling_all}
use Rattle.unused_labels.proofs.Innermost.{lists}
use Rattle.unused_labels.proofs.Walked.{finds_all}

-- what is noted of steps is what a walk over their nodes notes
labelling_walks : IsWalk labelling labelling_all (λ parent above. node_entered) node_left (λ k id. walked_below)
labelling_walks = record {
  none = λ w. refl;
  first = λ w x xs. refl;
  opens = λ w p s. refl;
  ends = λ w p s. refl;
  closes = λ w p s. refl;
  enters = λ w p own cursor r node. refl;
  leaves = λ w p. refl;
  no_child = λ k id w. refl;
  child = λ parent above r k span text marks below id after w. refl;
}

pub all_append : (w : LabelLists) (xs ys : List Step) → labelling_all w (xs ++ ys) ≡ labelling_all (labelling_all w xs) ys
all_append = done-append labelling_walks

-- the steps below a place
pub steps_walked : (f : Forest) (p : Place) (own : Option OpenScope) (n cursor : ℕ) (w : LabelLists) → labelling_all w (steps_below p own n cursor f) ≡ walked_below f w
steps_walked = steps_done labelling_walks

pub node_steps_walked : (p : Place) (n : ℕ) (w : LabelLists) → labelling_all w (steps_of p n) ≡ node_left p.node (walked_below p.node.children (node_entered p.node w))
node_steps_walked = node_steps_done labelling_walks

-- a program is no labelled statement and no jump
root_met : (o : Option Node) (id : ℕ) (w : LabelLists) → label_met false false o id w ≡ w
root_met None id w = refl
root_met (Some label) id w = refl

-- the steps of a program
pub all_steps_walked : (p : Tree) → first_fault p ≡ None → labelling_all no_labels (steps p) ≡ lists [] (unused_labels p.root)
all_steps_walked p h =
    let form = has_form p h in
    node_steps_walked (root_place p) 0 no_labels
    ∙ ap (λ k. node_left (record (p.root) { kind = k }) (walked_below p.root.children (label_met (is_jump k) (is_labelled k) (label_of p.root.children) p.root.node_id no_labels))) form.root
    ∙ ap (walked_below p.root.children) (root_met (label_of p.root.children) p.root.node_id no_labels)
    ∙ finds_all p.root
