-- What the steps of a walk note of labels.
use Rattle.std.specs.Prelude.{List, [], ◌∷◌}
use Rattle.semantic_model.specs.Step.{Step, entering, opening, header_ending, closing, leaving}
use Rattle.unused_labels.specs.LabelStack.{LabelLists}
use Rattle.unused_labels.specs.Labelling.{node_entered, node_left}

-- a step is done
abbrev pub labelling : LabelLists → Step → LabelLists
labelling w (entering p) = node_entered p.node w
labelling w (leaving p) = node_left p.node w
labelling w (opening p s) = w
labelling w (header_ending p s) = w
labelling w (closing p s) = w

-- steps are done in order
abbrev pub labelling_all : LabelLists → List Step → LabelLists
labelling_all w [] = w
labelling_all w (step ∷ more) = labelling_all (labelling w step) more
