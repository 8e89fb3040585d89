-- What the steps of a walk note of classes.
use Rattle.std.specs.Prelude.{List, [], ◌∷◌}
use Rattle.semantic_tree.specs.declared.node.Node.{Node}
use Rattle.semantic_model.specs.Step.{Step, entering, opening, header_ending, closing, leaving}
use Rattle.class_table.specs.Noted.{class_entered, class_left}
use Rattle.class_table.specs.declared.builder.ClassTableBuilder.{ClassTableBuilder}

-- a node is entered below these nodes, parent first; a root notes nothing
abbrev pub entered_under : List Node → Node → ClassTableBuilder → ClassTableBuilder
entered_under [] here b = b
entered_under (parent ∷ above) here b = class_entered parent.kind parent.node_id here b

-- a step is done
abbrev pub noting_step : ClassTableBuilder → Step → ClassTableBuilder
noting_step b (entering p) = entered_under p.path p.node b
noting_step b (leaving p) = class_left p.node.kind b
noting_step b (opening p s) = b
noting_step b (header_ending p s) = b
noting_step b (closing p s) = b

-- steps are done in order
abbrev pub noting_all : ClassTableBuilder → List Step → ClassTableBuilder
noting_all b [] = b
noting_all b (step ∷ more) = noting_all (noting_step b step) more
