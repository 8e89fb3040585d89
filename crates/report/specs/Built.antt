-- What the analysis of a program gives, as far as a report tells it.
use Rattle.std.specs.Prelude.{List}
use Rattle.semantic_syntax.specs.Tables.{Tables}
use Rattle.semantic_tree.specs.Children.{node_count}
use Rattle.semantic_tree.specs.Tree.{Tree}
use Rattle.semantic_model.specs.Class.{classes}
use Rattle.semantic_model.specs.Label.{unused_labels}
use Rattle.semantic_diagnostics.specs.declared.diagnostic.Diagnostic.{Diagnostic}
use Rattle.class_table.specs.Told.{lists_told}
use Rattle.promise.specs.Kept.{node_list}
use Rattle.report_answers.specs.Found.{Found}

-- what is found in a program of these tables and diagnostics
abbrev pub found_of : Tree → Tables → List Diagnostic → Found
found_of p tables diagnostics = record {
  nodes = node_list p;
  tables = tables;
  classes = lists_told (classes p.root);
  labels = unused_labels p.root;
  count = node_count p.root;
  diagnostics = diagnostics;
}
