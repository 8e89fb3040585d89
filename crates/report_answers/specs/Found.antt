-- What an analysis found, as far as a report tells it.
use Rattle.std.specs.Prelude.{ℕ, List}
use Rattle.semantic_syntax.specs.Tables.{Tables}
use Rattle.semantic_tree.specs.Children.{node_count}
use Rattle.semantic_diagnostics.specs.declared.diagnostic.Diagnostic.{Diagnostic}
use Rattle.node_store.specs.NodeList.{NodeList}
use Rattle.class_table.specs.Lists.{ClassLists}
use Rattle.semantic_queries.specs.declared.semantic.SemanticBuilderReturn.{SemanticBuilderReturn}

-- the nodes, the tables, the classes, the labels that no jump names, how many nodes there are, and the diagnostics
pub record Found : Type 0 where
  pub nodes : NodeList
  pub tables : Tables
  pub classes : ClassLists
  pub labels : List ℕ
  pub count : ℕ
  pub diagnostics : List Diagnostic

-- what stands in an analysis
abbrev pub found_in : SemanticBuilderReturn → Found
found_in ret = record {
  nodes = ret.semantic.nodes;
  tables = ret.semantic.scoping;
  classes = ret.semantic.classes;
  labels = ret.semantic.unused_labels.items;
  count = node_count ret.semantic.program.now.root;
  diagnostics = ret.diagnostics;
}
