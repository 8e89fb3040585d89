-- The promise of an analysis, whole.
use Rattle.std.specs.Prelude.{◌≡◌, ◌||◌, [], Bool}
use Rattle.semantic_tree.specs.Tree.{Tree}
use Rattle.semantic_model.specs.Label.{unused_labels}
use Rattle.semantic_queries.specs.declared.semantic.SemanticBuilderReturn.{SemanticBuilderReturn}
use Rattle.promise.specs.Analysis.{IsAnalysis, BelongsToNodes}
use Rattle.promise.specs.Kept.{kept_nodes, classes_noted}
use Rattle.promise.specs.SwappedNames.{ComparesNames}

-- what an analysis is asked for beside the tables: to keep the nodes, to note the classes, to tell early errors
pub record AnalysisSettings : Type 0 where
  pub nodes : Bool
  pub classes : Bool
  pub early_errors : Bool

-- what an analysis of the program gives back, by its settings
pub record IsAnalysed (settings : AnalysisSettings) (p : Tree) (ret : SemanticBuilderReturn) : Type 0 where
  -- it is about the program
  pub program : ret.semantic.program.now ≡ p
  -- the tables are those of the definitions and fit the program; the diagnostics are its redeclarations and, where they are asked for, its early errors
  pub analysis : IsAnalysis settings.early_errors p ret.semantic.scoping ret.diagnostics
  -- to each node belongs the scope that it opens, the symbol that it declares, the reference that it is
  pub nodes : BelongsToNodes p ret.semantic.tables
  -- the list of nodes has all of them, each with its parent and the scope where it stands, or none where they aren't kept
  pub node_list : ret.semantic.nodes ≡ kept_nodes settings.nodes p
  -- the classes are those of the program, or none where they aren't noted; for early errors they are noted, too
  pub classes : ret.semantic.classes ≡ classes_noted (settings.classes || settings.early_errors) p
  -- the labels are those that no jump names
  pub labels : ret.semantic.unused_labels.items ≡ unused_labels p.root
  -- the comments are the program's
  pub comments : ret.semantic.comments.now ≡ p.comments
  -- there is no irregular whitespace
  pub whitespace : ret.semantic.irregular_whitespaces.items ≡ []
  -- names are only compared: with two of them swapped in the program its tables are these with the two swapped
  pub names : ComparesNames p ret.semantic.scoping ret.semantic.tables
