-- What an analysis of a program says of the program with two names swapped.
use Rattle.std.specs.Prelude.{◌≡◌}
use Rattle.semantic_syntax.specs.Tables.{Name, Tables}
use Rattle.semantic_syntax.specs.NodeEntries.{NodeEntries}
use Rattle.semantic_tree.specs.Renamed.{swapped_tree}
use Rattle.semantic_tree.specs.Tree.{Tree}
use Rattle.semantic_model.specs.Swap.{IsSwappable, swapped_tables}
use Rattle.semantic_model.specs.TablesOf.{tables_of}
use Rattle.promise.specs.Analysis.{BelongsToNodes}

-- names are only compared: of all names but the empty one, `arguments` and `eval`, the program with two swapped has the tables with these two swapped, and the same belongs to its nodes
pub record ComparesNames (p : Tree) (t : Tables) (nodes : NodeEntries) : Type 0 where
  pub tables : (a b : Name) → IsSwappable a → IsSwappable b → tables_of (swapped_tree a b p) ≡ swapped_tables a b t
  pub at_nodes : (a b : Name) → IsSwappable a → IsSwappable b → BelongsToNodes (swapped_tree a b p) nodes
