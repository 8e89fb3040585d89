-- What it means that a walk gives what the definitions say.
use Rattle.std.specs.Prelude.{◌≡◌}
use Rattle.semantic_tree.specs.Tree.{Tree}
use Rattle.semantic_model.specs.Step.{steps}
use Rattle.semantic_model.specs.Event.{events}
use Rattle.semantic_model.specs.Fold.{start}
use Rattle.semantic_model.specs.Hoist.{run}
use Rattle.semantic_model.specs.TablesOf.{tables_of}
use Rattle.semantic_model.specs.NodeTable.{node_tables}
use Rattle.walk_model.specs.WalkState.{WalkState}
use Rattle.walk_model.specs.Noted.{entries_of, pairs_of}

-- what is declared: bindings, symbols, conflicts
pub record HasDeclared (p : Tree) (w : WalkState) : Type 0 where
  pub bindings : w.tables.bindings ≡ (tables_of p).bindings
  pub symbols : w.tables.symbols ≡ (tables_of p).symbols
  pub pure_symbols : w.tables.pure_symbols ≡ (tables_of p).pure_symbols
  pub conflicts : w.conflicts ≡ (run start (events (steps p))).conflicts
  pub nodes : w.nodes.symbols ≡ entries_of (node_tables (steps p)).symbols

-- what is opened: the scopes with their flags
pub record HasOpened (p : Tree) (w : WalkState) : Type 0 where
  pub scopes : w.tables.scopes ≡ (tables_of p).scopes
  pub nodes : w.nodes.scopes ≡ entries_of (node_tables (steps p)).scopes

-- what is referred to: the references with their symbols, and the lists of uses and of free references
pub record HasReferred (p : Tree) (w : WalkState) : Type 0 where
  pub references : w.tables.references ≡ (tables_of p).references
  pub uses : w.tables.uses ≡ (tables_of p).uses
  pub free : w.tables.free ≡ (tables_of p).free
  pub nodes : w.nodes.references ≡ entries_of (node_tables (steps p)).references

-- no node opens two scopes, is declared twice or is two references
pub record NotesOnce (p : Tree) (w : WalkState) : Type 0 where
  pub scopes : w.nodes.scopes ≡ pairs_of (node_tables (steps p)).scopes
  pub symbols : w.nodes.symbols ≡ pairs_of (node_tables (steps p)).symbols
  pub references : w.nodes.references ≡ pairs_of (node_tables (steps p)).references
