-- The analysis of a program: its tables and diagnostics, and what belongs to its nodes.
use Rattle.std.specs.Prelude.{◌≡◌, List, Bool}
use Rattle.semantic_syntax.specs.Tables.{Tables}
use Rattle.semantic_syntax.specs.NodeEntries.{NodeEntries}
use Rattle.semantic_tree.specs.Tree.{Tree}
use Rattle.semantic_model.specs.Step.{steps}
use Rattle.semantic_model.specs.Fits.{Fits}
use Rattle.semantic_model.specs.Moment.{UsesAreTies, StandsInOneList, BindingsAreSymbols, ListsBeginWithOwn}
use Rattle.semantic_model.specs.NodeTable.{node_tables}
use Rattle.semantic_model.specs.TablesOf.{tables_of}
use Rattle.semantic_diagnostics.specs.declared.diagnostic.Diagnostic.{Diagnostic}
use Rattle.walk_model.specs.Noted.{pairs_of}
use Rattle.check_model.specs.DiagnosticsOf.{diagnostics_of}

-- the tables fit the program
abbrev pub FitsProgram : Tree → Tables → Type 0
FitsProgram p t = Fits p t (node_tables (steps p))

-- what belongs to each node: the scope that it opens, the symbol that it declares, the reference that it is
pub record BelongsToNodes (p : Tree) (nodes : NodeEntries) : Type 0 where
  pub scopes : nodes.scopes ≡ pairs_of (node_tables (steps p)).scopes
  pub symbols : nodes.symbols ≡ pairs_of (node_tables (steps p)).symbols
  pub references : nodes.references ≡ pairs_of (node_tables (steps p)).references

-- the analysis of the program: its tables, which fit it, what holds of them right after, and its diagnostics, with early errors where they are checked
pub record IsAnalysis (checks : Bool) (p : Tree) (t : Tables) (diagnostics : List Diagnostic) : Type 0 where
  -- the tables are those of the definitions, whole
  pub tables : t ≡ tables_of p
  -- they fit the program and what belongs to its nodes
  pub fits : FitsProgram p t
  -- the uses of a symbol are the references of which it is the symbol, each once
  pub uses : UsesAreTies t
  -- each reference stands in one list, of uses or of a free name, once
  pub lists : StandsInOneList t
  -- what a scope binds is a symbol of that name and scope, and none is bound twice
  pub bindings : BindingsAreSymbols t
  -- a list of redeclarations has two or more, of which the first is the symbol's own declaration
  pub redeclarations : ListsBeginWithOwn t
  -- the diagnostics are those of the definitions, whole and in order
  pub told_of : diagnostics ≡ diagnostics_of checks p
