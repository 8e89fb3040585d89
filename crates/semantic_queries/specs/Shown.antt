-- The analysis that tables show.
use Rattle.std.specs.Prelude.{ℕ, List, map}
use Rattle.semantic_syntax.specs.NodeEntries.{NodeEntries}
use Rattle.semantic_syntax.specs.Tables.{Tables}
use Rattle.semantic_model.specs.NodeTable.{Belongs}
use Rattle.semantic_model.specs.Analysis.{Analysis}

abbrev pub belonging : (ℕ × ℕ) → Belongs
belonging e = record { node = e.0; number = e.1 }

-- nodes with their numbers, as pairs
abbrev pub entries : List Belongs → List (ℕ × ℕ)
entries bs = map (λ b. (b.node, b.number)) bs

-- tables, and what belongs to nodes, as an analysis
abbrev pub shown : Tables → NodeEntries → Analysis
shown t nodes = record {
  tables = t;
  owns = record { scopes = map belonging nodes.scopes; symbols = map belonging nodes.symbols; references = map belonging nodes.references };
}
