-- For how much an analysis makes room.
use Rattle.std.specs.Prelude.{ℕ, unwrap_or, min}
use Rattle.semantic_kinds.specs.declared.role.Role.TheVariants as role
use Rattle.semantic_tree.specs.Children.{single}
use Rattle.semantic_tree.specs.Forest.{Forest, count}
use Rattle.semantic_tree.specs.Tree.{Tree}
use Rattle.semantic_model.specs.Inside.{scopes_in}
use Rattle.semantic_tree.specs.KindCounts.{how_many}
use Rattle.walk_model.specs.Counted.{declares_symbol, is_reference}
use Rattle.semantic_walk.specs.declared.settings.Room.{Room}
use Rattle.semantic.specs.declared.builder.SemanticBuilder.{SemanticBuilder}
use Rattle.semantic_queries.specs.declared.stats.Stats.{Stats}
use Rattle.semantic_queries.specs.Tally.{increased}

-- the counts of a forest
abbrev pub counts_of : Forest → Stats
counts_of f = record { nodes = count f; scopes = scopes_in f; symbols = how_many declares_symbol f; references = how_many is_reference f }

-- scopes, symbols and references with so many thousandths more
abbrev pub with_excess : ℕ → Stats → Stats
with_excess thousandths stats = record stats {
  scopes = increased thousandths stats.scopes;
  symbols = increased thousandths stats.symbols;
  references = increased thousandths stats.references;
}

-- what a builder expects: what it was told, or what the program counts, with the excess
abbrev pub expected : SemanticBuilder → Tree → Stats
expected builder p = unwrap_or builder.stats (with_excess builder.excess_capacity (counts_of (single role.Root p.root)))

-- each cut to the limit
abbrev pub room_within : ℕ → Stats → Room
room_within limit stats = record {
  nodes = min stats.nodes limit;
  scopes = min stats.scopes limit;
  symbols = min stats.symbols limit;
  references = min stats.references limit;
}
