-- How many nodes of a tree open scopes, may declare symbols or are references.
use Rattle.std.specs.Prelude.{◌≡◌, ℕ, ◌+◌, ◌*◌, ◌/◌, ◌≤◌, ◌^◌, ◌-◌, length, min}
use Rattle.semantic_syntax.specs.Tables.{Tables}
use Rattle.semantic_tree.specs.Forest.{Forest, count}
use Rattle.semantic_model.specs.Inside.{scopes_in}
use Rattle.semantic_tree.specs.KindCounts.{how_many}
use Rattle.walk_model.specs.Counted.{declares_symbol, is_reference}
use Rattle.semantic_queries.specs.declared.stats.Stats.{Stats}

-- the counts of a forest
pub record IsCount (stats : Stats) (f : Forest) : Type 0 where
  pub nodes : stats.nodes ≡ count f
  pub scopes : stats.scopes ≡ scopes_in f
  pub symbols : stats.symbols ≡ how_many declares_symbol f
  pub references : stats.references ≡ how_many is_reference f

-- the tables have so many scopes and references, and no more symbols
pub record IsSizeOf (stats : Stats) (t : Tables) : Type 0 where
  pub scopes : stats.scopes ≡ length t.scopes
  pub symbols : length t.symbols ≤ stats.symbols
  pub references : stats.references ≡ length t.references

-- a number and so many thousandths of it, rounded down, within the limit of a count
abbrev pub increased : ℕ → ℕ → ℕ
increased thousandths n = min (n * (1000 + thousandths) / 1000) (2 ^ 32 - 1)

-- a guess is right where its nodes, scopes and references are the actual ones, and there are symbols enough
pub record IsAccurate (guess actual : Stats) : Type 0 where
  pub nodes : guess.nodes ≡ actual.nodes
  pub scopes : guess.scopes ≡ actual.scopes
  pub symbols : actual.symbols ≤ guess.symbols
  pub references : guess.references ≡ actual.references
