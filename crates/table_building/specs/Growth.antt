-- Tables that grow.
use Rattle.std.specs.Prelude.{◌≤◌, length}
use Rattle.semantic_syntax.specs.Tables.{Tables}
use Rattle.walk_model.specs.WalkState.{WalkState}

-- no scope, symbol or reference goes
pub record Grows (t u : Tables) : Type 0 where
  pub scopes : length t.scopes ≤ length u.scopes
  pub symbols : length t.symbols ≤ length u.symbols
  pub references : length t.references ≤ length u.references

-- the walk goes on: its tables grow, and no fewer references wait
pub record Goes (w v : WalkState) : Type 0 where
  pub tables : Grows w.tables v.tables
  pub waiting : length w.waiting ≤ length v.waiting
