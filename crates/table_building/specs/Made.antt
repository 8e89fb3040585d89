-- What the walk has made so far, in the words of its definition.
use Rattle.std.specs.Prelude.{ℕ, ◌<◌, List, map, length}
use Rattle.std.specs.List.{AllByRecursion}
use Rattle.resolver.specs.Terms.{pending_of}
use Rattle.semantic_model.specs.Binding.{Binding}
use Rattle.walk_model.specs.WalkState.{WalkState}
use Rattle.table_building.specs.Waiting.{AreWaiting}
use Rattle.table_building.specs.declared.declared.Declared.TheInside.{Inside}

abbrev pub walk_state : Inside → WalkState
walk_state d = record {
  tables = d.scoping;
  remembered = d.hoisting_variables;
  conflicts = d.conflicts;
  nodes = d.tables;
  waiting = map pending_of d.pending;
}

-- each symbol is one of so many
abbrev pub AreSymbols : ℕ → List Binding → Type 0
AreSymbols count bs = AllByRecursion (λ b. b.symbol < count) bs

-- the symbols that are remembered exist, and what waits is a reference in a scope
pub record IsSound (d : Inside) : Type 0 where
  pub remembered : AreSymbols (length d.scoping.symbols) d.hoisting_variables
  pub waiting : AreWaiting d.scoping (map pending_of d.pending)
