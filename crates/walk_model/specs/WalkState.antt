-- What a walk has made so far.
use Rattle.std.specs.Prelude.{List, []}
use Rattle.semantic_syntax.specs.Tables.{Tables}
use Rattle.semantic_syntax.specs.NodeEntries.{NodeEntries}
use Rattle.semantic_model.specs.Binding.{Binding}
use Rattle.semantic_model.specs.Fold.{Conflict}
use Rattle.semantic_syntax.specs.Outcome.{Pending}

pub record WalkState : Type 0 where
  pub tables : Tables
  -- names that a scope doesn't bind, but knows of
  pub remembered : List Binding
  pub conflicts : List Conflict
  -- what belongs to each node
  pub nodes : NodeEntries
  -- the references that wait for their symbol
  pub waiting : List Pending

abbrev pub no_tables : Tables
no_tables = record { scopes = []; bindings = []; symbols = []; references = []; uses = []; free = []; pure_symbols = [] }

abbrev pub no_entries : NodeEntries
no_entries = record { scopes = []; symbols = []; references = [] }

-- nothing is made yet
abbrev pub nothing_made : WalkState
nothing_made = record { tables = no_tables; remembered = []; conflicts = []; nodes = no_entries; waiting = [] }
