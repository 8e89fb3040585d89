-- References that wait in tables.
use Rattle.std.specs.Prelude.{◌<◌, List, length}
use Rattle.std.specs.List.{AllByRecursion}
use Rattle.semantic_syntax.specs.Tables.{Tables}
use Rattle.semantic_syntax.specs.Outcome.{Pending}

-- the reference stands in the tables, and its look-up scope too
pub record IsWaiting (t : Tables) (e : Pending) : Type 0 where
  pub scope : e.lookup_scope < length t.scopes
  pub reference : e.reference < length t.references

abbrev pub AreWaiting : Tables → List Pending → Type 0
AreWaiting t es = AllByRecursion (IsWaiting t) es
