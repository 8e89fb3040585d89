-- Outcomes that name what exists, in the words of the definitions, and what they settle.
use Rattle.std.specs.Prelude.{◌≡◌, ℕ, ◌<◌, false, List, [], ◌++◌, take, drop}
use Rattle.std.specs.List.{AllByRecursion, sum_by}
use Rattle.semantic_syntax.specs.Source.{Source}
use Rattle.semantic_syntax.specs.Told.{source_of}
use Rattle.semantic_syntax.specs.Outcome.{Pending, Outcome, means, is_free, waits, is_below, header_probes, staying}
use Rattle.walk_model.specs.WalkState.{WalkState}
use Rattle.walk_model.specs.Settles.{settle}

-- the symbol, or the scope, is one of so many
abbrev pub IsOutcomeWithin : ℕ → ℕ → Outcome → Type 0
IsOutcomeWithin symbols scopes (means y) = y < symbols
IsOutcomeWithin symbols scopes is_free = Unit {0}
IsOutcomeWithin symbols scopes (waits s) = s < scopes

-- past the end of the references that wait
abbrev pub no_pending : Pending
no_pending = record { name = []; reference = 0; lookup_scope = 0 }

-- the references that wait from a position on get their outcomes; the others wait on
abbrev pub settled_from : WalkState → ℕ → List Outcome → WalkState
settled_from w start outcomes = record w {
  tables = settle w.tables (drop start w.waiting) outcomes;
  waiting = take start w.waiting ++ staying (drop start w.waiting) outcomes;
}

-- how many scopes the end of the scope's header asks for the references that wait from a position on
abbrev pub probes_from : WalkState → (start scope : ℕ) → ℕ
probes_from w start c = sum_by (header_probes (source_of w.tables) c) (drop start w.waiting)

-- the references wait neither in the scope nor below it
abbrev pub AreOutside : Source → ℕ → List Pending → Type 0
AreOutside source c es = AllByRecursion (λ e. is_below source c e ≡ false) es
