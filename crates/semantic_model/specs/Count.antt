-- How many scopes the lookups of a program ask.
use Rattle.std.specs.Prelude.{ℕ, ◌+◌, List, [], ◌∷◌}
use Rattle.semantic_model.specs.Step.{Step}
use Rattle.semantic_model.specs.Reference.{Occurrence, references}
use Rattle.semantic_model.specs.Event.{Event, events}
use Rattle.semantic_model.specs.Fold.{State, start}
use Rattle.semantic_model.specs.Hoist.{run}
use Rattle.semantic_syntax.specs.Lookup.{probes_in}
use Rattle.semantic_model.specs.Tie.{answers}

abbrev probes_by : State → List Event → List Occurrence → ℕ
probes_by final es [] = 0
probes_by final es (r ∷ rs) = probes_in r.name r.way (answers final es r) + probes_by final es rs

abbrev pub probes_in_all : List Step → ℕ
probes_in_all steps = let es : List Event = events steps in probes_by (run start es) es (references steps)
