-- How many scopes the look-ups of a program ask, and how many each step of a walk asks.
use Rattle.std.specs.Prelude.{ℕ, ◌+◌, List, [], ◌∷◌}
use Rattle.std.specs.List.{sum_by}
use Rattle.semantic_syntax.specs.Tables.{Tables}
use Rattle.semantic_syntax.specs.Told.{source_of}
use Rattle.semantic_tree.specs.Tree.{Tree}
use Rattle.semantic_model.specs.Count.{probes_in_all}
use Rattle.semantic_model.specs.Declaration.{Declaration}
use Rattle.semantic_syntax.specs.Outcome.{header_probes, last_probes}
use Rattle.semantic_model.specs.Outward.{depth}
use Rattle.semantic_model.specs.Step.{Step, header_ending, steps}
use Rattle.walk_model.specs.WalkState.{WalkState}
use Rattle.walk_model.specs.Walks.{after}

-- of each reference the scopes from its own outward, as it sees them, up to the one that ties it or ends its look-up, or all of them
abbrev pub probes : Tree → ℕ
probes program = probes_in_all (steps program)

-- how deep the scopes of the references lie, all together
abbrev pub depths : Tables → ℕ
depths t = sum_by (λ r. depth t r.scope_id) t.references

-- what the end of a scope's header asks: each reference that waits in the scope or below is looked up as far as the scope
abbrev pub probes_at_header : WalkState → ℕ → ℕ
probes_at_header w c = sum_by (header_probes (source_of w.tables) c) w.waiting

-- what a step asks
abbrev pub probes_of_step : WalkState → Step → ℕ
probes_of_step w (header_ending p s) = probes_at_header w s.number
probes_of_step w _ = 0

-- what steps ask in order, among the written declarations of the program
abbrev pub probes_of_steps : List Declaration → WalkState → List Step → ℕ
probes_of_steps ds w [] = 0
probes_of_steps ds w (step ∷ more) = probes_of_step w step + probes_of_steps ds (after ds w step) more

-- what is asked in the end, for the references that still wait
abbrev pub probes_in_end : WalkState → ℕ
probes_in_end w = sum_by (last_probes (source_of w.tables)) w.waiting
