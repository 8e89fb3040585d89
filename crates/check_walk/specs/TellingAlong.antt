-- What a walker has made and told along steps.
use Rattle.std.specs.Prelude.{◌≡◌, ℕ, List, [], ◌∷◌, Bool, true, false, Some, None}
use Rattle.std.specs.Str.{encode_utf8_all}
use Rattle.semantic_tree.specs.Tree.{Tree}
use Rattle.semantic_model.specs.Cursor.{on_entering}
use Rattle.semantic_model.specs.Declaration.{Declaration}
use Rattle.semantic_model.specs.Event.{written_declarations}
use Rattle.semantic_model.specs.Place.{Place}
use Rattle.semantic_model.specs.ScopeKind.{opened_scope}
use Rattle.semantic_model.specs.Step.{Step, entering, leaving, steps, steps_below, root_place}
use Rattle.walk_model.specs.WalkState.{WalkState, nothing_made}
use Rattle.walk_model.specs.Opens.{open_scope}
use Rattle.walk_model.specs.Walks.{after, after_all}
use Rattle.check_walk.specs.SoFar.{Telling, telling}
use Rattle.check_walk.specs.Telling.{rows_in}

-- a step is done: with checks on, leaving a node tells the conflicts that are left, and the rows of the node
abbrev pub telling_past : (checks : Bool) → (source : List ℕ) → List Declaration → Telling → Step → Telling
telling_past true source ds t (leaving p) = telling t (rows_in true source t.made (leaving p))
telling_past checks source ds t step = record t { made = after ds t.made step }

-- the same of leaving a place alone, whatever is declared
abbrev pub telling_left : (checks : Bool) → (source : List ℕ) → Telling → Place → Telling
telling_left true source t p = telling t (rows_in true source t.made (leaving p))
telling_left false source t p = t

-- steps are done in order
abbrev pub telling_along : (checks : Bool) → (source : List ℕ) → List Declaration → Telling → List Step → Telling
telling_along checks source ds t [] = t
telling_along checks source ds t (step ∷ more) = telling_along checks source ds (telling_past checks source ds t step) more

-- steps are done of which none is told
abbrev pub making : List Declaration → Telling → List Step → Telling
making ds t steps = record t { made = after_all ds t.made steps }

-- the steps do what they do, and nothing is told
abbrev pub AreUntold : List Step → Type 0
AreUntold ss = (checks : Bool) (source : List ℕ) (ds : List Declaration) (t : Telling) → telling_along checks source ds t ss ≡ making ds t ss

-- a node is entered, all below it is walked, and it is left
abbrev pub telling_over : (checks : Bool) → (source : List ℕ) → List Declaration → Telling → Place → ℕ → Telling
telling_over checks source ds t p n =
    telling_past checks source ds
    (telling_along checks source ds (record t { made = after ds t.made (entering p) }) (steps_below p None n (on_entering p.node.kind p.cursor) p.node.children))
    (leaving p)

-- nothing is told, and the root's scope is open
abbrev pub telling_first : Tree → Telling
telling_first program = record { made = open_scope nothing_made (root_place program) (opened_scope (root_place program) 0); said = []; counted = 0 }

-- the root is entered and all below it is walked
abbrev pub telling_within : (checks : Bool) → Tree → Telling
telling_within checks program =
    let p : Place = root_place program in
    let ds : List Declaration = written_declarations (steps program) in
    let t : Telling = telling_first program in
    telling_along checks (encode_utf8_all program.source) ds (record t { made = after ds t.made (entering p) }) (steps_below p (Some (opened_scope p 0)) 1 (on_entering program.root.kind 0) program.root.children)

-- then what waits is settled, and the root is left
abbrev pub telling_whole : (checks : Bool) → Tree → (settled : WalkState) → Telling
telling_whole checks program settled =
    telling_past checks (encode_utf8_all program.source) (written_declarations (steps program)) (record (telling_within checks program) { made = settled }) (leaving (root_place program))
