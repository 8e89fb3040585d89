-- How many scopes steps open, how many names they declare, and how many references they enter.
use Rattle.std.proofs.Common.{◌≡◌, ℕ, ◌+◌, List, [], ◌∷◌, ◌++◌, length, refl, arith}
use Rattle.semantic_tree.specs.Tree.{Tree}
use Rattle.semantic_model.specs.Declaration.{Declaration}
use Rattle.semantic_model.specs.Step.{Step, entering, opening, header_ending, closing, leaving, steps}
use Rattle.semantic_model.specs.Event.{declared_at, events}
use Rattle.semantic_model.specs.Fold.{Made, start}
use Rattle.semantic_model.specs.Hoist.{run}
use Rattle.semantic_model.proofs.steps.Opened.{openings}
use Rattle.walk_model.proofs.once.Weighing.{declared_weight, step_weight, made_weight, made_weighs}
use Rattle.walk_model.specs.Room.{opened_by, names_declared_by, in_all}

pub all-append : (by : Step → ℕ) (xs ys : List Step) → in_all by (xs ++ ys) ≡ in_all by xs + in_all by ys
all-append by [] ys = omega arith
all-append by (x ∷ xs) ys = omega (arith, all-append by xs ys)

pub openings_are : (ss : List Step) → in_all opened_by ss ≡ openings ss
openings_are [] = refl
openings_are (opening p s ∷ ss) = omega (arith, openings_are ss)
openings_are (entering p ∷ ss) = omega (arith, openings_are ss)
openings_are (header_ending p s ∷ ss) = omega (arith, openings_are ss)
openings_are (closing p s ∷ ss) = omega (arith, openings_are ss)
openings_are (leaving p ∷ ss) = omega (arith, openings_are ss)

-- a weight of one for each declaration
abbrev one_each : ℕ → ℕ
one_each x = 1

declared_count : (ds : List Declaration) → declared_weight one_each ds ≡ length ds
declared_count [] = refl
declared_count (d ∷ ds) = omega (arith, declared_count ds)

steps_count : (ss : List Step) → step_weight one_each ss ≡ in_all names_declared_by ss
steps_count [] = refl
steps_count (s ∷ ss) = omega (arith, declared_count (declared_at s), steps_count ss)

all_count : (ms : List Made) → made_weight one_each ms ≡ length ms
all_count [] = refl
all_count (m ∷ ms) = omega (arith, all_count ms)

-- as many are made as the steps of the program declare
pub made_count : (p : Tree) → length (run start (events (steps p))).made ≡ in_all names_declared_by (steps p)
made_count p = omega (arith, all_count (run start (events (steps p))).made, made_weighs one_each p, steps_count (steps p))
