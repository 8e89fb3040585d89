-- What steps ask, in parts, and a counter that is raised by it.
use Rattle.std.proofs.Common.{◌≡◌, ℕ, ◌+◌, ◌≤◌, List, [], ◌∷◌, ◌++◌, arith}
use Rattle.semantic_syntax.specs.Counts.{raised}
use Rattle.semantic_model.specs.Declaration.{Declaration}
use Rattle.semantic_model.specs.Step.{Step}
use Rattle.walk_model.specs.WalkState.{WalkState}
use Rattle.walk_model.specs.Walks.{after, after_all}
use Rattle.walk_model.specs.Probes.{probes_of_steps}

pub probes-append : (ds : List Declaration) (w : WalkState) (xs ys : List Step) → probes_of_steps ds w (xs ++ ys) ≡ probes_of_steps ds w xs + probes_of_steps ds (after_all ds w xs) ys
probes-append ds w [] ys = omega arith
probes-append ds w (x ∷ xs) ys = omega (arith, probes-append ds (after ds w x) xs ys)

-- some steps and then more are taken at once
pub raised_then : (count first more : ℕ) → raised (raised count first) more ≡ raised count (first + more)
raised_then count first more = omega arith

pub raised_none : (count : ℕ) → raised count 0 ≡ count
raised_none count = omega arith

pub raised_more : (count first more : ℕ) → first ≤ more → raised count first ≤ raised count more
raised_more count first more h = omega (arith, h)
