-- A search for a difference goes on behind a node that is the same.
use Rattle.std.proofs.Common.{◌≡◌, ℕ, suc, ◌+◌, ◌-◌, ◌<◌, true, Some, cond, ap, sym, ◌∙◌, arith}
use Rattle.semantic_model.specs.Analysis.{Analysis}
use Rattle.rename_model.specs.Same.{is_same_at, first_difference}

pub goes_on : (a b : Analysis) (from count : ℕ) → from < count → is_same_at a b from ≡ true → first_difference a b (from + 1) (count - (from + 1)) ≡ first_difference a b from (count - from)
goes_on a b from count h same =
    let left : count - from ≡ suc (count - (from + 1)) = omega arith in
    sym (ap (first_difference a b from) left ∙ ap (λ t. cond t (first_difference a b (from + 1) (count - (from + 1))) (Some from)) same)
