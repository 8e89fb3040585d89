-- What holds of each step.
use Rattle.std.specs.Prelude.{List, [], ◌∷◌}
use Rattle.semantic_model.specs.Step.{Step}

module _ (P : Step → Type 0) where
  abbrev pub EachStep : List Step → Type 0
  EachStep [] = Unit {0}
  EachStep (s ∷ more) = P s × EachStep more
