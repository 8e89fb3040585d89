-- Parts of the proof that the tables of a program fit it.
use Rattle.std.proofs.Common.{◌≡◌, ℕ, suc, List, [], ◌∷◌, refl, map}
use Rattle.semantic_tree.specs.Tree.{Tree}
use Rattle.semantic_model.specs.Step.{steps}
use Rattle.semantic_model.specs.Reference.{Occurrence}
use Rattle.semantic_model.specs.Event.{Event}
use Rattle.semantic_model.specs.Fold.{State}
use Rattle.semantic_model.specs.Tie.{ties}
use Rattle.semantic_model.specs.TablesOf.{scopes, tables_of, entry_of}
use Rattle.semantic_model.specs.Fits.{frame_of, stand_of, stand_in_tree}

-- the scopes are the tree's
pub frames : (program : Tree) → map frame_of (tables_of program).scopes ≡ map frame_of (scopes (steps program))
frames program = refl

-- each reference has its node and scope
pub stands : (final : State) (es : List Event) (n : ℕ) (rs : List Occurrence) → map stand_of (map entry_of (ties final es n rs)) ≡ map stand_in_tree rs
stands final es n [] = refl
stands final es n (r ∷ rs) = λ i. stand_in_tree r ∷ stands final es (suc n) rs i
