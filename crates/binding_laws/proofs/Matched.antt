-- The chain of each place but a name's tells of each scope whether its header is still to end.
use Rattle.std.proofs.Common.{◌≡◌, ℕ, List, [], ◌∷◌, None, false}
use Rattle.semantic_tree.specs.Tree.{Tree}
use Rattle.semantic_tree.specs.Faults.{first_fault}
use Rattle.semantic_tree.specs.Views.{is}
use Rattle.semantic_kinds.specs.declared.kind.AstType.TheVariants as kind
use Rattle.semantic_model.specs.Step.{Step, entering, opening, header_ending, closing, leaving, steps}
use Rattle.walk_model.proofs.headers.Headed.{awaiting_past, flags_past, AllMatch, IsHeadedStep, AreHeaded}
use Rattle.walk_model.proofs.headers.HeadedProgram.{program_headed}

abbrev pub IsMatchedStep : List ℕ → Step → Type 0
IsMatchedStep awaiting (entering p) = is kind.BindingIdentifier p.node ≡ false → AllMatch awaiting p.chain
IsMatchedStep awaiting (opening p s) = Unit {0}
IsMatchedStep awaiting (header_ending p s) = Unit {0}
IsMatchedStep awaiting (closing p s) = Unit {0}
IsMatchedStep awaiting (leaving p) = Unit {0}

abbrev pub AreMatched : List ℕ → List Step → Type 0
AreMatched awaiting [] = Unit {0}
AreMatched awaiting (s ∷ more) = IsMatchedStep awaiting s × AreMatched (awaiting_past awaiting s) more

matched_step : (awaiting fs : List ℕ) (s : Step) → IsHeadedStep awaiting fs s → IsMatchedStep awaiting s
matched_step awaiting fs (entering p) h = h.matches
matched_step awaiting fs (opening p s) h = tt
matched_step awaiting fs (header_ending p s) h = tt
matched_step awaiting fs (closing p s) h = tt
matched_step awaiting fs (leaving p) h = tt

matched_steps : (awaiting fs : List ℕ) (ss : List Step) → AreHeaded awaiting fs ss → AreMatched awaiting ss
matched_steps awaiting fs [] h = tt
matched_steps awaiting fs (s ∷ ss) h = (matched_step awaiting fs s h.0, matched_steps (awaiting_past awaiting s) (flags_past fs s) ss h.1)

pub program_matched : (p : Tree) → first_fault p ≡ None → AreMatched [] (steps p)
program_matched p h = matched_steps [] [] (steps p) (program_headed p h)
