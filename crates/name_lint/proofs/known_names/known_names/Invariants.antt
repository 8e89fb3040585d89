use Rattle.std.proofs.Common.{◌≡◌, ◌||◌, ℕ, List, drop}
use Rattle.name_lint.specs.Known.{known_names}
use Rattle.name_lint.specs.Undeclared.{is_known}
use Rattle.name_lint.proofs.known_names.known_names.Given as goal

abbrev pub invariant-loop-word : goal.invariant-loop-word
invariant-loop-word l = (name : List ℕ) → (is_known l.known name || is_known (known_names (drop l.word-index l.words)) name) ≡ is_known (known_names l.words) name
