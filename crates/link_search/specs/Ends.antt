-- The terminals of names, and their numbers.
use Rattle.std.specs.Prelude.{◌≡◌, ℕ, ◌+◌, List, [], ◌∷◌, ◌++◌, Some, map, slice_get}
use Rattle.link_search.specs.Numbering.{Pair}
use Rattle.link_search.specs.declared.target.Target.{Target}
use Rattle.link_search.specs.declared.target.Target.TheVariants.{Name, End}
use Rattle.link_search.specs.declared.terminal.Terminal.{Terminal}
use Rattle.link_search.specs.declared.exports.SetExports.{SetExports}
use Rattle.link_search.specs.Exports.{targets_of}

-- the terminals among targets
abbrev pub ends_in : List Target → List Terminal
ends_in [] = []
ends_in (Name m k ∷ ts) = ends_in ts
ends_in (End t ∷ ts) = t ∷ ends_in ts

-- the terminals to which the names from a number on lead, each with the number of its name
abbrev pub ends_from : SetExports → ℕ → List Pair → List (ℕ × Terminal)
ends_from s n [] = []
ends_from s n (p ∷ ps) = map (λ t. (n, t)) (ends_in (targets_of s p)) ++ ends_from s (n + 1) ps

-- each element keeps its number
abbrev pub Extends : {A : Type 0} → List A → List A → Type 0
Extends {A} old new = (i : ℕ) (x : A) → slice_get old i ≡ Some x → slice_get new i ≡ Some x

-- none has two numbers
abbrev pub AreApart : {A : Type 0} → List A → Type 0
AreApart {A} xs = (i j : ℕ) (x : A) → slice_get xs i ≡ Some x → slice_get xs j ≡ Some x → i ≡ j

-- the same ends, with numbers of the terminals
abbrev pub EndsAreNumbered : List Terminal → List (ℕ × ℕ) → List (ℕ × Terminal) → Type 0
EndsAreNumbered ts [] [] = Unit {0}
EndsAreNumbered ts (e ∷ es) (x ∷ xs) = (e.0 ≡ x.0) × (slice_get ts e.1 ≡ Some x.1) × EndsAreNumbered ts es xs
EndsAreNumbered ts _ _ = ⊥
