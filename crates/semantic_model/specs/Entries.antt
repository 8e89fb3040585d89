-- Which entries lists have, and how often.
use Rattle.std.specs.Prelude.{◌≡◌, ℕ, ◌==◌, ◌+◌, List, [], ◌∷◌, Option, Some, None, ◌⊎◌, cond}

-- how often a number stands in a list, and in lists
abbrev pub times : ℕ → List ℕ → ℕ
times n [] = 0
times n (m ∷ ms) = cond (m == n) 1 0 + times n ms

abbrev pub times_in_all : ℕ → List (List ℕ) → ℕ
times_in_all n [] = 0
times_in_all n (ms ∷ mss) = times n ms + times_in_all n mss

abbrev pub or_empty : Option (List ℕ) → List ℕ
or_empty None = []
or_empty (Some ns) = ns

abbrev pub Among : {A : Type 0} → A → List A → Type 0
Among x [] = ⊥
Among x (y ∷ ys) = (y ≡ x) ⊎ Among x ys
