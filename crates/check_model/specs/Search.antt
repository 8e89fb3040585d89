-- Searches along lists, and rows that stand under a condition.
use Rattle.std.specs.Prelude.{List, [], ◌∷◌, ◌++◌, Bool, false, Option, Some, None, if◌then◌else◌, reverse}
use Rattle.std.specs.List.{find}

-- these rows, under a condition
abbrev pub rows_if : {A : Type 0} → Bool → List A → List A
rows_if test rows = if test then rows else []

-- one row, under a condition
abbrev pub row_if : {A : Type 0} → Bool → A → List A
row_if test row = if test then row ∷ [] else []

-- the rows of what was found
abbrev pub rows_of_some : {A B : Type 0} → (A → List B) → Option A → List B
rows_of_some rows None = []
rows_of_some rows (Some found) = rows found

-- what was found has the test
abbrev pub passes : {A : Type 0} → (A → Bool) → Option A → Bool
passes test None = false
passes test (Some found) = test found

-- the first element, if there is one
abbrev pub first : {A : Type 0} → List A → Option A
first [] = None
first (x ∷ xs) = Some x

-- the only element, if there is one alone
abbrev pub only : {A : Type 0} → List A → Option A
only [] = None
only (x ∷ []) = Some x
only (x ∷ y ∷ xs) = None

-- the last element, if there is one
abbrev pub last : {A : Type 0} → List A → Option A
last xs = first (reverse xs)

-- the last element that has the test
abbrev pub find_last : {A : Type 0} → (A → Bool) → List A → Option A
find_last test xs = find test (reverse xs)

-- the first element that has the test, before any at which the search ends
abbrev pub find_before : {A : Type 0} → (A → Bool) → (A → Bool) → List A → Option A
find_before ends test [] = None
find_before ends test (x ∷ xs) = if ends x then None else (if test x then Some x else find_before ends test xs)

-- the rows of each element, which looks at those before it
abbrev pub each_after : {A B : Type 0} → (List A → A → List B) → List A → List A → List B
each_after rows earlier [] = []
each_after rows earlier (x ∷ xs) = rows earlier x ++ each_after rows (earlier ++ x ∷ []) xs

-- the rows of each element, which looks at the one before it and the one after it
abbrev pub each_between : {A B : Type 0} → (Option A → A → Option A → List B) → Option A → List A → List B
each_between rows before [] = []
each_between rows before (x ∷ xs) = rows before x (first xs) ++ each_between rows (Some x) xs

-- each element but the last with its successor
abbrev pub neighbours : {A : Type 0} → List A → List (A × A)
neighbours [] = []
neighbours (x ∷ []) = []
neighbours (x ∷ y ∷ xs) = (x, y) ∷ neighbours (y ∷ xs)

-- the list from the first element on that has the test
abbrev pub onward : {A : Type 0} → (A → Bool) → List A → List A
onward test [] = []
onward test (x ∷ xs) = if test x then x ∷ xs else onward test xs
