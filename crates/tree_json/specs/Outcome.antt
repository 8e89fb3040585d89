-- What a fallible function gives of what it reads.
use Rattle.std.specs.Prelude.{◌≡◌, Result, Ok, Err}
use Rattle.semantic_tree.specs.declared.error.TreeError.{TreeError}
use Rattle.semantic_tree.specs.declared.error.TreeError.TheVariants.{Memory}

infixl 10 ◌>>=◌
abbrev pub ◌>>=◌ : {A B E : Type 0} → Result A E → (A → Result B E) → Result B E
(Ok x) >>= f = f x
(Err e) >>= f = Err e

-- the result, seen by view, is what was read, unless its error is excused
abbrev pub GivesUnless : {X Y E : Type 0} → (E → Type 0) → (X → Y) → Result X E → Result Y E → Type 0
GivesUnless IsExcused view (Ok x) read = read ≡ Ok (view x)
GivesUnless IsExcused view (Err e) read = ¬ IsExcused e → read ≡ Err e

-- it is this, or its error is excused
abbrev pub IsThisUnless : {A E : Type 0} → (E → Type 0) → A → Result A E → Type 0
IsThisUnless IsExcused a (Ok b) = b ≡ a
IsThisUnless IsExcused a (Err e) = IsExcused e

abbrev pub IsWantOfMemory : TreeError → Type 0
IsWantOfMemory (Memory refused) = Unit {0}
IsWantOfMemory _ = ⊥

-- the result, seen by view, is what was read, unless memory ran out
abbrev pub Gives : {X Y : Type 0} → (X → Y) → Result X TreeError → Result Y TreeError → Type 0
Gives view result read = GivesUnless IsWantOfMemory view result read
