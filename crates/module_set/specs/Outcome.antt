-- What a fallible function gives of what it reads.
use Rattle.std.specs.Prelude.{Result}
use Rattle.tree_json.specs.Outcome.{GivesUnless, IsThisUnless}
use Rattle.module_set.specs.declared.error.LinkError.{LinkError}
use Rattle.module_set.specs.declared.error.LinkError.TheVariants.{Memory}

abbrev pub IsWantOfMemory : LinkError → Type 0
IsWantOfMemory (Memory refused) = Unit {0}
IsWantOfMemory _ = ⊥

-- the result, seen by view, is what was read, unless memory ran out
abbrev pub Gives : {X Y : Type 0} → (X → Y) → Result X LinkError → Result Y LinkError → Type 0
Gives view result read = GivesUnless IsWantOfMemory view result read

-- it is this, or want of memory
abbrev pub IsReadAs : {A : Type 0} → A → Result A LinkError → Type 0
IsReadAs a result = IsThisUnless IsWantOfMemory a result
