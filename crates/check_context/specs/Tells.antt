-- How a check adds what it tells to what was told before.
use Rattle.std.specs.Prelude.{◌≡◌, List, [], ◌∷◌, ◌++◌, Result, Ok, Err}
use Rattle.semantic_diagnostics.specs.declared.diagnostic.Diagnostic.{Diagnostic}

-- the first of the rows are told, behind all that was told before
pub record TellsSome (rows before now : List Diagnostic) : Type 0 where
  pub told : List Diagnostic
  pub left : List Diagnostic
  pub are_first : told ++ left ≡ rows
  pub are_last : now ≡ before ++ told

-- the rows are told, behind all that was told before; for want of memory the first of them
abbrev pub Tells : {A E : Type 0} → Result A E → List Diagnostic → List Diagnostic → List Diagnostic → Type 0
Tells (Ok done) rows before now = now ≡ before ++ rows
Tells (Err want) rows before now = TellsSome rows before now

-- the row that was made is told; where memory was wanting to make it nothing is told, which is a beginning of any rows
abbrev pub TellsMade : {A E : Type 0} → Result Diagnostic E → Result A E → List Diagnostic → List Diagnostic → Type 0
TellsMade (Ok made) result before now = Tells result (made ∷ []) before now
TellsMade (Err want) result before now = (rows : List Diagnostic) → Tells result rows before now

-- all but these of the rows are told, behind all that was told before
pub record IsTelling (rows left before now : List Diagnostic) : Type 0 where
  pub told : List Diagnostic
  pub are_first : told ++ left ≡ rows
  pub are_last : now ≡ before ++ told
