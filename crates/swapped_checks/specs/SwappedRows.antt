-- Rows of early errors that are told with other names.
use Rattle.std.specs.Prelude.{List, [], ◌∷◌}
use Rattle.semantic_syntax.specs.declared.spans.Span.{Span}
use Rattle.semantic_syntax.specs.Tables.{Name}
use Rattle.semantic_diagnostics.specs.declared.diagnostic.Diagnostic.{Diagnostic}
use Rattle.semantic_diagnostics.specs.Names.{redeclaration, undefined_export}

module _ (f : Name → Name) where
  -- the same row; or the row on a name that is declared again, or exported but not declared, told of the other name at the same places
  pub data IsToldAgain : Diagnostic → Diagnostic → Type 0 where
    told_the_same : (row : Diagnostic) → IsToldAgain row row
    redeclared_by_name : (name : Name) (first second : Span) → IsToldAgain (redeclaration name first second) (redeclaration (f name) first second)
    exported_by_name : (name : Name) (span : Span) → IsToldAgain (undefined_export name span) (undefined_export (f name) span)

  -- so many rows, in this order
  abbrev pub AreToldAgain : List Diagnostic → List Diagnostic → Type 0
  AreToldAgain [] [] = Unit {0}
  AreToldAgain [] (row ∷ rows) = ⊥
  AreToldAgain (row ∷ rows) [] = ⊥
  AreToldAgain (one ∷ rows) (other ∷ others) = IsToldAgain one other × AreToldAgain rows others
