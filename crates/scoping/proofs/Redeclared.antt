-- The declarations of a symbol, as one is dropped.
use Rattle.std.proofs.Common.{◌≡◌, List, [], ◌∷◌, Option, None, Some, refl}
use Rattle.semantic_syntax.specs.declared.spans.Span.{Span}
use Rattle.semantic_syntax.specs.declared.references.Redeclaration.{Redeclaration}
use Rattle.semantic_syntax.specs.Tables.{Name}
use Rattle.scoping_rows.specs.Row.{Row, symbol_of_row}
use Rattle.scoping_rows.specs.Redeclared.{elsewhere, row_declared_by, row_without_declaration, row_or_stays}
use Rattle.scoping.specs.Redeclared.{symbol_left, without_declaration, or_stays}

shown_declared : (names : List Name) (y : Row) (ds : List Redeclaration) → symbol_of_row names (row_declared_by y ds) ≡ symbol_left (symbol_of_row names y) ds
shown_declared names y [] = refl
shown_declared names y (d ∷ ds) = refl

pub shown_without : (names : List Name) (y : Row) (span : Span) → symbol_of_row names (row_without_declaration y span) ≡ without_declaration (symbol_of_row names y) span
shown_without names y span = by y.redeclarations
  where
    by : (o : Option (List Redeclaration)) → symbol_of_row names (row_or_stays y span o) ≡ or_stays (symbol_of_row names y) span o
    by None = refl
    by (Some ds) = shown_declared names y (elsewhere span ds)

name_declared : (y : Row) (ds : List Redeclaration) → (row_declared_by y ds).name ≡ y.name
name_declared y [] = refl
name_declared y (d ∷ ds) = refl

pub name_kept : (y : Row) (span : Span) → (row_without_declaration y span).name ≡ y.name
name_kept y span = by y.redeclarations
  where
    by : (o : Option (List Redeclaration)) → (row_or_stays y span o).name ≡ y.name
    by None = refl
    by (Some ds) = name_declared y (elsewhere span ds)
