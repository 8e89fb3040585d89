-- The first of some declarations, and the last.
use Rattle.std.proofs.Common.{◌≡◌, ◌-◌, ◌<◌, ◌≤◌, List, [], ◌∷◌, Some, get_or, length, reverse, refl, ap, ◌∙◌, arith}
use Rattle.std.proofs.lemmas.Bool.{lt-ltb, le-ltb}
use Rattle.std.proofs.lemmas.List.{get_or-reverse, length-reverse}
use Rattle.semantic_syntax.specs.Tables.{Name}
use Rattle.semantic_syntax.specs.declared.references.Redeclaration.{Redeclaration}
use Rattle.semantic_diagnostics.specs.Names.{redeclaration}
use Rattle.check_model.specs.Exports.{first_and_last_rows}
use Rattle.check_model.specs.Search.{first, last, rows_if, rows_of_some}

first_at : {A : Type 0} (xs : List A) (d : A) → 0 < length xs → first xs ≡ Some (get_or xs 0 d)
first_at [] d h = absurd (omega (arith, h))
first_at (x ∷ xs) d h = refl

last_at : {A : Type 0} (xs : List A) (d : A) → 0 < length xs → last xs ≡ Some (get_or xs (length xs - 1) d)
last_at xs d h =
    let some : 0 < length (reverse xs) = omega (arith, h, length-reverse xs) in
    let place : length xs - 1 - 0 ≡ length xs - 1 = omega arith in
    first_at (reverse xs) d some ∙ ap (λ x. Some x) (get_or-reverse xs 0 d h ∙ ap (λ k. get_or xs k d) place)

module _ (name : Name) (entries : List Redeclaration) where
  pub too_few : length entries < 2 → first_and_last_rows name entries ≡ []
  too_few h =
      ap (λ b. rows_if b (rows_of_some (λ (one : Redeclaration). rows_of_some (λ (two : Redeclaration). redeclaration name one.span two.span ∷ []) (last entries)) (first entries)))
      (le-ltb 1 (length entries) (omega (arith, h)))

  pub two_ends : (one two : Redeclaration) → 2 ≤ length entries → first_and_last_rows name entries ≡ redeclaration name (get_or entries 0 one).span (get_or entries (length entries - 1) two).span ∷ []
  two_ends one two h =
      let some : 0 < length entries = omega (arith, h) in
      ap (λ b. rows_if b (rows_of_some (λ (one : Redeclaration). rows_of_some (λ (two : Redeclaration). redeclaration name one.span two.span ∷ []) (last entries)) (first entries)))
      (lt-ltb 1 (length entries) (omega (arith, h)))
      ∙ (λ j. rows_of_some (λ (one : Redeclaration). rows_of_some (λ (two : Redeclaration). redeclaration name one.span two.span ∷ []) (last_at entries two some j)) (first_at entries one some j))

pub ruleset ends = (too_few)
