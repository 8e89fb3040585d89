-- A name that is given to a reference that has none.
use Rattle.std.proofs.Common.{◌≡◌, ℕ, ◌<◌, suc, zero, arith, List, [], ◌∷◌, Option, Some, None, length, map, get_or, slice_set, replicate, false, ap, ◌∙◌, refl}
use Rattle.std.specs.Option.{is_some}
use Rattle.std.proofs.lemmas.List.{map-set}
use Rattle.semantic_syntax.specs.declared.texts.Ident.{Ident}
use Rattle.scoping_rows.specs.Names.{name_of}
use Rattle.report_lines.specs.FreeNames.{name_shown, named_once}

shown_none : (names : List (Option Ident)) (i : ℕ) → i < length names → get_or names i None ≡ None → get_or (map name_shown names) i (Some []) ≡ None
shown_none [] i inside none = absurd (omega arith)
shown_none (name ∷ names) zero inside none = ap name_shown none
shown_none (name ∷ names) (suc i) inside none = shown_none names i (omega arith) none

none_there : (x : Option Ident) → is_some x ≡ false → x ≡ None
none_there None none = refl
none_there (Some name) none = absurd (cc)

pub set_once : (names : List (Option Ident)) (i : ℕ) (name : Ident) → i < length names → is_some (get_or names i None) ≡ false
    → map name_shown (slice_set names i (Some name)) ≡ named_once (map name_shown names) i (name_of name)
set_once names i name inside none =
    let here : get_or (map name_shown names) i (Some []) ≡ None = shown_none names i inside (none_there (get_or names i None) none) in
    map-set name_shown names i (Some name) ∙ rw here refl

-- no reference has a name
pub none_shown : (count : ℕ) → map name_shown (replicate count None) ≡ replicate count None
none_shown zero = refl
none_shown (suc count) = ap (λ names. None ∷ names) (none_shown count)
