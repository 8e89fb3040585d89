-- A number that takes another's place.
use Rattle.std.proofs.Common.{◌≡◌, ℕ, ◌<◌, ◌==◌, nat_eq, Bool, true, false, cond, if◌then◌else◌, List, [], ◌∷◌, length, get_or, refl, sym, ap, ◌∙◌}
use Rattle.std.proofs.Math.ListN.{set}
use Rattle.std.proofs.lemmas.List.{get_or-set_same, set-set}
use Rattle.std.proofs.lemmas.Bool.{eqb-true, eqb-false, false_from_ne_true}
use Rattle.indexmap.specs.IndexMap.{insert_entry, shift_remove_entry}
use Rattle.scoping_rows.specs.Flat.{Numbered, put, cut}

-- another number's removal and an insertion come to the same in either order
insert_remove : (old new y : ℕ) → (new == old) ≡ false → (b : Numbered) → shift_remove_entry (nat_eq old) (insert_entry nat_eq b new y) ≡ insert_entry nat_eq (shift_remove_entry (nat_eq old) b) new y
insert_remove old new y apart [] =
    let other : (old == new) ≡ false = false_from_ne_true (old == new) (λ t. eqb-false new old apart (sym (eqb-true old new t))) in
    rw other refl
insert_remove old new y apart (e ∷ b) = by (new == e.0) refl (old == e.0) refl (insert_remove old new y apart b)
  where
    by : (p : Bool) → (new == e.0) ≡ p → (q : Bool) → (old == e.0) ≡ q
        → shift_remove_entry (nat_eq old) (insert_entry nat_eq b new y) ≡ insert_entry nat_eq (shift_remove_entry (nat_eq old) b) new y
        → shift_remove_entry (nat_eq old) (if p then (e.0, y) ∷ b else e ∷ insert_entry nat_eq b new y) ≡ insert_entry nat_eq (cond q b (e ∷ shift_remove_entry (nat_eq old) b)) new y
    by true m true k rest = absurd (eqb-false new old apart (eqb-true new e.0 m ∙ sym (eqb-true old e.0 k)))
    by true m false k rest = rw (k, m) refl
    by false m true k rest = rw k refl
    by false m false k rest = rw (k, m, rest) refl

pub rename_commutes : (bs : List Numbered) (s old new y : ℕ) → (new == old) ≡ false → s < length bs → cut (put bs s new y) s old ≡ put (cut bs s old) s new y
rename_commutes bs s old new y apart within =
    let b = get_or bs s [] in
    rw (get_or-set_same bs s (insert_entry nat_eq b new y) [] within, get_or-set_same bs s (shift_remove_entry (nat_eq old) b) [] within, set-set, set-set)
    (ap (set bs s) (insert_remove old new y apart b))
