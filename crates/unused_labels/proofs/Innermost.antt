-- The innermost labelled statement of a label.
use Rattle.std.proofs.Common.{◌≡◌, ℕ, zero, suc, ◌-◌, ◌<◌, Bool, true, false, ◌||◌, List, [], ◌∷◌, ◌++◌, Option, Some, None, length, map, drop, take, get_or, slice_get, option_map, refl, ap, subst, ◌∙◌, arith}
use Rattle.std.proofs.Math.ListN.{set}
use Rattle.std.proofs.lemmas.List.{length-map, take-map}
use Rattle.std.proofs.lemmas.Option.{slice_get-map}
use Rattle.std.specs.List.{list_any}
use Rattle.std.specs.Str.{chars, bytes_eq}
use Rattle.semantic_syntax.specs.Tables.{Name}
use Rattle.semantic_syntax.proofs.Truth.{or_true}
use Rattle.unused_labels.specs.declared.labels.LabeledScope.{LabeledScope}
use Rattle.unused_labels.specs.OpenNames.{names_around, next_or_first, last_place}
use Rattle.unused_labels.specs.LabelStack.{Labelled, LabelLists, label_seen, is_label_named, innermost_used, if_unused, label_left}

neither : (a b : Bool) → (a || b) ≡ false → (a ≡ false) × (b ≡ false)
neither false b h = (refl, h)
neither true b h = absurd cc

-- where no statement has the label, none is used
pub unmoved : (name : Name) (ls : List Labelled) → list_any (is_label_named name) ls ≡ false → innermost_used name ls ≡ ls
unmoved name [] h = refl
unmoved name (l ∷ ls) h = let e = neither (is_label_named name l) (list_any (is_label_named name) ls) h in rw (e.1, e.0) refl

-- where no label has the name
pub last_none : (name : Name) (items : List LabeledScope) → last_place name (names_around items) ≡ None → list_any (is_label_named name) (map label_seen items) ≡ false
last_none name [] h = refl
last_none name (l ∷ ls) h = by (last_place name (names_around ls)) refl h (λ e. last_none name ls e)
  where
    here : (b : Bool) → next_or_first None b ≡ None → list_any (is_label_named name) (map label_seen ls) ≡ false → (b || list_any (is_label_named name) (map label_seen ls)) ≡ false
    here true e none = absurd cc
    here false e none = none

    by : (o : Option ℕ) → last_place name (names_around ls) ≡ o → next_or_first o (bytes_eq (chars l.name.text.now) name) ≡ None
        → (last_place name (names_around ls) ≡ None → list_any (is_label_named name) (map label_seen ls) ≡ false) → (is_label_named name (label_seen l) || list_any (is_label_named name) (map label_seen ls)) ≡ false
    by (Some k) e n rest = absurd cc
    by None e n rest = here (bytes_eq (chars l.name.text.now) name) n (rest e)

-- the statement at the place has the label, and none further inward
pub record IsInnermost (name : Name) (items : List LabeledScope) (i : ℕ) : Type 0 where
  pub within : i < length items
  pub named : (x : LabeledScope) → x ≡ get_or items i x → is_label_named name (label_seen x) ≡ true
  pub none : list_any (is_label_named name) (map label_seen (drop (suc i) items)) ≡ false

pub last_is : (name : Name) (items : List LabeledScope) (i : ℕ) → last_place name (names_around items) ≡ Some i → IsInnermost name items i
last_is name [] i h = absurd cc
last_is name (l ∷ ls) i h = by (last_place name (names_around ls)) refl h (λ k e. last_is name ls k e)
  where
    here : (b : Bool) → bytes_eq (chars l.name.text.now) name ≡ b → next_or_first None b ≡ Some i → list_any (is_label_named name) (map label_seen ls) ≡ false → IsInnermost name (l ∷ ls) i
    here true e s none =
        let first : 0 ≡ i = cc in
        subst (IsInnermost name (l ∷ ls)) first (record { within = omega arith; named = λ x t. ap (λ (y : LabeledScope). is_label_named name (label_seen y)) t ∙ e; none = none })
    here false e s none = absurd cc

    next : (k : ℕ) → Some (suc k) ≡ Some i → IsInnermost name ls k → IsInnermost name (l ∷ ls) i
    next k s inner =
        let place : suc k ≡ i = cc in
        let within = inner.within in
        subst (IsInnermost name (l ∷ ls)) place (record { within = omega (arith, within); named = λ x t. inner.named x t; none = inner.none })

    by : (o : Option ℕ) → last_place name (names_around ls) ≡ o → next_or_first o (bytes_eq (chars l.name.text.now) name) ≡ Some i
        → ((k : ℕ) → last_place name (names_around ls) ≡ Some k → IsInnermost name ls k) → IsInnermost name (l ∷ ls) i
    by (Some k) e s inner = next k s (inner k e)
    by None e s inner = here (bytes_eq (chars l.name.text.now) name) refl s (last_none name ls e)

some_has : (name : Name) (items : List LabeledScope) (i : ℕ) (x : LabeledScope) → i < length items → x ≡ get_or items i x
    → is_label_named name (label_seen x) ≡ true → list_any (is_label_named name) (map label_seen items) ≡ true
some_has name [] i x h s e = absurd (omega arith)
some_has name (l ∷ ls) zero x h s e = let e2 : is_label_named name (label_seen l) ≡ true = rw s at e in rw e2 refl
some_has name (l ∷ ls) (suc i) x h s e = rw (some_has name ls i x (omega arith) s e) (or_true (is_label_named name (label_seen l)))

-- the last statement that has the label is used
pub moved : (name : Name) (items : List LabeledScope) (i : ℕ) (x : LabeledScope) → i < length items → x ≡ get_or items i x
    → is_label_named name (label_seen x) ≡ true
    → list_any (is_label_named name) (map label_seen (drop (suc i) items)) ≡ false
    → map label_seen (set items i (record x { used = true })) ≡ innermost_used name (map label_seen items)
moved name [] i x h s e n = absurd (omega arith)
moved name (l ∷ ls) zero x h s e n = let e2 : is_label_named name (label_seen l) ≡ true = rw s at e in rw (s, n, e2) refl
moved name (l ∷ ls) (suc i) x h s e n =
    rw (some_has name ls i x (omega arith) s e) (ap (λ rest. label_seen l ∷ rest) (moved name ls i x (omega arith) s e n))

-- its name stays
pub names_stay : (items : List LabeledScope) (i : ℕ) (x : LabeledScope) → i < length items → x ≡ get_or items i x → names_around (set items i (record x { used = true })) ≡ names_around items
names_stay [] i x h s = absurd (omega arith)
names_stay (l ∷ ls) zero x h s = ap (λ (y : LabeledScope). chars y.name.text.now ∷ names_around ls) s
names_stay (l ∷ ls) (suc i) x h s = ap (λ rest. chars l.name.text.now ∷ rest) (names_stay ls i x (omega arith) s)

abbrev pub lists : List Labelled → List ℕ → LabelLists
lists around unused = record { around = around; unused = unused }

-- leaving the innermost statement, of the statements and those that were left unused
pub parted : (items rest : List LabeledScope) (o : Option LabeledScope) (unused now : List ℕ)
    → rest ≡ take (length items - 1) items
    → o ≡ slice_get items (length items - 1)
    → now ≡ unused ++ if_unused (option_map label_seen o)
    → lists (map label_seen rest) now ≡ label_left (lists (map label_seen items) unused)
parted items rest o unused now taken last listed =
    rw (taken, listed, last, length-map, take-map, slice_get-map) refl
