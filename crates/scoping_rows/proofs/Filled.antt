-- What slots bind, as one of them changes.
use Rattle.std.proofs.Common.{◌≡◌, ℕ, ◌<◌, ◌≤◌, ◌+◌, ◌==◌, nat_eq, zero, suc, Bool, true, false, cond, if◌then◌else◌, [], ◌∷◌, ◌++◌, Option, None, Some, length, get_or, take, filter, refl, sym, ap, ◌∙◌, ◌-◌, arith, length-append, length-take}
use Rattle.std.specs.Map.{lookup}
use Rattle.std.specs.Option.{option_map_or, option_map, option_to_list}
use Rattle.std.specs.List.{cons_option}
use Rattle.std.proofs.Math.ListN.{set}
use Rattle.std.proofs.lemmas.Bool.{eqb-true, eqb-false, eq-eqb, false_from_ne_true}
use Rattle.std.proofs.lemmas.List.Elements.{filter_map-append}
use Rattle.indexmap.specs.IndexMap.{insert_entry, shift_remove_entry}
use Rattle.scoping_rows.specs.Kept.{rows_without_types}
use Rattle.scoping_rows.specs.Flat.{Numbered, SlotList, filled, slot_binds, StandsAt}

suc_eq : (i j : ℕ) → (i == j) ≡ (suc i == suc j)
suc_eq i j = by (i == j) refl
  where
    by : (b : Bool) → (i == j) ≡ b → b ≡ (suc i == suc j)
    by true e = sym (eq-eqb (suc i) (suc j) (ap suc (eqb-true i j e)))
    by false e = sym (false_from_ne_true (suc i == suc j) (λ t. eqb-false i j e (let p = eqb-true (suc i) (suc j) t in omega (arith, p))))

zero_suc : (j : ℕ) → (zero == suc j) ≡ false
zero_suc j = false_from_ne_true (zero == suc j) (λ t. let p = eqb-true zero (suc j) t in omega (arith, p))

suc_zero : (j : ℕ) → (suc j == zero) ≡ false
suc_zero j = false_from_ne_true (suc j == zero) (λ t. let p = eqb-true (suc j) zero t in omega (arith, p))

-- slots behind the first
later : (x : Option (ℕ × ℕ)) (xs : SlotList) (n j : ℕ) → StandsAt (x ∷ xs) n (Some (suc j)) → StandsAt xs n (Some j)
later x xs n j h i = suc_eq i j ∙ h (suc i)

past : (x : Option (ℕ × ℕ)) (xs : SlotList) (n : ℕ) → StandsAt (x ∷ xs) n None → StandsAt xs n None
past x xs n h i = h (suc i)

behind : (x : Option (ℕ × ℕ)) (xs : SlotList) (n : ℕ) → StandsAt (x ∷ xs) n (Some zero) → StandsAt xs n None
behind x xs n h i = sym (suc_zero i) ∙ h (suc i)

-- the slot at the place binds the number
pub at_position : (xs : SlotList) (n i : ℕ) → StandsAt xs n (Some i) → slot_binds n (get_or xs i None) ≡ true
at_position xs n i h = sym (h i) ∙ eq-eqb i i refl

lookup_skips : (n : ℕ) (x : Option (ℕ × ℕ)) (xs : SlotList) → slot_binds n x ≡ false → lookup (nat_eq n) (filled (x ∷ xs)) ≡ lookup (nat_eq n) (filled xs)
lookup_skips n None xs other = refl
lookup_skips n (Some b) xs other = rw other refl

-- the symbol of a number is that of its slot
pub lookup_filled : (n : ℕ) (xs : SlotList) (o : Option ℕ) → StandsAt xs n o → lookup (nat_eq n) (filled xs) ≡ option_map_or (λ i. option_map (λ b. b.1) (get_or xs i None)) o None
lookup_filled n [] None h = refl
lookup_filled n [] (Some i) h = refl
lookup_filled n (x ∷ xs) None h = lookup_skips n x xs (sym (h 0)) ∙ lookup_filled n xs None (past x xs n h)
lookup_filled n (x ∷ xs) (Some (suc j)) h = lookup_skips n x xs (sym (h 0) ∙ zero_suc j) ∙ lookup_filled n xs (Some j) (later x xs n j h)
lookup_filled n (x ∷ xs) (Some zero) h = by x (at_position (x ∷ xs) n zero h)
  where
    by : (x : Option (ℕ × ℕ)) → slot_binds n x ≡ true → lookup (nat_eq n) (filled (x ∷ xs)) ≡ option_map (λ b. b.1) x
    by None e = absurd (cc)
    by (Some b) e = rw e refl

-- a number bound again keeps its slot
pub filled-fill : (n y i : ℕ) (xs : SlotList) → StandsAt xs n (Some i) → filled (set xs i (Some (n, y))) ≡ insert_entry nat_eq (filled xs) n y
filled-fill n y i [] h = let e = at_position [] n i h in absurd (cc)
filled-fill n y zero (x ∷ xs) h = by x (at_position (x ∷ xs) n zero h)
  where
    by : (x : Option (ℕ × ℕ)) → slot_binds n x ≡ true → (n, y) ∷ filled xs ≡ insert_entry nat_eq (filled (x ∷ xs)) n y
    by None e = absurd (cc)
    by (Some b) e = rw e (ap (λ k. (k, y) ∷ filled xs) (eqb-true n b.0 e))
filled-fill n y (suc i) (x ∷ xs) h = by x (sym (h 0) ∙ zero_suc i) (filled-fill n y i xs (later x xs n i h))
  where
    by : (x : Option (ℕ × ℕ)) → slot_binds n x ≡ false → filled (set xs i (Some (n, y))) ≡ insert_entry nat_eq (filled xs) n y
        → cons_option x (filled (set xs i (Some (n, y)))) ≡ insert_entry nat_eq (filled (x ∷ xs)) n y
    by None other rest = rest
    by (Some b) other rest = rw other (ap (λ t. b ∷ t) rest)

-- a number unbound leaves its slot
pub filled-clear : (n i : ℕ) (xs : SlotList) → StandsAt xs n (Some i) → filled (set xs i None) ≡ shift_remove_entry (nat_eq n) (filled xs)
filled-clear n i [] h = let e = at_position [] n i h in absurd (cc)
filled-clear n zero (x ∷ xs) h = by x (at_position (x ∷ xs) n zero h)
  where
    by : (x : Option (ℕ × ℕ)) → slot_binds n x ≡ true → filled xs ≡ shift_remove_entry (nat_eq n) (filled (x ∷ xs))
    by None e = absurd (cc)
    by (Some b) e = rw e refl
filled-clear n (suc i) (x ∷ xs) h = by x (sym (h 0) ∙ zero_suc i) (filled-clear n i xs (later x xs n i h))
  where
    by : (x : Option (ℕ × ℕ)) → slot_binds n x ≡ false → filled (set xs i None) ≡ shift_remove_entry (nat_eq n) (filled xs)
        → cons_option x (filled (set xs i None)) ≡ shift_remove_entry (nat_eq n) (filled (x ∷ xs))
    by None other rest = rest
    by (Some b) other rest = rw other (ap (λ t. b ∷ t) rest)

remove_absent : (n : ℕ) (bs : Numbered) → lookup (nat_eq n) bs ≡ None → shift_remove_entry (nat_eq n) bs ≡ bs
remove_absent n [] h = refl
remove_absent n (b ∷ bs) h = by (n == b.0) h (remove_absent n bs)
  where
    by : (t : Bool) → cond t (Some b.1) (lookup (nat_eq n) bs) ≡ None → (lookup (nat_eq n) bs ≡ None → shift_remove_entry (nat_eq n) bs ≡ bs)
        → cond t bs (b ∷ shift_remove_entry (nat_eq n) bs) ≡ b ∷ bs
    by true h rest = absurd (cc)
    by false h rest = ap (λ t. b ∷ t) (rest h)

insert_absent : (n y : ℕ) (bs : Numbered) → lookup (nat_eq n) bs ≡ None → insert_entry nat_eq bs n y ≡ bs ++ (n, y) ∷ []
insert_absent n y [] h = refl
insert_absent n y (b ∷ bs) h = by (n == b.0) h (insert_absent n y bs)
  where
    by : (t : Bool) → cond t (Some b.1) (lookup (nat_eq n) bs) ≡ None → (lookup (nat_eq n) bs ≡ None → insert_entry nat_eq bs n y ≡ bs ++ (n, y) ∷ [])
        → (if t then (b.0, y) ∷ bs else b ∷ insert_entry nat_eq bs n y) ≡ b ∷ (bs ++ (n, y) ∷ [])
    by true h rest = absurd (cc)
    by false h rest = ap (λ t. b ∷ t) (rest h)

-- a number that is not bound
module _ (n : ℕ) (xs : SlotList) (h : StandsAt xs n None) where
  pub filled-push : (y : ℕ) → filled (xs ++ Some (n, y) ∷ []) ≡ insert_entry nat_eq (filled xs) n y
  filled-push y = filter_map-append (λ x. x) xs (Some (n, y) ∷ []) ∙ sym (insert_absent n y (filled xs) (lookup_filled n xs None h))

  pub filled-unbound : filled xs ≡ shift_remove_entry (nat_eq n) (filled xs)
  filled-unbound = sym (remove_absent n (filled xs) (lookup_filled n xs None h))

-- behind empty slots the first that is filled comes first
from_gap : (r : ℕ) (b : ℕ × ℕ) (xs : SlotList) → get_or xs r None ≡ Some b → ((i : ℕ) → i < r → get_or xs i None ≡ None) → filled xs ≡ b ∷ filled (set xs r None)
from_gap r b [] is gap = absurd (cc)
from_gap zero b (x ∷ xs) is gap = rw is refl
from_gap (suc r) b (x ∷ xs) is gap = rw (gap 0 (omega arith)) (from_gap r b xs is (λ i l. gap (suc i) (omega arith)))

-- a binding may move over empty slots
pub filled-move : (w r : ℕ) (b : ℕ × ℕ) (xs : SlotList) → w ≤ r → get_or xs r None ≡ Some b → ((i : ℕ) → w ≤ i → i < r → get_or xs i None ≡ None)
    → filled (set (set xs r None) w (Some b)) ≡ filled xs
filled-move w r b [] l is gap = absurd (cc)
filled-move zero zero b (x ∷ xs) l is gap = rw is refl
filled-move zero (suc r) b (x ∷ xs) l is gap = rw (gap 0 (omega arith) (omega arith)) (sym (from_gap r b xs is (λ i k. gap (suc i) (omega arith) (omega arith))))
filled-move (suc w) zero b (x ∷ xs) l is gap = absurd (omega arith)
filled-move (suc w) (suc r) b (x ∷ xs) l is gap = ap (cons_option x) (filled-move w r b xs (omega arith) is (λ i m k. gap (suc i) (omega arith) (omega arith)))

module _ (keep : ℕ × ℕ → Bool) where
  -- a binding that is not kept may go
  pub kept-clear : (r : ℕ) (b : ℕ × ℕ) (xs : SlotList) → get_or xs r None ≡ Some b → keep b ≡ false → filter keep (filled (set xs r None)) ≡ filter keep (filled xs)
  kept-clear r b [] is goes = absurd (cc)
  kept-clear zero b (x ∷ xs) is goes = rw is (rw goes refl)
  kept-clear (suc r) b (x ∷ xs) is goes = by x (kept-clear r b xs is goes)
    where
      by : (x : Option (ℕ × ℕ)) → filter keep (filled (set xs r None)) ≡ filter keep (filled xs)
          → filter keep (cons_option x (filled (set xs r None))) ≡ filter keep (cons_option x (filled xs))
      by None rest = rest
      by (Some d) rest = rw rest refl

  pub kept_all : (xs : SlotList) → ((i : ℕ) → i < length xs → option_map_or keep (get_or xs i None) true ≡ true) → filter keep (filled xs) ≡ filled xs
  kept_all [] h = refl
  kept_all (x ∷ xs) h = by x (h 0 (omega arith)) (kept_all xs (λ i l. h (suc i) (omega arith)))
    where
      by : (x : Option (ℕ × ℕ)) → option_map_or keep x true ≡ true → filter keep (filled xs) ≡ filled xs → filter keep (cons_option x (filled xs)) ≡ cons_option x (filled xs)
      by None e rest = rest
      by (Some d) e rest = rw e (ap (λ t. d ∷ t) rest)

all_empty : (xs : SlotList) → ((i : ℕ) → i < length xs → get_or xs i None ≡ None) → (i : ℕ) → get_or xs i None ≡ None
all_empty [] h i = refl
all_empty (x ∷ xs) h zero = h 0 (omega arith)
all_empty (x ∷ xs) h (suc i) = all_empty xs (λ k l. h (suc k) (omega arith)) i

none_filled : (xs : SlotList) → ((i : ℕ) → i < length xs → get_or xs i None ≡ None) → filled xs ≡ []
none_filled [] h = refl
none_filled (x ∷ xs) h = rw (h 0 (omega arith)) (none_filled xs (λ k l. h (suc k) (omega arith)))

-- empty slots at the end may go
pub filled-take : (w : ℕ) (xs : SlotList) → ((i : ℕ) → w ≤ i → i < length xs → get_or xs i None ≡ None) → filled (take w xs) ≡ filled xs
filled-take zero [] h = refl
filled-take (suc w) [] h = refl
filled-take zero (x ∷ xs) h = sym (none_filled (x ∷ xs) (λ i l. h i (omega arith) l))
filled-take (suc w) (x ∷ xs) h = ap (cons_option x) (filled-take w xs (λ i l k. h (suc i) (omega arith) (omega arith)))

pub slot-take : (w : ℕ) (xs : SlotList) → ((i : ℕ) → w ≤ i → i < length xs → get_or xs i None ≡ None) → (i : ℕ) → get_or (take w xs) i None ≡ get_or xs i None
slot-take zero [] h i = refl
slot-take (suc w) [] h i = refl
slot-take zero (x ∷ xs) h i = sym (all_empty (x ∷ xs) (λ k l. h k (omega arith) l) i)
slot-take (suc w) (x ∷ xs) h zero = refl
slot-take (suc w) (x ∷ xs) h (suc i) = slot-take w xs (λ k l m. h (suc k) (omega arith) (omega arith)) i

-- how many slots are filled
pub count_set : (xs : SlotList) (i : ℕ) (x : Option (ℕ × ℕ)) → i < length xs
    → length (filled (set xs i x)) + length (option_to_list (get_or xs i None)) ≡ length (filled xs) + length (option_to_list x)
count_set [] i x l = absurd (omega arith)
count_set (d ∷ xs) zero x l = by d x
  where
    by : (d x : Option (ℕ × ℕ)) → length (cons_option x (filled xs)) + length (option_to_list d) ≡ length (cons_option d (filled xs)) + length (option_to_list x)
    by None None = refl
    by None (Some a) = omega arith
    by (Some b) None = omega arith
    by (Some b) (Some a) = refl
count_set (d ∷ xs) (suc i) x l = by d (count_set xs i x (omega arith))
  where
    by : (d : Option (ℕ × ℕ)) → length (filled (set xs i x)) + length (option_to_list (get_or xs i None)) ≡ length (filled xs) + length (option_to_list x)
        → length (cons_option d (filled (set xs i x))) + length (option_to_list (get_or xs i None)) ≡ length (cons_option d (filled xs)) + length (option_to_list x)
    by None e = e
    by (Some b) e = omega (arith, e)

pub count_filled : (xs : SlotList) → length (filled xs) ≤ length xs
count_filled [] = omega arith
count_filled (x ∷ xs) = by x (count_filled xs)
  where
    by : (x : Option (ℕ × ℕ)) → length (filled xs) ≤ length xs → length (cons_option x (filled xs)) ≤ suc (length xs)
    by None l = omega (arith, l)
    by (Some b) l = omega (arith, l)

-- how many slots are empty, as one more comes, and as the last ones go
module _ (empty : ℕ) (xs : SlotList) (is : empty + length (filled xs) ≡ length xs) where
  pub empty-push : (b : ℕ × ℕ) → empty + length (filled (xs ++ Some b ∷ [])) ≡ length (xs ++ Some b ∷ [])
  empty-push b = omega (arith, is, ap length (filter_map-append (λ x. x) xs (Some b ∷ [])), length-append (filled xs) (b ∷ []), length-append xs (Some b ∷ []))

  module _ (i : ℕ) (same : filled (take i xs) ≡ filled xs) where
    pub dropped_below : length xs - i ≤ empty
    dropped_below = omega (arith, is, ap length same, count_filled (take i xs), length-take i xs)

    pub empty-take : empty - (length xs - i) + length (filled (take i xs)) ≡ length (take i xs)
    empty-take = omega (arith, is, ap length same, dropped_below, length-take i xs)

-- no symbol goes with types where no row says so
pub without_none : (bs : Numbered) → rows_without_types [] bs ≡ bs
without_none [] = refl
without_none (b ∷ bs) = ap (λ t. b ∷ t) (without_none bs)
