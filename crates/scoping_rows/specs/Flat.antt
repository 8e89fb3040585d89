-- What scopes bind, each binding in a slot of its scope, and one list of entries with the places of the slots.
use Rattle.std.specs.Prelude.{◌≡◌, ◌<◌, ℕ, drop, MatchOption, true, List, slice_index_or, ◌==◌, ◌&&◌, Bool, false, filter_map, nat_eq, Option, None, slice_set, [], ◌∷◌, cond, zero, suc, take, if◌then◌else◌}
use Rattle.std.specs.Option.{option_map_or}
use Rattle.indexmap.specs.IndexMap.{insert_entry, shift_remove_entry}
use Rattle.std.specs.Map.{lookup}

-- from the pair of a scope and a name's number to the place of a slot
abbrev pub Entries : Type 0
Entries = List ((ℕ × ℕ) × ℕ)

-- pairs of a name's number and a symbol
abbrev pub Numbered : Type 0
Numbered = List (ℕ × ℕ)

-- the symbol under the number, if there is a number and it has one
abbrev pub bound_under : Option ℕ → Numbered → Option ℕ
bound_under number es = option_map_or (λ n. lookup (nat_eq n) es) number None

-- the slots of a scope, in the order of binding; one whose binding went is empty
abbrev pub SlotList : Type 0
SlotList = List (Option (ℕ × ℕ))

-- whether two keys are equal
abbrev pub key_eq : ℕ × ℕ → ℕ × ℕ → Bool
key_eq a b = (a.0 == b.0) && (a.1 == b.1)

-- what the slots bind
abbrev pub filled : SlotList → Numbered
filled xs = filter_map (λ x. x) xs

-- whether the slot binds the number
abbrev pub slot_binds : ℕ → Option (ℕ × ℕ) → Bool
slot_binds n x = option_map_or (λ b. n == b.0) x false

-- whether it is the place, if any
abbrev pub is_position : ℕ → Option ℕ → Bool
is_position i position = option_map_or (λ j. i == j) position false

-- the slot at the place, if any, binds the number, and no other does
abbrev pub StandsAt : SlotList → ℕ → Option ℕ → Type 0
StandsAt xs n position = (i : ℕ) → is_position i position ≡ slot_binds n (slice_index_or xs i None)

-- the entries tell for each number where the scope binds it, if it does
abbrev pub HasPositions : Entries → ℕ → SlotList → Type 0
HasPositions es s xs = (n : ℕ) → StandsAt xs n (lookup (key_eq (s, n)) es)

-- each number stands in one slot at most
abbrev pub IsOnce : SlotList → Type 0
IsOnce xs = (n : ℕ) → (position : Option ℕ) × StandsAt xs n position

-- how many slots of a scope lie in the scope itself and have no entries, since they are searched all at once
abbrev pub near : ℕ
near = 8

-- the slots without what the first of them bind
abbrev pub hollow : ℕ → SlotList → SlotList
hollow k [] = []
hollow zero (x ∷ xs) = x ∷ xs
hollow (suc k) (x ∷ xs) = None ∷ hollow k xs

-- the slots that have entries, at their places
abbrev pub far : SlotList → SlotList
far xs = hollow near xs

-- the place is one of the first ones that bind the number, if any does
abbrev pub IsNearPlace : SlotList → ℕ → Option ℕ → Type 0
IsNearPlace xs n position = MatchOption position ((i : ℕ) → i < near → slot_binds n (slice_index_or xs i None) ≡ false)
    (λ i. slot_binds n (slice_index_or xs i None) ≡ true)

-- what the first slot from the place on binds that binds something, and the place behind it
abbrev pub IsNextBound : SlotList → ℕ → Option (ℕ × (ℕ × ℕ)) → Type 0
IsNextBound xs start next = MatchOption next (filled (drop start xs) ≡ [])
    (λ r. filled (drop start xs) ≡ r.1 ∷ filled (drop r.0 xs))

-- the entries tell the places of the slots behind the first ones
pub record IsIndexed (es : Entries) (s : ℕ) (xs : SlotList) : Type 0 where
  pub places : HasPositions es s (far xs)
  pub once : IsOnce xs

-- and so for all scopes
abbrev pub AreIndexed : Entries → List SlotList → Type 0
AreIndexed es rows = (s : ℕ) → IsIndexed es s (slice_index_or rows s [])

-- of the other scopes the entries tell the same
abbrev pub KeepsElsewhere : Entries → Entries → ℕ → Type 0
KeepsElsewhere old new s = (t n : ℕ) → (s == t) ≡ false → lookup (key_eq (t, n)) new ≡ lookup (key_eq (t, n)) old

-- the entries tell of one key something else than before
abbrev pub Retells : Entries → Entries → ℕ × ℕ → Option ℕ → Type 0
Retells old new k position = (q : ℕ × ℕ) → lookup (key_eq q) new ≡ cond (key_eq k q) position (lookup (key_eq q) old)

-- what each scope binds, with the number bound in one of them
abbrev pub put : List Numbered → ℕ → ℕ → ℕ → List Numbered
put bs s n y = slice_set bs s (insert_entry nat_eq (slice_index_or bs s []) n y)

-- with the number unbound in one of them
abbrev pub cut : List Numbered → ℕ → ℕ → List Numbered
cut bs s n = slice_set bs s (shift_remove_entry (nat_eq n) (slice_index_or bs s []))

-- with the number moved from one to another, where it is bound
abbrev pub moved_number : List Numbered → ℕ → ℕ → ℕ → List Numbered
moved_number bs from to n = option_map_or (λ y. cut (put bs to n y) from n) (lookup (nat_eq n) (slice_index_or bs from [])) bs

-- with the old number unbound in one of them and the new one bound to the symbol; equal numbers stay as they are
abbrev pub renumbered : List Numbered → ℕ → ℕ → ℕ → ℕ → List Numbered
renumbered bs s old new y = if new == old then bs else put (cut bs s old) s new y

-- the entries of the first k slots of one scope are another's
pub record IsRekeyed (old new : Entries) (from to : ℕ) (xs : SlotList) (k : ℕ) : Type 0 where
  pub source : HasPositions new from (hollow k xs)
  pub target : HasPositions new to (take k xs)
  pub elsewhere : (t n : ℕ) → (from == t) ≡ false → (to == t) ≡ false → lookup (key_eq (t, n)) new ≡ lookup (key_eq (t, n)) old
