-- Entries whose nodes rise.
use Rattle.std.proofs.Common.{◌≡◌, Equal, ℕ, zero, suc, ◌+◌, ◌-◌, ◌<◌, ◌≤◌, ◌≢◌, List, [], ◌∷◌, ◌++◌, length, get_or, set, Some, Result, Ok, Err, nat_eq, inl, inr, append-nil, refl, sym, ap, ◌∙◌, arith}
use Rattle.std.specs.Prelude.{slice_get, MatchResult}
use Rattle.std.specs.List.Sorted.{IsBinarySearchResult, IsSearchInRange, IsNonDecreasingBy}
use Rattle.std.specs.Map.{lookup}
use Rattle.std.specs.Ordering.{nat_cmp, ordering_index}
use Rattle.std.proofs.lemmas.Bool.{cases_lt}
use Rattle.std.proofs.lemmas.Bool.Decides.{nat_tests}
use Rattle.std.proofs.lemmas.Cmp.{ranked}
use Rattle.std.proofs.lemmas.List.Sorted.{IsNonDecreasingBy-from_default}
use Rattle.std.proofs.lemmas.Option.{get_or_from_slice_get}
use Rattle.indexmap.specs.IndexMap.{insert_entry}
use Rattle.semantic_syntax.specs.NodeEntries.{node_at, AreRising, AreBefore, HasNone, IsPositionOf}

module _ {X : Type 0} where
  -- what isn't in front is told by the rest alone
  pub lookup_behind : (es fs : List (ℕ × X)) (k : ℕ) → HasNone es k → lookup (nat_eq k) (es ++ fs) ≡ lookup (nat_eq k) fs
  lookup_behind [] fs k none = refl
  lookup_behind (e ∷ es) fs k none = grind (arith, nat_tests, none 0 (omega arith), lookup_behind es fs k (λ i l. none (suc i) (omega (arith, l))))

  -- what isn't in front is inserted into the rest
  pub insert_behind : (es fs : List (ℕ × X)) (k : ℕ) (v : X) → HasNone es k → insert_entry nat_eq (es ++ fs) k v ≡ es ++ insert_entry nat_eq fs k v
  insert_behind [] fs k v none = refl
  insert_behind (e ∷ es) fs k v none = grind (arith, nat_tests, none 0 (omega arith), insert_behind es fs k v (λ i l. none (suc i) (omega (arith, l))))

  -- the node of an entry, read off the entry
  pub node_of_entry : (es : List (ℕ × X)) (i : ℕ) (d : ℕ × X) → i < length es → node_at es i ≡ (get_or es i d).0
  node_of_entry [] i d within = absurd (omega (arith, within))
  node_of_entry (e ∷ es) zero d within = refl
  node_of_entry (e ∷ es) (suc i) d within = node_of_entry es i d (omega (arith, within))

  node_in_front : (es fs : List (ℕ × X)) (i : ℕ) → i < length es → node_at (es ++ fs) i ≡ node_at es i
  node_in_front [] fs i within = absurd (omega (arith, within))
  node_in_front (e ∷ es) fs zero within = refl
  node_in_front (e ∷ es) fs (suc i) within = node_in_front es fs i (omega (arith, within))

  node_behind : (es : List (ℕ × X)) (k : ℕ) (v : X) → node_at (es ++ (k, v) ∷ []) (length es) ≡ k
  node_behind [] k v = refl
  node_behind (e ∷ es) k v = node_behind es k v

  length_behind : (es : List (ℕ × X)) (x : ℕ × X) → length (es ++ x ∷ []) ≡ length es + 1
  length_behind [] x = refl
  length_behind (e ∷ es) x = omega (arith, length_behind es x)

  node_kept : (es : List (ℕ × X)) (i : ℕ) (v : X) (d : ℕ × X) (j : ℕ) → i < length es → node_at (set es i ((get_or es i d).0, v)) j ≡ node_at es j
  node_kept [] i v d j within = absurd (omega (arith, within))
  node_kept (e ∷ es) zero v d zero within = refl
  node_kept (e ∷ es) zero v d (suc j) within = refl
  node_kept (e ∷ es) (suc i) v d zero within = refl
  node_kept (e ∷ es) (suc i) v d (suc j) within = node_kept es i v d j (omega (arith, within))

  length_kept : (es : List (ℕ × X)) (i : ℕ) (x : ℕ × X) → length (set es i x) ≡ length es
  length_kept [] i x = refl
  length_kept (e ∷ es) zero x = refl
  length_kept (e ∷ es) (suc i) x = omega (arith, length_kept es i x)

  -- no entry before the place is the node's
  abbrev NoneBefore : List (ℕ × X) → ℕ → ℕ → Type 0
  NoneBefore es k i = (j : ℕ) → j < i → node_at es j ≢ k

  lookup_first : (es fs : List (ℕ × X)) (k i : ℕ) (d : ℕ × X) → IsPositionOf es k i → NoneBefore es k i → lookup (nat_eq k) (es ++ fs) ≡ Some (get_or es i d).1
  lookup_first [] fs k i d is none = absurd (omega (arith, is.in_range))
  lookup_first (e ∷ es) fs k zero d is none = grind (arith, nat_tests, is.is_node)
  lookup_first (e ∷ es) fs k (suc i) d is none = grind (arith, nat_tests, none 0 (omega arith), lookup_first es fs k i d (record { in_range = omega (arith, is.in_range); is_node = is.is_node }) (λ j l. none (suc j) (omega (arith, l))))

  insert_first : (es fs : List (ℕ × X)) (k i : ℕ) (v : X) (d : ℕ × X) → IsPositionOf es k i → NoneBefore es k i → insert_entry nat_eq (es ++ fs) k v ≡ set es i ((get_or es i d).0, v) ++ fs
  insert_first [] fs k i v d is none = absurd (omega (arith, is.in_range))
  insert_first (e ∷ es) fs k zero v d is none = grind (arith, nat_tests, is.is_node)
  insert_first (e ∷ es) fs k (suc i) v d is none = grind (arith, nat_tests, none 0 (omega arith), insert_first es fs k i v d (record { in_range = omega (arith, is.in_range); is_node = is.is_node }) (λ j l. none (suc j) (omega (arith, l))))

  -- entries that are all before a node have none of it
  pub none_of_later : (es : List (ℕ × X)) (k : ℕ) → AreBefore es k → HasNone es k
  none_of_later es k before i within same = omega (arith, before i within, same)

  -- where there is nothing late, a node that comes behind all goes last
  pub pushed : (es fs : List (ℕ × X)) (k : ℕ) (v : X) → length fs ≡ 0 → AreBefore es k → (es ++ (k, v) ∷ []) ++ fs ≡ insert_entry nat_eq (es ++ fs) k v
  pushed es [] k v empty before = append-nil (es ++ (k, v) ∷ []) ∙ sym (insert_behind es [] k v (none_of_later es k before))
  pushed es (f ∷ fs) k v empty before = absurd (omega (arith, empty))

  entry_of : (es : List (ℕ × X)) → 0 < length es → ℕ × X
  entry_of [] some = absurd (omega (arith, some))
  entry_of (e ∷ es) some = e

  node_of_equal : (es : List (ℕ × X)) (k i : ℕ) → i < length es → ((d : ℕ × X) → nat_cmp (get_or es i d).0 k ≡ Equal) → node_at es i ≡ k
  node_of_equal [] k i within equal = absurd (omega (arith, within))
  node_of_equal (e ∷ es) k zero within equal = ranked e.0 k _ (sym (equal e))
  node_of_equal (e ∷ es) k (suc i) within equal = node_of_equal es k i (omega (arith, within)) equal

  module _ (es : List (ℕ × X)) (rise : AreRising es) where
    none_before : (k i : ℕ) → IsPositionOf es k i → NoneBefore es k i
    none_before k i is j less same = omega (arith, rise j i less is.in_range, is.is_node, same)

    -- the value of a node is that at its place
    pub lookup_at : (fs : List (ℕ × X)) (k i : ℕ) (d : ℕ × X) → IsPositionOf es k i → lookup (nat_eq k) (es ++ fs) ≡ Some (get_or es i d).1
    lookup_at fs k i d is = lookup_first es fs k i d is (none_before k i is)

    -- a value is written at the node's place
    pub insert_at : (fs : List (ℕ × X)) (k i : ℕ) (v : X) (d : ℕ × X) → IsPositionOf es k i → insert_entry nat_eq (es ++ fs) k v ≡ set es i ((get_or es i d).0, v) ++ fs
    insert_at fs k i v d is = insert_first es fs k i v d is (none_before k i is)

    -- where the last entry's node is before this one, so are all
    pub all_before : (k : ℕ) (e : ℕ × X) → slice_get es (length es - 1) ≡ Some e → e.0 < k → AreBefore es k
    all_before k e is less i within =
        let last : node_at es (length es - 1) ≡ e.0 = node_of_entry es (length es - 1) e (omega (arith, within)) ∙ ap (λ x. x.0) (get_or_from_slice_get es (length es - 1) e e is) in
        grind (arith, last, rise i (length es - 1))

    -- with a last entry that comes behind all they rise
    pub rise_behind : (k : ℕ) (v : X) → AreBefore es k → AreRising (es ++ (k, v) ∷ [])
    rise_behind k v before i j less within =
        let count = length_behind es (k, v) in
        grind (arith, node_behind es k v, λ (l : i < length es). node_in_front es ((k, v) ∷ []) i l, λ (l : j < length es). node_in_front es ((k, v) ∷ []) j l, before i, rise i j)

    -- with another value at a place they rise as before
    pub rise_set : (i : ℕ) (v : X) (d : ℕ × X) → i < length es → AreRising (set es i ((get_or es i d).0, v))
    rise_set i v d within a b less l = rw (node_kept es i v d a within, node_kept es i v d b within) (rise a b less (omega (arith, l, length_kept es i ((get_or es i d).0, v))))

    comparisons_rise : (k : ℕ) (d : ℕ × X) → IsNonDecreasingBy (λ e. ordering_index (nat_cmp e.0 k)) es
    comparisons_rise k d = IsNonDecreasingBy-from_default (λ e. ordering_index (nat_cmp e.0 k)) es d (λ i j le within.
        let rises : node_at es i ≤ node_at es j = grind (arith, rise i j, λ (same : i ≡ j). ap (node_at es) same) in
        grind (arith, nat_tests, node_of_entry es i d (omega (arith, within, le)), node_of_entry es j d within))

    -- what a search by halves says
    pub searched : (k : ℕ) (r : Result ℕ ℕ) → IsSearchInRange r (length es) → IsBinarySearchResult (λ e. nat_cmp e.0 k) es r → MatchResult r (IsPositionOf es k) (λ i. HasNone es k)
    searched k (Ok i) within equal = record { in_range = within; is_node = node_of_equal es k i within equal }
    searched k (Err i) within parted = λ j inside same.
        let d = entry_of es (omega (arith, inside)) in
        let sides = parted (comparisons_rise k d) in
        let node = node_of_entry es j d inside in
        elim (cases_lt j i) [
          | inl front ↦ omega (arith, ranked (get_or es j d).0 k _ (sym (sides.0 j d (omega arith) front)), node, same)
          | inr behind ↦ omega (arith, ranked (get_or es j d).0 k _ (sym (sides.1 j d behind inside)), node, same)
        ]
