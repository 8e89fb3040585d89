-- The places of bindings, as a slot changes.
use Rattle.std.proofs.Common.{◌≡◌, ℕ, ◌<◌, ◌+◌, ◌==◌, zero, suc, Bool, true, false, cond, List, [], ◌∷◌, ◌++◌, Option, None, Some, length, get_or, take, map, refl, sym, ap, subst, ◌∙◌, arith, length-append, length-take, add-one, ◌≤◌}
use Rattle.std.specs.Map.{lookup}
use Rattle.std.proofs.Math.ListN.{set}
use Rattle.std.proofs.Math.Seq.{map-set_same}
use Rattle.std.proofs.lemmas.Bool.{eqb-true, eqb-false, eq-eqb, false_from_ne_true}
use Rattle.std.proofs.lemmas.List.{length-set, get_or-set_same, get_or-set_other, get_or_push, set_at, set-set, get_or_read, get_or-take, map-set, take_more}
use Rattle.scoping_rows.specs.Flat.{Entries, Numbered, SlotList, key_eq, filled, slot_binds, is_position, StandsAt, HasPositions, KeepsElsewhere, Retells, IsRekeyed, hollow}
use Rattle.scoping_rows.proofs.Filled.{at_position}

-- a slot that binds something is there
pub slot_within : (xs : SlotList) (i n : ℕ) → slot_binds n (get_or xs i None) ≡ true → i < length xs
slot_within [] i n h = absurd (cc)
slot_within (x ∷ xs) zero n h = omega arith
slot_within (x ∷ xs) (suc i) n h = let l = slot_within xs i n h in omega (arith, l)

-- a slot that binds the number binds a symbol to it
pub slot_of : (n : ℕ) (x : Option (ℕ × ℕ)) → slot_binds n x ≡ true → (y : ℕ) × (x ≡ Some (n, y))
slot_of n None h = absurd (cc)
slot_of n (Some b) h = (b.1, ap (λ k. Some (k, b.1)) (sym (eqb-true n b.0 h)))

cleared : (xs : SlotList) (i : ℕ) → get_or (set xs i None) i None ≡ None
cleared [] i = refl
cleared (x ∷ xs) zero = refl
cleared (x ∷ xs) (suc i) = cleared xs i

pub one_more : (xs : SlotList) (i : ℕ) → get_or (xs ++ None ∷ []) i None ≡ get_or xs i None
one_more [] zero = refl
one_more [] (suc i) = refl
one_more (x ∷ xs) zero = refl
one_more (x ∷ xs) (suc i) = one_more xs i

flip : (a b : ℕ) → (a == b) ≡ false → (b == a) ≡ false
flip a b h = false_from_ne_true (b == a) (λ t. eqb-false a b h (sym (eqb-true b a t)))

-- where each number stands
abbrev pub Stands : SlotList → (ℕ → Option ℕ) → Type 0
Stands xs g = (m : ℕ) → StandsAt xs m (g m)

module _ (xs : SlotList) (g : ℕ → Option ℕ) (h : Stands xs g) (n : ℕ) where
  -- the number is unbound
  pub stands-clear : (g' : ℕ → Option ℕ) (r : ℕ) → g n ≡ Some r → ((m : ℕ) → g' m ≡ cond (n == m) None (g m)) → Stands (set xs r None) g'
  stands-clear g' r is told m i = ap (is_position i) (told m) ∙ by (n == m) refl (i == r) refl
    where
      there : slot_binds n (get_or xs r None) ≡ true
      there = at_position xs n r (subst (StandsAt xs n) is (h n))

      by : (b : Bool) → (n == m) ≡ b → (d : Bool) → (i == r) ≡ d → is_position i (cond b None (g m)) ≡ slot_binds m (get_or (set xs r None) i None)
      by true same true here = sym (ap (λ k. slot_binds m (get_or (set xs r None) k None)) (eqb-true i r here) ∙ ap (slot_binds m) (cleared xs r))
      by true same false apart =
          sym (ap (slot_binds m) (get_or-set_other xs r i None None (λ e. eqb-false i r apart e))
          ∙ ap (λ k. slot_binds k (get_or xs i None)) (sym (eqb-true n m same)) ∙ sym (h n i) ∙ ap (is_position i) is ∙ apart)
      by false other true here =
          let s = slot_of n (get_or xs r None) there in
          h m i ∙ ap (λ k. slot_binds m (get_or xs k None)) (eqb-true i r here) ∙ ap (slot_binds m) s.1 ∙ flip n m other
          ∙ sym (ap (λ k. slot_binds m (get_or (set xs r None) k None)) (eqb-true i r here) ∙ ap (slot_binds m) (cleared xs r))
      by false other false apart = h m i ∙ sym (ap (slot_binds m) (get_or-set_other xs r i None None (λ e. eqb-false i r apart e)))

  -- the number is bound in an empty slot
  pub stands-fill : (g' : ℕ → Option ℕ) (w y : ℕ) → w < length xs → get_or xs w None ≡ None → g n ≡ None → ((m : ℕ) → g' m ≡ cond (n == m) (Some w) (g m)) → Stands (set xs w (Some (n, y))) g'
  stands-fill g' w y within free none told m i = ap (is_position i) (told m) ∙ by (n == m) refl (i == w) refl
    where
      now : slot_binds m (get_or (set xs w (Some (n, y))) w None) ≡ (m == n)
      now = ap (slot_binds m) (get_or-set_same xs w (Some (n, y)) None within)

      by : (b : Bool) → (n == m) ≡ b → (d : Bool) → (i == w) ≡ d → is_position i (cond b (Some w) (g m)) ≡ slot_binds m (get_or (set xs w (Some (n, y))) i None)
      by true same true here =
          here ∙ sym (ap (λ k. slot_binds m (get_or (set xs w (Some (n, y))) k None)) (eqb-true i w here) ∙ now ∙ eq-eqb m n (sym (eqb-true n m same)))
      by true same false apart =
          apart ∙ sym (ap (slot_binds m) (get_or-set_other xs w i (Some (n, y)) None (λ e. eqb-false i w apart e))
          ∙ ap (λ k. slot_binds k (get_or xs i None)) (sym (eqb-true n m same)) ∙ sym (h n i) ∙ ap (is_position i) none)
      by false other true here =
          h m i ∙ ap (λ k. slot_binds m (get_or xs k None)) (eqb-true i w here) ∙ ap (slot_binds m) free
          ∙ sym (ap (λ k. slot_binds m (get_or (set xs w (Some (n, y))) k None)) (eqb-true i w here) ∙ now ∙ flip n m other)
      by false other false apart = h m i ∙ sym (ap (slot_binds m) (get_or-set_other xs w i (Some (n, y)) None (λ e. eqb-false i w apart e)))

module _ (xs : SlotList) (g : ℕ → Option ℕ) (h : Stands xs g) where
  -- an empty slot more
  pub stands-more : Stands (xs ++ None ∷ []) g
  stands-more m i = h m i ∙ sym (ap (slot_binds m) (one_more xs i))

  -- where a number is bound there is a slot
  pub position_within : (n r : ℕ) → g n ≡ Some r → r < length xs
  position_within n r is = slot_within xs r n (at_position xs n r (subst (StandsAt xs n) is (h n)))

  -- the same slots, as they are read
  pub stands-same : (ys : SlotList) → ((i : ℕ) → get_or ys i None ≡ get_or xs i None) → Stands ys g
  stands-same ys same m i = h m i ∙ sym (ap (slot_binds m) (same i))

  module _ (n : ℕ) where
    -- the number moves to an empty slot
    pub stands-move : (g' : ℕ → Option ℕ) (r w y : ℕ) → g n ≡ Some r → w < length xs → get_or (set xs r None) w None ≡ None → ((m : ℕ) → g' m ≡ cond (n == m) (Some w) (g m))
        → Stands (set (set xs r None) w (Some (n, y))) g'
    stands-move g' r w y is within free told =
        stands-fill (set xs r None) gone (stands-clear xs g h n gone r is (λ m. refl)) n g' w y (rw length-set within) free (rw (eq-eqb n n refl) refl) (λ m. told m ∙ by m (n == m))
      where
        gone : ℕ → Option ℕ
        gone m = cond (n == m) None (g m)

        by : (m : ℕ) (b : Bool) → cond b (Some w) (g m) ≡ cond b (Some w) (cond b None (g m))
        by m true = refl
        by m false = refl

    -- the number is bound in a new slot
    pub stands-push : (g' : ℕ → Option ℕ) (y : ℕ) → g n ≡ None → ((m : ℕ) → g' m ≡ cond (n == m) (Some (length xs)) (g m)) → Stands (xs ++ Some (n, y) ∷ []) g'
    stands-push g' y none told =
        subst (λ ys. Stands ys g') (set_at xs None [] (Some (n, y)) (length xs) refl)
        (stands-fill (xs ++ None ∷ []) g stands-more n g' (length xs) y (omega (arith, length-append xs (None ∷ []))) (get_or_push xs None None (length xs) refl) none told)

    -- the number is bound again
    pub stands-again : (r y : ℕ) → g n ≡ Some r → Stands (set xs r (Some (n, y))) g
    stands-again r y is =
        subst (λ ys. Stands ys g) (set-set xs r None (Some (n, y)))
        (stands-move g r r y is (position_within n r is) (cleared xs r) (λ m. by m (n == m) refl))
      where
        by : (m : ℕ) (b : Bool) → (n == m) ≡ b → g m ≡ cond b (Some r) (g m)
        by m true e = subst (λ k. g k ≡ Some r) (eqb-true n m e) is
        by m false e = refl

-- what entries tell of a scope when they tell something else of one of its numbers
pub told_here : (es es' : Entries) (s n : ℕ) (o : Option ℕ) → Retells es es' (s, n) o → (m : ℕ) → lookup (key_eq (s, m)) es' ≡ cond (n == m) o (lookup (key_eq (s, m)) es)
told_here es es' s n o told m = rw (eq-eqb s s refl) at (told (s, m))

-- and of the other scopes
pub told_elsewhere : (es es' : Entries) (s n : ℕ) (o : Option ℕ) → Retells es es' (s, n) o → KeepsElsewhere es es' s
told_elsewhere es es' s n o told t m apart = rw apart at (told (t, m))

pub elsewhere_trans : (a b c : Entries) (s : ℕ) → KeepsElsewhere a b s → KeepsElsewhere b c s → KeepsElsewhere a c s
elsewhere_trans a b c s first second t n apart = second t n apart ∙ first t n apart

-- what one of the scopes binds
pub shown_row : (rows : List SlotList) (s : ℕ) → get_or (map filled rows) s [] ≡ filled (get_or rows s [])
shown_row [] s = refl
shown_row (r ∷ rows) zero = refl
shown_row (r ∷ rows) (suc s) = shown_row rows s

-- a scope more has no slots
pub row_more : (rows : List SlotList) (s : ℕ) → get_or (rows ++ [] ∷ []) s [] ≡ get_or rows s []
row_more [] zero = refl
row_more [] (suc s) = refl
row_more (r ∷ rows) zero = refl
row_more (r ∷ rows) (suc s) = row_more rows s

-- slots that bind nothing are empty
pub unfilled : (xs : SlotList) → filled xs ≡ [] → (i : ℕ) → get_or xs i None ≡ None
unfilled [] e i = refl
unfilled (Some b ∷ xs) e i = absurd (cc)
unfilled (None ∷ xs) e zero = refl
unfilled (None ∷ xs) e (suc i) = unfilled xs e i

pub row_read : (rows : List SlotList) (s i : ℕ) (row : SlotList) → i ≡ s → s < length rows → row ≡ get_or rows i row → row ≡ get_or rows s []
row_read rows s i row at within read = get_or_read rows s row within (read ∙ ap (λ k. get_or rows k row) at) []

-- a number that has a slot stands there
pub position_told : (xs : SlotList) (g : ℕ → Option ℕ) → Stands xs g → (n y r : ℕ) → get_or xs r None ≡ Some (n, y) → g n ≡ Some r
position_told xs g h n y r is = by (g n) (h n r ∙ ap (slot_binds n) is ∙ eq-eqb n n refl)
  where
    by : (o : Option ℕ) → is_position r o ≡ true → o ≡ Some r
    by None e = absurd (cc)
    by (Some j) e = ap Some (sym (eqb-true r j e))

-- a slot that a binding leaves is free, as are those before it
pub free_slot : (xs : SlotList) (r w : ℕ) → w ≤ r → ((i : ℕ) → w ≤ i → i < r → get_or xs i None ≡ None) → get_or (set xs r None) w None ≡ None
free_slot [] r w l gap = refl
free_slot (x ∷ xs) zero zero l gap = refl
free_slot (x ∷ xs) (suc r) zero l gap = gap 0 (omega arith) (omega arith)
free_slot (x ∷ xs) zero (suc w) l gap = absurd (omega arith)
free_slot (x ∷ xs) (suc r) (suc w) l gap = free_slot xs r w (omega arith) (λ i k m. gap (suc i) (omega arith) (omega arith))

hollow_more : (k : ℕ) (xs : SlotList) → hollow (suc k) xs ≡ set (hollow k xs) k None
hollow_more zero [] = refl
hollow_more (suc k) [] = refl
hollow_more zero (x ∷ xs) = by xs
  where
    by : (ys : SlotList) → None ∷ hollow zero ys ≡ None ∷ ys
    by [] = refl
    by (y ∷ ys) = refl
hollow_more (suc k) (x ∷ xs) = ap (λ t. None ∷ t) (hollow_more k xs)

hollow_at : (k : ℕ) (xs : SlotList) → get_or (hollow k xs) k None ≡ get_or xs k None
hollow_at zero [] = refl
hollow_at (suc k) [] = refl
hollow_at zero (x ∷ xs) = refl
hollow_at (suc k) (x ∷ xs) = hollow_at k xs

hollow_none : (xs : SlotList) → hollow zero xs ≡ xs
hollow_none [] = refl
hollow_none (x ∷ xs) = refl

hollow_all : (xs : SlotList) (i : ℕ) → get_or (hollow (length xs) xs) i None ≡ None
hollow_all [] i = refl
hollow_all (x ∷ xs) zero = refl
hollow_all (x ∷ xs) (suc i) = hollow_all xs i

take_all : (xs : SlotList) → take (length xs) xs ≡ xs
take_all [] = refl
take_all (x ∷ xs) = ap (λ t. x ∷ t) (take_all xs)

-- an empty slot that is emptied
emptied : (xs : SlotList) (k i : ℕ) → get_or xs k None ≡ None → get_or (set xs k None) i None ≡ get_or xs i None
emptied [] k i e = refl
emptied (x ∷ xs) zero zero e = sym e
emptied (x ∷ xs) zero (suc i) e = refl
emptied (x ∷ xs) (suc k) zero e = refl
emptied (x ∷ xs) (suc k) (suc i) e = emptied xs k i e

-- entries that are put under another scope, slot by slot
module _ (old : Entries) (from to : ℕ) (apart : (from == to) ≡ false) (xs : SlotList) (first : HasPositions old from xs) where
  pub rekeyed_none : HasPositions old to [] → IsRekeyed old old from to xs 0
  rekeyed_none empty = record {
    source = subst (HasPositions old from) (sym (hollow_none xs)) first;
    target = empty;
    elsewhere = λ t n p q. refl;
  }

  module _ (es : Entries) (k : ℕ) (within : k < length xs) (r : IsRekeyed old es from to xs k) where
    pub rekeyed_past : get_or xs k None ≡ None → IsRekeyed old es from to xs (k + 1)
    rekeyed_past empty = record {
      source = rw (add-one, hollow_more k xs) (stands-same (hollow k xs) _ r.source (set (hollow k xs) k None) (λ i. emptied (hollow k xs) k i (hollow_at k xs ∙ empty)));
      target = rw (take_more xs k None within, empty) (stands-more (take k xs) _ r.target);
      elsewhere = r.elsewhere;
    }

    module _ (n y : ℕ) (is : get_or xs k None ≡ Some (n, y)) (gone es' : Entries) (removed : Retells es gone (from, n) None) (put : Retells gone es' (to, n) (Some k)) where
      unbound : lookup (key_eq (to, n)) es ≡ None
      unbound = by (lookup (key_eq (to, n)) es) refl
        where
          by : (o : Option ℕ) → lookup (key_eq (to, n)) es ≡ o → o ≡ None
          by None e = refl
          by (Some j) e =
              let there = at_position (take k xs) n j (subst (StandsAt (take k xs) n) e (r.target n)) in
              let inside = slot_within (take k xs) j n there in
              let small : j < k = omega (arith, length-take k xs) in
              let here : slot_binds n (get_or xs j None) ≡ true = sym (ap (slot_binds n) (get_or-take k xs j None small)) ∙ there in
              let at = position_told xs _ first n y k is in
              let same : j ≡ k = eqb-true j k (ap (is_position j) (sym at) ∙ first n j ∙ here) in
              absurd (omega (arith, same, small))

      stood : lookup (key_eq (from, n)) es ≡ Some k
      stood = position_told (hollow k xs) _ r.source n y k (hollow_at k xs ∙ is)

      keeps : KeepsElsewhere gone es' to
      keeps = told_elsewhere gone es' to n (Some k) put

      pub rekeyed_more : IsRekeyed old es' from to xs (k + 1)
      rekeyed_more = record {
        source = rw (add-one, hollow_more k xs)
            (stands-clear (hollow k xs) _ r.source n (λ m. lookup (key_eq (from, m)) es') k stood (λ m. keeps from m (flip from to apart) ∙ told_here es gone from n None removed m));
        target = rw (take_more xs k None within, is)
            (stands-push (take k xs) _ r.target n (λ m. lookup (key_eq (to, m)) es') y unbound (λ m.
            told_here gone es' to n (Some k) put m
            ∙ (λ j. cond (n == m) (Some (sym full j)) (told_elsewhere es gone from n None removed to m apart j))));
        elsewhere = λ t m p q. keeps t m q ∙ told_elsewhere es gone from n None removed t m p ∙ r.elsewhere t m p q;
      }
        where
          full : length (take k xs) ≡ k
          full = omega (arith, length-take k xs)

-- all of them
pub rekeyed_all : (old es : Entries) (from to : ℕ) (xs : SlotList) → IsRekeyed old es from to xs (length xs) → HasPositions es from [] × HasPositions es to xs
rekeyed_all old es from to xs r = (stands-same (hollow (length xs) xs) _ r.source [] (λ i. sym (hollow_all xs i)), subst (HasPositions es to) (take_all xs) r.target)

-- what the scopes bind, as the slots of one change
module _ (rows : List SlotList) (s i : ℕ) (was now : SlotList) (at : i ≡ s) (within : s < length rows) (read : was ≡ get_or rows i was) where
  pub row_changed : (f : Numbered → Numbered) → filled now ≡ f (filled was) → map filled (set rows i now) ≡ set (map filled rows) s (f (get_or (map filled rows) s []))
  row_changed f is =
      map-set filled rows i now
      ∙ (λ j. set (map filled rows) (at j) (is j))
      ∙ ap (λ b. set (map filled rows) s (f b)) (ap filled (row_read rows s i was at within read) ∙ sym (shown_row rows s))

  pub row_kept : filled now ≡ filled was → map filled (set rows i now) ≡ map filled rows
  row_kept is = map-set_same filled rows i now was (is ∙ ap filled read)
