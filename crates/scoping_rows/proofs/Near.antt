-- Places of bindings where the slots behind the first ones have entries, as a slot changes.
use Rattle.std.proofs.Common.{◌≡◌, ℕ, ◌<◌, ◌≤◌, ◌==◌, ◌&&◌, zero, suc, Bool, true, false, cond, List, [], ◌∷◌, ◌++◌, Option, None, Some, length, get_or, take, refl, sym, ap, subst, ◌∙◌, arith, ⊎_elim}
use Rattle.std.specs.Map.{lookup}
use Rattle.std.proofs.Math.ListN.{set}
use Rattle.std.proofs.lemmas.Bool.{cases_lt, eqb-true, eqb-false}
use Rattle.std.proofs.lemmas.List.{length-set, get_or-set_same, get_or-set_other}
use Rattle.scoping_rows.specs.Flat.{Entries, SlotList, key_eq, filled, slot_binds, is_position, StandsAt, HasPositions, IsOnce, near, hollow, far, IsIndexed, AreIndexed, KeepsElsewhere, Retells}
use Rattle.scoping_rows.proofs.Filled.{at_position, slot-take}
use Rattle.scoping_rows.proofs.Indexed.{Stands, slot_of, slot_within, position_told, stands-again, stands-push, stands-more, stands-clear, stands-move, stands-same, free_slot, unfilled, row_more, told_here}

-- the slots behind the first k, as one slot changes
near_set : (k : ℕ) (xs : SlotList) (i : ℕ) (x : Option (ℕ × ℕ)) → i < k → hollow k (set xs i x) ≡ hollow k xs
near_set zero xs i x l = absurd (omega (arith, l))
near_set (suc k) [] i x l = refl
near_set (suc k) (y ∷ xs) zero x l = refl
near_set (suc k) (y ∷ xs) (suc i) x l = ap (λ t. None ∷ t) (near_set k xs i x (omega (arith, l)))

far_set : (k : ℕ) (xs : SlotList) (i : ℕ) (x : Option (ℕ × ℕ)) → k ≤ i → hollow k (set xs i x) ≡ set (hollow k xs) i x
far_set zero [] i x l = refl
far_set zero (y ∷ xs) zero x l = refl
far_set zero (y ∷ xs) (suc i) x l = refl
far_set (suc k) [] i x l = refl
far_set (suc k) (y ∷ xs) zero x l = absurd (omega (arith, l))
far_set (suc k) (y ∷ xs) (suc i) x l = ap (λ t. None ∷ t) (far_set k xs i x (omega (arith, l)))

-- what stands there
near_at : (k : ℕ) (xs : SlotList) (i : ℕ) → i < k → get_or (hollow k xs) i None ≡ None
near_at zero xs i l = absurd (omega (arith, l))
near_at (suc k) [] i l = refl
near_at (suc k) (x ∷ xs) zero l = refl
near_at (suc k) (x ∷ xs) (suc i) l = near_at k xs i (omega (arith, l))

far_at : (k : ℕ) (xs : SlotList) (i : ℕ) → k ≤ i → get_or (hollow k xs) i None ≡ get_or xs i None
far_at zero [] i l = refl
far_at zero (x ∷ xs) i l = refl
far_at (suc k) [] i l = refl
far_at (suc k) (x ∷ xs) zero l = absurd (omega (arith, l))
far_at (suc k) (x ∷ xs) (suc i) l = far_at k xs i (omega (arith, l))

far_same : (k : ℕ) (xs ys : SlotList) → ((i : ℕ) → get_or ys i None ≡ get_or xs i None) → (i : ℕ) → get_or (hollow k ys) i None ≡ get_or (hollow k xs) i None
far_same k xs ys same i = ⊎_elim
    (λ (l : i < k). near_at k ys i l ∙ sym (near_at k xs i l))
    (λ (g : k ≤ i). far_at k ys i g ∙ same i ∙ sym (far_at k xs i g))
    (cases_lt i k)

pub far_slot : (xs : SlotList) (i : ℕ) → near ≤ i → get_or (far xs) i None ≡ get_or xs i None
far_slot xs i g = far_at near xs i g

pub near_slot : (xs : SlotList) (i : ℕ) → i < near → get_or (far xs) i None ≡ None
near_slot xs i l = near_at near xs i l

length_hollow : (k : ℕ) (xs : SlotList) → length (hollow k xs) ≡ length xs
length_hollow k [] = refl
length_hollow zero (x ∷ xs) = refl
length_hollow (suc k) (x ∷ xs) = ap suc (length_hollow k xs)

pub length_far : (xs : SlotList) → length (far xs) ≡ length xs
length_far xs = length_hollow near xs

-- and as one is added
near_push : (k : ℕ) (xs : SlotList) (x : Option (ℕ × ℕ)) → length xs < k → hollow k (xs ++ x ∷ []) ≡ hollow k xs ++ None ∷ []
near_push zero xs x l = absurd (omega (arith, l))
near_push (suc k) [] x l = refl
near_push (suc k) (y ∷ xs) x l = ap (λ t. None ∷ t) (near_push k xs x (omega (arith, l)))

far_push : (k : ℕ) (xs : SlotList) (x : Option (ℕ × ℕ)) → k ≤ length xs → hollow k (xs ++ x ∷ []) ≡ hollow k xs ++ x ∷ []
far_push zero [] x l = refl
far_push zero (y ∷ xs) x l = refl
far_push (suc k) [] x l = absurd (omega (arith, l))
far_push (suc k) (y ∷ xs) x l = ap (λ t. None ∷ t) (far_push k xs x (omega (arith, l)))

-- the same places, as they are told
stands-told : (xs : SlotList) (g g' : ℕ → Option ℕ) → Stands xs g → ((m : ℕ) → g' m ≡ g m) → Stands xs g'
stands-told xs g g' h same m i = ap (is_position i) (same m) ∙ h m i

-- a number that isn't told is untold as before
stays_untold : (g g' : ℕ → Option ℕ) (n : ℕ) → g n ≡ None → ((m : ℕ) → g' m ≡ cond (n == m) None (g m)) → (m : ℕ) → g' m ≡ g m
stays_untold g g' n none told m = told m ∙ by (n == m) refl
  where
    by : (b : Bool) → (n == m) ≡ b → cond b None (g m) ≡ g m
    by true e = sym (ap g (sym (eqb-true n m e)) ∙ none)
    by false e = refl

-- no entry for a key tells nothing new
pub retells_none : (es : Entries) (k : ℕ × ℕ) → lookup (key_eq k) es ≡ None → Retells es es k None
retells_none es k none q = by (key_eq k q) refl
  where
    same : key_eq k q ≡ true → k ≡ q
    same e = by_first (k.0 == q.0) refl (k.1 == q.1) refl e
      where
        by_first : (a : Bool) → (k.0 == q.0) ≡ a → (b : Bool) → (k.1 == q.1) ≡ b → (a && b) ≡ true → k ≡ q
        by_first true f true s e = λ j. (eqb-true k.0 q.0 f j, eqb-true k.1 q.1 s j)
        by_first true f false s e = absurd (cc)
        by_first false f true s e = absurd (cc)
        by_first false f false s e = absurd (cc)

    by : (b : Bool) → key_eq k q ≡ b → lookup (key_eq q) es ≡ cond b None (lookup (key_eq q) es)
    by true e = subst (λ p. lookup (key_eq p) es ≡ None) (same e) none
    by false e = refl

module _ (es : Entries) (s : ℕ) (xs : SlotList) (h : IsIndexed es s xs) where
  abbrev place : ℕ → Option ℕ
  place n = (h.once n).0

  stands : Stands xs place
  stands n = (h.once n).1

  -- a number with a slot stands there
  placed : (n y r : ℕ) → get_or xs r None ≡ Some (n, y) → place n ≡ Some r
  placed n y r is = position_told xs place stands n y r is

  pub stands_there : (n y r : ℕ) → get_or xs r None ≡ Some (n, y) → StandsAt xs n (Some r)
  stands_there n y r is = subst (StandsAt xs n) (placed n y r is) (stands n)

  unplaced : (n : ℕ) → StandsAt xs n None → place n ≡ None
  unplaced n none = by (place n) refl
    where
      by : (o : Option ℕ) → place n ≡ o → o ≡ None
      by None e = refl
      by (Some j) e =
          let there = at_position xs n j (subst (StandsAt xs n) e (stands n)) in
          let not : false ≡ slot_binds n (get_or xs j None) = none j in
          absurd (cc)

  -- an entry tells of a slot behind the first ones
  told_slot : (n j : ℕ) → lookup (key_eq (s, n)) es ≡ Some j → (near ≤ j) × (slot_binds n (get_or xs j None) ≡ true)
  told_slot n j e =
      let there = at_position (far xs) n j (subst (StandsAt (far xs) n) e (h.places n)) in
      ⊎_elim
      (λ (l : j < near). let empty : slot_binds n (get_or (far xs) j None) ≡ false = ap (slot_binds n) (near_slot xs j l) in absurd (cc))
      (λ (g : near ≤ j). (g, sym (ap (slot_binds n) (far_slot xs j g)) ∙ there))
      (cases_lt j near)

  -- a number's slot behind the first ones has its entry
  pub told_far : (n y r : ℕ) → get_or xs r None ≡ Some (n, y) → near ≤ r → lookup (key_eq (s, n)) es ≡ Some r
  told_far n y r is g = position_told (far xs) _ h.places n y r (far_slot xs r g ∙ is)

  -- one of the first has none
  pub told_near : (n y r : ℕ) → get_or xs r None ≡ Some (n, y) → r < near → lookup (key_eq (s, n)) es ≡ None
  told_near n y r is l = by (lookup (key_eq (s, n)) es) refl
    where
      by : (o : Option ℕ) → lookup (key_eq (s, n)) es ≡ o → o ≡ None
      by None e = refl
      by (Some j) e =
          let t = told_slot n j e in
          let other = slot_of n (get_or xs j None) t.1 in
          let same : Some r ≡ Some j = sym (placed n y r is) ∙ placed n other.0 j other.1 in
          let equal : r ≡ j = cc in
          absurd (omega (arith, equal, l, t.0))

  -- nor has a number that no slot binds
  pub untold : (n : ℕ) → StandsAt xs n None → lookup (key_eq (s, n)) es ≡ None
  untold n none = by (lookup (key_eq (s, n)) es) refl
    where
      by : (o : Option ℕ) → lookup (key_eq (s, n)) es ≡ o → o ≡ None
      by None e = refl
      by (Some j) e =
          let t = told_slot n j e in
          let not : false ≡ slot_binds n (get_or xs j None) = none j in
          absurd (cc)

  -- the number is found among the first slots
  pub found_near : (n r : ℕ) → slot_binds n (get_or xs r None) ≡ true → StandsAt xs n (Some r)
  found_near n r binds = let b = slot_of n (get_or xs r None) binds in stands_there n b.0 r b.1

  -- or nowhere, where there are no others
  pub found_nowhere : (n : ℕ) → ((i : ℕ) → i < near → slot_binds n (get_or xs i None) ≡ false) → length xs ≤ near → StandsAt xs n None
  found_nowhere n none short i = ⊎_elim
      (λ (l : i < near). sym (none i l))
      (λ (g : near ≤ i). by (slot_binds n (get_or xs i None)) refl g)
      (cases_lt i near)
    where
      by : (b : Bool) → slot_binds n (get_or xs i None) ≡ b → near ≤ i → false ≡ b
      by true e g = absurd (omega (arith, slot_within xs i n e, short, g))
      by false e g = refl

  -- or where its entry tells
  pub found_far : (n : ℕ) → ((i : ℕ) → i < near → slot_binds n (get_or xs i None) ≡ false) → StandsAt xs n (lookup (key_eq (s, n)) es)
  found_far n none i = ⊎_elim
      (λ (l : i < near). h.places n i ∙ ap (slot_binds n) (near_slot xs i l) ∙ sym (none i l))
      (λ (g : near ≤ i). h.places n i ∙ ap (slot_binds n) (far_slot xs i g))
      (cases_lt i near)

  -- a number is bound again
  pub indexed_again : (n y r : ℕ) → StandsAt xs n (Some r) → IsIndexed es s (set xs r (Some (n, y)))
  indexed_again n y r at = record {
    places = ⊎_elim
        (λ (l : r < near). subst (HasPositions es s) (sym (near_set near xs r (Some (n, y)) l)) h.places)
        (λ (g : near ≤ r). subst (HasPositions es s) (sym (far_set near xs r (Some (n, y)) g)) (stands-again (far xs) _ h.places n r y (told_far n was.0 r was.1 g)))
        (cases_lt r near);
    once = λ m. (place m, stands-again xs place stands n r y (placed n was.0 r was.1) m);
  }
    where
      was : (z : ℕ) × (get_or xs r None ≡ Some (n, z))
      was = slot_of n (get_or xs r None) (at_position xs n r at)

  module _ (n y : ℕ) (none : StandsAt xs n None) where
    abbrev pushed : ℕ → Option ℕ
    pushed m = cond (n == m) (Some (length xs)) (place m)

    pushed_once : IsOnce (xs ++ Some (n, y) ∷ [])
    pushed_once m = (pushed m, stands-push xs place stands n pushed y (unplaced n none) (λ k. refl) m)

    -- it is bound in a new slot, one of the first
    pub indexed_near : length xs < near → IsIndexed es s (xs ++ Some (n, y) ∷ [])
    indexed_near l = record {
      places = subst (HasPositions es s) (sym (near_push near xs (Some (n, y)) l)) (stands-more (far xs) _ h.places);
      once = pushed_once;
    }

    -- or one behind them
    pub indexed_far : (es' : Entries) → near ≤ length xs → Retells es es' (s, n) (Some (length xs)) → IsIndexed es' s (xs ++ Some (n, y) ∷ [])
    indexed_far es' g told = record {
      places = subst (HasPositions es' s) (sym (far_push near xs (Some (n, y)) g))
          (stands-push (far xs) _ h.places n (λ m. lookup (key_eq (s, m)) es') y (untold n none)
          (λ m. told_here es es' s n (Some (length xs)) told m ∙ ap (λ k. cond (n == m) (Some k) (lookup (key_eq (s, m)) es)) (sym (length_far xs))));
      once = pushed_once;
    }

  module _ (es' : Entries) (n y r : ℕ) (is : get_or xs r None ≡ Some (n, y)) where
    abbrev gone : ℕ → Option ℕ
    gone m = cond (n == m) None (place m)

    -- its slot is emptied
    pub indexed_clear : Retells es es' (s, n) None → IsIndexed es' s (set xs r None)
    indexed_clear told = record {
      places = ⊎_elim
          (λ (l : r < near). subst (HasPositions es' s) (sym (near_set near xs r None l))
          (stands-told (far xs) _ (λ m. lookup (key_eq (s, m)) es') h.places
          (stays_untold (λ m. lookup (key_eq (s, m)) es) (λ m. lookup (key_eq (s, m)) es') n (told_near n y r is l) (told_here es es' s n None told))))
          (λ (g : near ≤ r). subst (HasPositions es' s) (sym (far_set near xs r None g))
          (stands-clear (far xs) _ h.places n (λ m. lookup (key_eq (s, m)) es') r (told_far n y r is g) (told_here es es' s n None told)))
          (cases_lt r near);
      once = λ m. (gone m, stands-clear xs place stands n gone r (placed n y r is) (λ k. refl) m);
    }

    -- it moves over empty slots
    module _ (w : ℕ) (behind : w ≤ r) (within : r < length xs) (gap : (i : ℕ) → w ≤ i → i < r → get_or xs i None ≡ None)
        (unknown : w < near → Retells es es' (s, n) None) (known : near ≤ w → Retells es es' (s, n) (Some w)) where
      abbrev moved : ℕ → Option ℕ
      moved m = cond (n == m) (Some w) (place m)

      free : get_or (set xs r None) w None ≡ None
      free = free_slot xs r w behind gap

      far_free : near ≤ w → near ≤ r → get_or (set (far xs) r None) w None ≡ None
      far_free g f = ap (λ (t : SlotList). get_or t w None) (sym (far_set near xs r None f)) ∙ far_slot (set xs r None) w g ∙ free

      far_move : near ≤ w → near ≤ r → HasPositions es' s (far (set (set xs r None) w (Some (n, y))))
      far_move g f = subst (HasPositions es' s) (sym (far_set near (set xs r None) w (Some (n, y)) g ∙ ap (λ (t : SlotList). set t w (Some (n, y))) (far_set near xs r None f)))
          (stands-move (far xs) _ h.places n (λ m. lookup (key_eq (s, m)) es') r w y (told_far n y r is f) (omega (arith, length_far xs, behind, within)) (far_free g f)
          (told_here es es' s n (Some w) (known g)))

      pub indexed_move : IsIndexed es' s (set (set xs r None) w (Some (n, y)))
      indexed_move = record {
        places = ⊎_elim
            (λ (l : w < near). subst (HasPositions es' s) (sym (near_set near (set xs r None) w (Some (n, y)) l)) (indexed_clear (unknown l)).places)
            (λ (g : near ≤ w). far_move g (omega (arith, g, behind)))
            (cases_lt w near);
        once = λ m. (moved m, stands-move xs place stands n moved r w y (placed n y r is) (omega (arith, behind, within)) free (λ k. refl) m);
      }

  -- empty slots at the end go
  pub indexed_take : (w : ℕ) → ((i : ℕ) → w ≤ i → i < length xs → get_or xs i None ≡ None) → IsIndexed es s (take w xs)
  indexed_take w gap = record {
    places = stands-same (far xs) _ h.places (far (take w xs)) (far_same near xs (take w xs) (slot-take w xs gap));
    once = λ m. (place m, stands-same xs place stands (take w xs) (slot-take w xs gap) m);
  }

  -- slots that bind nothing have no entries
  pub positions_empty : filled xs ≡ [] → HasPositions es s []
  positions_empty e = stands-same (far xs) _ h.places [] (far_same near xs [] (λ i. sym (unfilled xs e i)))

-- no slots
pub once_empty : IsOnce []
once_empty n = (None, λ i. refl)

pub indexed_empty : (es : Entries) (s : ℕ) → HasPositions es s [] → IsIndexed es s []
indexed_empty es s none = record { places = none; once = once_empty }

pub all_empty : AreIndexed [] []
all_empty s = indexed_empty [] s (λ n i. refl)

pub one_scope_more : (es : Entries) (rows : List SlotList) → AreIndexed es rows → AreIndexed es (rows ++ [] ∷ [])
one_scope_more es rows h s = subst (IsIndexed es s) (sym (row_more rows s)) (h s)

-- the places of all scopes, as one changes
module _ (es es' : Entries) (rows : List SlotList) (h : AreIndexed es rows) (s : ℕ) (xs : SlotList) (within : s < length rows) (now : IsIndexed es' s xs) (others : KeepsElsewhere es es' s) where
  pub all_indexed : AreIndexed es' (set rows s xs)
  all_indexed t = by (s == t) refl
    where
      by : (b : Bool) → (s == t) ≡ b → IsIndexed es' t (get_or (set rows s xs) t [])
      by true same =
          subst (λ k. IsIndexed es' k (get_or (set rows s xs) k [])) (eqb-true s t same)
          (subst (IsIndexed es' s) (sym (get_or-set_same rows s xs [] within)) now)
      by false apart =
          subst (IsIndexed es' t) (sym (get_or-set_other rows s t xs [] (λ e. eqb-false s t apart (sym e))))
          (record { places = λ n i. ap (is_position i) (others t n apart) ∙ (h t).places n i; once = (h t).once })

-- the slots of one scope made another's
pub taken_indexed : (es es' : Entries) (rows : List SlotList) (from to : ℕ) (xs : SlotList) → from < length rows → to < length rows → AreIndexed es rows
    → IsIndexed es' from [] → IsIndexed es' to xs → ((t n : ℕ) → (from == t) ≡ false → (to == t) ≡ false → lookup (key_eq (t, n)) es' ≡ lookup (key_eq (t, n)) es)
    → AreIndexed es' (set (set rows from []) to xs)
taken_indexed es es' rows from to xs source target all first second others t = by (to == t) refl (from == t) refl
  where
    past : (to == t) ≡ false → get_or (set rows from []) t [] ≡ get_or (set (set rows from []) to xs) t []
    past e = sym (get_or-set_other (set rows from []) to t xs [] (λ q. eqb-false to t e (sym q)))

    by : (b : Bool) → (to == t) ≡ b → (d : Bool) → (from == t) ≡ d → IsIndexed es' t (get_or (set (set rows from []) to xs) t [])
    by true e d q =
        subst (λ k. IsIndexed es' k (get_or (set (set rows from []) to xs) k [])) (eqb-true to t e)
        (subst (IsIndexed es' to) (sym (get_or-set_same (set rows from []) to xs [] (rw length-set target))) second)
    by false e true q =
        subst (IsIndexed es' t) (past e)
        (subst (λ k. IsIndexed es' k (get_or (set rows from []) k [])) (eqb-true from t q)
        (subst (IsIndexed es' from) (sym (get_or-set_same rows from [] [] source)) first))
    by false e false q =
        subst (IsIndexed es' t) (sym (get_or-set_other rows from t [] [] (λ r. eqb-false from t q (sym r))) ∙ past e)
        (record { places = λ n i. ap (is_position i) (others t n q e) ∙ (all t).places n i; once = (all t).once })
