-- Stored slots: numbers and symbols side by side, as pairs.
use Rattle.std.proofs.Common.{◌≡◌, ℕ, ◌<◌, ◌≤◌, ◌+◌, ◌-◌, ◌==◌, zero, suc, Bool, true, false, cond, not, map, List, [], ◌∷◌, ◌++◌, Option, None, Some, length, get_or, take, drop, min, length-append, length-take, refl, sym, ap, subst, ◌∙◌, arith, ⊎_elim}
use Rattle.std.specs.List.{prefix_len}
use Rattle.std.specs.Option.{option_to_list}
use Rattle.std.proofs.Math.ListN.{set}
use Rattle.std.proofs.lemmas.Bool.{cases_lt, not-true, not-false, eqb-true, eqb-false, eq-eqb, ne_eqb}
use Rattle.std.proofs.lemmas.List.{take_all, get_or-map, length-map, length-set, map-set, map_push, take-map, drop_more, append-nil, append_assoc, get_or_read, get_or_append_left, get_or-append_right, set-append_left, set-append_right}
use Rattle.std.proofs.lemmas.List.Sums.{prefix_len_passes, prefix_len_stops}
use Rattle.scoping_rows.specs.Flat.{SlotList, near, filled, slot_binds, IsNearPlace}
use Rattle.scoping_rows.specs.Slots.{no_number, stored_slot, paired, ArePaired, AreStored}
use Rattle.scoping_rows.proofs.Filled.{count_set, count_filled, empty-push, empty-take}

flipped : (a b : ℕ) → (a == b) ≡ (b == a)
flipped a b = by (b == a) refl
  where
    by : (t : Bool) → (b == a) ≡ t → (a == b) ≡ t
    by true e = eq-eqb a b (sym (eqb-true b a e))
    by false e = ne_eqb a b (λ q. eqb-false b a e (sym q))

pub length_paired : (k : ℕ) (ns ys : List ℕ) → k ≤ length ns → k ≤ length ys → length (paired k ns ys) ≡ k
length_paired zero ns ys f g = refl
length_paired (suc k) [] ys f g = absurd (omega (arith, f))
length_paired (suc k) (n ∷ ns) [] f g = absurd (omega (arith, g))
length_paired (suc k) (n ∷ ns) (y ∷ ys) f g = ap suc (length_paired k ns ys (omega (arith, f)) (omega (arith, g)))

pub paired_at : (k : ℕ) (ns ys : List ℕ) (i d e : ℕ) → k ≤ length ns → k ≤ length ys → i < k → get_or (paired k ns ys) i (0, 0) ≡ (get_or ns i d, get_or ys i e)
paired_at zero ns ys i d e f g l = absurd (omega (arith, l))
paired_at (suc k) [] ys i d e f g l = absurd (omega (arith, f))
paired_at (suc k) (n ∷ ns) [] i d e f g l = absurd (omega (arith, g))
paired_at (suc k) (n ∷ ns) (y ∷ ys) zero d e f g l = refl
paired_at (suc k) (n ∷ ns) (y ∷ ys) (suc i) d e f g l = paired_at k ns ys i d e (omega (arith, f)) (omega (arith, g)) (omega (arith, l))

-- where lists of eight are paired
module _ (k : ℕ) (ns ys : List ℕ) (i : ℕ) (lists : ArePaired k ns ys) (within : i < length (paired k ns ys)) where
  pub paired_within : i < near
  paired_within = omega (arith, lists, within, length_paired k ns ys (omega (arith, lists)) (omega (arith, lists)))

  pub paired_read : (d e : ℕ) → get_or (paired k ns ys) i (0, 0) ≡ (get_or ns i d, get_or ys i e)
  paired_read d e = paired_at k ns ys i d e (omega (arith, lists)) (omega (arith, lists)) (omega (arith, within, length_paired k ns ys (omega (arith, lists)) (omega (arith, lists))))

pub paired_set : (k : ℕ) (ns ys : List ℕ) (i n y : ℕ) → k ≤ length ns → k ≤ length ys → paired k (set ns i n) (set ys i y) ≡ set (paired k ns ys) i (n, y)
paired_set zero ns ys i n y f g = refl
paired_set (suc k) [] ys i n y f g = absurd (omega (arith, f))
paired_set (suc k) (m ∷ ns) [] i n y f g = absurd (omega (arith, g))
paired_set (suc k) (m ∷ ns) (z ∷ ys) zero n y f g = refl
paired_set (suc k) (m ∷ ns) (z ∷ ys) (suc i) n y f g = ap (λ t. (m, z) ∷ t) (paired_set k ns ys i n y (omega (arith, f)) (omega (arith, g)))

pub paired_push : (k : ℕ) (ns ys : List ℕ) (n y : ℕ) → k < length ns → k < length ys → paired (suc k) (set ns k n) (set ys k y) ≡ paired k ns ys ++ (n, y) ∷ []
paired_push k [] ys n y f g = absurd (omega (arith, f))
paired_push k (m ∷ ns) [] n y f g = absurd (omega (arith, g))
paired_push zero (m ∷ ns) (z ∷ ys) n y f g = refl
paired_push (suc k) (m ∷ ns) (z ∷ ys) n y f g = ap (λ t. (m, z) ∷ t) (paired_push k ns ys n y (omega (arith, f)) (omega (arith, g)))

paired_less : (j k : ℕ) (ns ys : List ℕ) → k ≤ length ns → k ≤ length ys → j ≤ k → paired j ns ys ≡ take j (paired k ns ys)
paired_less zero k ns ys f g l = refl
paired_less (suc j) zero ns ys f g l = absurd (omega (arith, l))
paired_less (suc j) (suc k) [] ys f g l = absurd (omega (arith, f))
paired_less (suc j) (suc k) (n ∷ ns) [] f g l = absurd (omega (arith, g))
paired_less (suc j) (suc k) (n ∷ ns) (y ∷ ys) f g l = ap (λ t. (n, y) ∷ t) (paired_less j k ns ys (omega (arith, f)) (omega (arith, g)) (omega (arith, l)))

-- the pairs that are left of so many
pub paired_take : (m k j : ℕ) (ns ys : List ℕ) → k ≤ length ns → k ≤ length ys → m ≡ min k j → paired m ns ys ≡ take j (paired k ns ys)
paired_take m k j ns ys f g is = ⊎_elim
    (λ (l : j < k). let same : m ≡ j = omega (arith, is, l) in ap (λ i. paired i ns ys) same ∙ paired_less j k ns ys f g (omega (arith, l)))
    (λ (l : k ≤ j). let same : m ≡ k = omega (arith, is, l) in ap (λ i. paired i ns ys) same ∙ sym (take_all j (paired k ns ys) (omega (arith, length_paired k ns ys f g, l))))
    (cases_lt j k)

-- what stored slots bind
binds_shown : (n : ℕ) (p : ℕ × ℕ) → n < no_number → slot_binds n (stored_slot p) ≡ (p.0 == n)
binds_shown n p small = by (p.0 == no_number) refl
  where
    by : (b : Bool) → (p.0 == no_number) ≡ b → slot_binds n (cond b None (Some p)) ≡ (p.0 == n)
    by true e = let same : p.0 ≡ no_number = eqb-true p.0 no_number e in sym (ne_eqb p.0 n (λ q. omega (arith, small, same, q)))
    by false e = flipped n p.0

binds_none : (n : ℕ) (p : ℕ × ℕ) → no_number ≤ n → p.0 ≤ no_number → slot_binds n (stored_slot p) ≡ false
binds_none n p large fits = by (p.0 == no_number) refl
  where
    by : (b : Bool) → (p.0 == no_number) ≡ b → slot_binds n (cond b None (Some p)) ≡ false
    by true e = refl
    by false e = ne_eqb n p.0 (λ q. eqb-false p.0 no_number e (omega (arith, large, fits, q)))

pub shown_at : (ps : List (ℕ × ℕ)) (i : ℕ) → i < length ps → get_or (map stored_slot ps) i None ≡ stored_slot (get_or ps i (0, 0))
shown_at ps i l = get_or-map stored_slot ps i (0, 0) None l

pub shown_past : (ps : List (ℕ × ℕ)) (i : ℕ) → length ps ≤ i → get_or (map stored_slot ps) i None ≡ None
shown_past [] i l = refl
shown_past (p ∷ ps) zero l = absurd (omega (arith, l))
shown_past (p ∷ ps) (suc i) l = shown_past ps i (omega (arith, l))

module _ (k : ℕ) (ns ys : List ℕ) (n : ℕ) (lists : ArePaired k ns ys) where
  count : length (paired k ns ys) ≡ k
  count = length_paired k ns ys (omega (arith, lists)) (omega (arith, lists))

  slot_at : (i : ℕ) → i < k → get_or (map stored_slot (paired k ns ys)) i None ≡ stored_slot (get_or ns i 0, get_or ys i 0)
  slot_at i l = shown_at (paired k ns ys) i (omega (arith, l, count)) ∙ ap stored_slot (paired_at k ns ys i 0 0 (omega (arith, lists)) (omega (arith, lists)) l)

  -- nothing binds a number that has no room
  pub no_place : no_number ≤ n → (i : ℕ) → i < near → slot_binds n (get_or (map stored_slot (paired k ns ys)) i None) ≡ false
  no_place large i l = ⊎_elim
      (λ (h : i < k). ap (slot_binds n) (slot_at i h) ∙ binds_none n (get_or ns i 0, get_or ys i 0) large (lists.3 i))
      (λ (g : k ≤ i). ap (slot_binds n) (shown_past (paired k ns ys) i (omega (arith, g, count))))
      (cases_lt i k)

  -- the first of all numbers that is the one, where it is among the first k of them
  module _ (r : ℕ) (small : n < no_number) (is : r ≡ prefix_len (λ x. not (x == n)) ns) where
    pub first_place : r < k → slot_binds n (get_or (map stored_slot (paired k ns ys)) r None) ≡ true
    first_place l =
        ap (slot_binds n) (slot_at r l) ∙ binds_shown n (get_or ns r 0, get_or ys r 0) small
        ∙ ap (λ i. get_or ns i 0 == n) is ∙ not-false _ (prefix_len_stops (λ x. not (x == n)) ns 0 (omega (arith, l, lists, is)))

    pub past_places : k ≤ r → (i : ℕ) → i < near → slot_binds n (get_or (map stored_slot (paired k ns ys)) i None) ≡ false
    past_places l i within = ⊎_elim
        (λ (h : i < k). ap (slot_binds n) (slot_at i h) ∙ binds_shown n (get_or ns i 0, get_or ys i 0) small
        ∙ not-true _ (prefix_len_passes (λ x. not (x == n)) ns i 0 (omega (arith, h, l, is))))
        (λ (g : k ≤ i). ap (slot_binds n) (shown_past (paired k ns ys) i (omega (arith, g, count))))
        (cases_lt i k)

take_none : (j : ℕ) (ps : List (ℕ × ℕ)) → ps ≡ [] → take j ps ≡ []
take_none zero ps none = refl
take_none (suc j) [] none = refl
take_none (suc j) (p ∷ ps) none = absurd (cc)

take_joined : (j : ℕ) (here behind : List (ℕ × ℕ)) → take j (here ++ behind) ≡ take j here ++ take (j - length here) behind
take_joined zero here behind = let none : 0 - length here ≡ 0 = omega arith in sym (ap (λ m. take m behind) none)
take_joined (suc j) [] behind = let all : suc j - 0 ≡ suc j = omega arith in sym (ap (λ m. take m behind) all)
take_joined (suc j) (p ∷ ps) behind =
    let less : suc j - suc (length ps) ≡ j - length ps = omega arith in
    ap (λ t. p ∷ t) (take_joined j ps behind) ∙ sym (ap (λ m. p ∷ (take j ps ++ take m behind)) less)

-- slots that stand one behind the other
module _ (here behind : List (ℕ × ℕ)) (empty : ℕ) (are : AreStored here behind empty) where
  abbrev xs : SlotList
  xs = map stored_slot (here ++ behind)

  long : length xs ≡ length here + length behind
  long = length-map (here ++ behind) stored_slot ∙ length-append here behind

  -- a slot is one of the first or one of the others
  pub slot_here : (i : ℕ) → i < length here → stored_slot (get_or here i (0, 0)) ≡ get_or (map stored_slot (here ++ behind)) i None
  slot_here i l =
      sym (shown_at (here ++ behind) i (omega (arith, l, length-append here behind)) ∙ ap stored_slot (get_or_append_left here behind (0, 0) i l))

  pub slot_behind : (i : ℕ) (p : ℕ × ℕ) → length here ≤ i → i < length (map stored_slot (here ++ behind)) → p ≡ get_or behind (i - length here) p → stored_slot p ≡ get_or (map stored_slot (here ++ behind)) i None
  slot_behind i p l within read =
      let inside : i - length here < length behind = omega (arith, l, within, long) in
      ap stored_slot (get_or_read behind (i - length here) p inside read (0, 0) ∙ sym (get_or-append_right here behind (length here) i (0, 0) refl l))
      ∙ sym (shown_at (here ++ behind) i (omega (arith, within, length-map (here ++ behind) stored_slot)))

  -- the place of a number among the first
  pub found_here : (n : ℕ) (position : Option ℕ) → IsNearPlace (map stored_slot here) n position → IsNearPlace (map stored_slot (here ++ behind)) n position
  found_here n (Some i) binds = ⊎_elim
      (λ (l : i < length here). ap (slot_binds n) (sym (slot_here i l) ∙ sym (shown_at here i l)) ∙ binds)
      (λ (g : length here ≤ i). let none : slot_binds n (get_or (map stored_slot here) i None) ≡ false = ap (slot_binds n) (shown_past here i g) in absurd (cc))
      (cases_lt i (length here))
  found_here n None none = λ i small. ⊎_elim
      (λ (l : i < length here). ap (slot_binds n) (sym (slot_here i l) ∙ sym (shown_at here i l)) ∙ none i small)
      (λ (g : length here ≤ i).
      let no_more : behind ≡ [] = are.full (omega (arith, g, small)) in
      ap (slot_binds n) (shown_past (here ++ behind) i (omega (arith, g, length-append here behind, ap length no_more))))
      (cases_lt i (length here))

  -- a slot is stored anew
  module _ (i was now : ℕ) (p : ℕ × ℕ) (within : i < length (map stored_slot (here ++ behind))) (counted : was ≡ length (option_to_list (get_or (map stored_slot (here ++ behind)) i None)))
      (counts : now ≡ length (option_to_list (stored_slot p))) where
    pub stored_below : now ≤ empty + was
    stored_below = omega (arith, are.counted, counted, counts, count_set xs i (stored_slot p) within, count_filled (set xs i (stored_slot p)), length-set xs i (stored_slot p))

    stored_count : (ys : SlotList) → ys ≡ set xs i (stored_slot p) → empty + was - now + length (filled ys) ≡ length ys
    stored_count ys is =
        subst (λ zs. empty + was - now + length (filled zs) ≡ length zs) (sym is)
        (omega (arith, are.counted, counted, counts, stored_below, count_set xs i (stored_slot p) within, length-set xs i (stored_slot p)))

    pub shown_here : i < length here → map stored_slot (set here i p ++ behind) ≡ set (map stored_slot (here ++ behind)) i (stored_slot p)
    shown_here l = ap (map stored_slot) (sym (set-append_left here behind i p l)) ∙ map-set stored_slot (here ++ behind) i p

    pub stored_here : i < length here → AreStored (set here i p) behind (empty + was - now)
    stored_here l = record {
      few = omega (arith, are.few, length-set here i p);
      full = λ h. are.full (omega (arith, h, length-set here i p));
      counted = stored_count (map stored_slot (set here i p ++ behind)) (shown_here l);
    }

    pub shown_behind : length here ≤ i → map stored_slot (here ++ set behind (i - length here) p) ≡ set (map stored_slot (here ++ behind)) i (stored_slot p)
    shown_behind l = ap (map stored_slot) (sym (set-append_right here behind (length here) i p refl l)) ∙ map-set stored_slot (here ++ behind) i p

    pub stored_behind : length here ≤ i → AreStored here (set behind (i - length here) p) (empty + was - now)
    stored_behind l = record {
      few = are.few;
      full = λ h. let none : behind ≡ [] = are.full h in absurd (omega (arith, l, within, long, ap length none));
      counted = stored_count (map stored_slot (here ++ set behind (i - length here) p)) (shown_behind l);
    }

  -- a slot more
  module _ (k y : ℕ) (small : k < no_number) where
    shows : stored_slot (k, y) ≡ Some (k, y)
    shows = ap (λ b. cond b None (Some (k, y))) (ne_eqb k no_number (λ q. omega (arith, small, q)))

    pushed : (ps : List (ℕ × ℕ)) → ps ≡ (here ++ behind) ++ (k, y) ∷ [] → map stored_slot ps ≡ map stored_slot (here ++ behind) ++ Some (k, y) ∷ []
    pushed ps is = ap (map stored_slot) is ∙ map_push stored_slot (here ++ behind) (k, y) ∙ ap (λ x. map stored_slot (here ++ behind) ++ x ∷ []) shows

    pushed_count : (ps : List (ℕ × ℕ)) → ps ≡ (here ++ behind) ++ (k, y) ∷ [] → empty + length (filled (map stored_slot ps)) ≡ length (map stored_slot ps)
    pushed_count ps is = subst (λ zs. empty + length (filled zs) ≡ length zs) (sym (pushed ps is)) (empty-push empty xs are.counted (k, y))

    here_more : length here < near → (here ++ (k, y) ∷ []) ++ behind ≡ (here ++ behind) ++ (k, y) ∷ []
    here_more room =
        let none : behind ≡ [] = are.full room in
        ap (λ bs. (here ++ (k, y) ∷ []) ++ bs) none ∙ append-nil (here ++ (k, y) ∷ []) ∙ sym (ap (λ bs. (here ++ bs) ++ (k, y) ∷ []) none ∙ ap (λ hs. hs ++ (k, y) ∷ []) (append-nil here))

    pub push_here : length here < near → map stored_slot ((here ++ (k, y) ∷ []) ++ behind) ≡ map stored_slot (here ++ behind) ++ Some (k, y) ∷ []
    push_here room = pushed _ (here_more room)

    pub stored_more : length here < near → AreStored (here ++ (k, y) ∷ []) behind empty
    stored_more room = record {
      few = omega (arith, room, length-append here ((k, y) ∷ []));
      full = λ h. are.full room;
      counted = pushed_count _ (here_more room);
    }

    pub push_behind : map stored_slot (here ++ (behind ++ (k, y) ∷ [])) ≡ map stored_slot (here ++ behind) ++ Some (k, y) ∷ []
    push_behind = pushed _ (sym (append_assoc here behind ((k, y) ∷ [])))

    pub stored_further : near ≤ length here → AreStored here (behind ++ (k, y) ∷ []) empty
    stored_further room = record {
      few = are.few;
      full = λ h. absurd (omega (arith, room, h));
      counted = pushed_count _ (sym (append_assoc here behind ((k, y) ∷ [])));
    }

  -- the last ones go
  module _ (j : ℕ) where
    pub taken : map stored_slot (take j here ++ take (j - length here) behind) ≡ take j (map stored_slot (here ++ behind))
    taken = ap (map stored_slot) (sym (take_joined j here behind)) ∙ sym (take-map stored_slot j (here ++ behind))

    pub stored_less : filled (take j (map stored_slot (here ++ behind))) ≡ filled (map stored_slot (here ++ behind))
        → AreStored (take j here) (take (j - length here) behind) (empty - (length (map stored_slot (here ++ behind)) - j))
    stored_less same = record {
      few = omega (arith, are.few, length-take j here);
      full = ⊎_elim
          (λ (l : j < length here) (h : length (take j here) < near). let none : j - length here ≡ 0 = omega (arith, l) in ap (λ m. take m behind) none)
          (λ (g : length here ≤ j) (h : length (take j here) < near).
          let none : behind ≡ [] = are.full (omega (arith, g, h, length-take j here)) in
          take_none (j - length here) behind none)
          (cases_lt j (length here));
      counted = subst (λ zs. empty - (length xs - j) + length (filled zs) ≡ length zs) (sym taken) (empty-take empty xs are.counted j same);
    }

-- the first slot that is filled, from a place on
pub next_here : (xs : SlotList) (i start : ℕ) (b : ℕ × ℕ) → i < length xs → filled (drop i xs) ≡ filled (drop start xs) → Some b ≡ get_or xs i None
    → filled (drop start xs) ≡ b ∷ filled (drop (i + 1) xs)
next_here xs i start b within same is = sym same ∙ ap filled (drop_more xs i None within) ∙ ap (λ x. filled (x ∷ drop (i + 1) xs)) (sym is)

pub next_later : (xs : SlotList) (i start : ℕ) → i < length xs → filled (drop i xs) ≡ filled (drop start xs) → None ≡ get_or xs i None → filled (drop (i + 1) xs) ≡ filled (drop start xs)
next_later xs i start within same is = sym (ap filled (drop_more xs i None within) ∙ ap (λ x. filled (x ∷ drop (i + 1) xs)) (sym is)) ∙ same
