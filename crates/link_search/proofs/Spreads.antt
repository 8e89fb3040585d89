-- What is known grows, is true, and in the end is all.
use Rattle.std.proofs.Common.{◌≡◌, ◌≢◌, ◌<◌, ◌≤◌, ◌+◌, ◌⊎◌, inl, inr, ℕ, zero, suc, ◌==◌, List, [], ◌∷◌, ◌++◌, refl, sym, ap, subst, ◌∙◌, length, get_or, set, map, drop, replicate, arith, All, Bool, true, false, cond, length-set, get_or-set_same, get_or-set_other, eq-eqb}
use Rattle.std.proofs.lemmas.Bool.{cases_eq, eqb-true}
use Rattle.std.proofs.lemmas.List.{length-replicate, drop_more}
use Rattle.std.proofs.lemmas.List.Elements.{All-head, All-tail, All-nil, All-append, All-map}
use Rattle.reachability.specs.Rows.{Among, row, AreWithin}
use Rattle.reachability.proofs.Lists.{among_left, among_right, among_either}
use Rattle.link_search.specs.Steps.{Leads}
use Rattle.link_search.specs.declared.terminals.Terminals.{Terminals}
use Rattle.link_search.specs.declared.terminals.Terminals.TheVariants as those
use Rattle.link_search.specs.Reached.{ReachesEnd, ReachesTwo, AnswerTells, joined, absorbs, Spread, known_of, spread_raised, raised_all, with_ends, backward_from}

absorbs_itself : (x : Terminals) → absorbs x x ≡ true
absorbs_itself those.Nowhere = refl
absorbs_itself (those.One t) = eq-eqb t t refl
absorbs_itself those.Several = refl

absorbs_left : (x v : Terminals) → absorbs (joined x v) x ≡ true
absorbs_left those.Nowhere v = refl
absorbs_left (those.One t) those.Nowhere = eq-eqb t t refl
absorbs_left (those.One t) (those.One u) = go (t == u)
  where
    go : (b : Bool) → absorbs (cond b (those.One t) those.Several) (those.One t) ≡ true
    go true = eq-eqb t t refl
    go false = refl
absorbs_left (those.One t) those.Several = refl
absorbs_left those.Several those.Nowhere = refl
absorbs_left those.Several (those.One u) = refl
absorbs_left those.Several those.Several = refl

absorbs_right : (x v : Terminals) → absorbs (joined x v) v ≡ true
absorbs_right those.Nowhere v = absorbs_itself v
absorbs_right (those.One t) those.Nowhere = refl
absorbs_right (those.One t) (those.One u) = go (t == u) refl
  where
    go : (b : Bool) → (t == u) ≡ b → absorbs (cond b (those.One t) those.Several) (those.One u) ≡ true
    go true e = e
    go false e = refl
absorbs_right (those.One t) those.Several = refl
absorbs_right those.Several those.Nowhere = refl
absorbs_right those.Several (those.One u) = refl
absorbs_right those.Several those.Several = refl

absorbs_through : (x y z : Terminals) → absorbs y x ≡ true → absorbs z y ≡ true → absorbs z x ≡ true
absorbs_through those.Nowhere y z e f = refl
absorbs_through (those.One t) those.Nowhere z e f = absurd cc
absorbs_through (those.One t) (those.One u) those.Nowhere e f = absurd cc
absorbs_through (those.One t) (those.One u) (those.One w) e f = eq-eqb w t (eqb-true w u f ∙ eqb-true u t e)
absorbs_through (those.One t) (those.One u) those.Several e f = refl
absorbs_through (those.One t) those.Several those.Nowhere e f = absurd cc
absorbs_through (those.One t) those.Several (those.One w) e f = absurd cc
absorbs_through (those.One t) those.Several those.Several e f = refl
absorbs_through those.Several those.Nowhere z e f = absurd cc
absorbs_through those.Several (those.One u) z e f = absurd cc
absorbs_through those.Several those.Several those.Nowhere e f = absurd cc
absorbs_through those.Several those.Several (those.One w) e f = absurd cc
absorbs_through those.Several those.Several those.Several e f = refl

abbrev height : Terminals → ℕ
height those.Nowhere = 4
height (those.One t) = 2
height those.Several = 0

lower : (x v : Terminals) → absorbs x v ≡ false → height (joined x v) + 2 ≤ height x
lower those.Nowhere those.Nowhere e = absurd cc
lower those.Nowhere (those.One u) e = omega arith
lower those.Nowhere those.Several e = omega arith
lower (those.One t) those.Nowhere e = absurd cc
lower (those.One t) (those.One u) e = rw e (omega arith)
lower (those.One t) those.Several e = omega arith
lower those.Several those.Nowhere e = absurd cc
lower those.Several (those.One u) e = absurd cc
lower those.Several those.Several e = absurd cc

abbrev total : List Terminals → ℕ
total [] = 0
total (x ∷ xs) = height x + total xs

total_set : (xs : List Terminals) (a : ℕ) (y : Terminals) → a < length xs → height y + 2 ≤ height (known_of xs a) → total (set xs a y) + 2 ≤ total xs
total_set [] a y h e = absurd (omega (arith, h))
total_set (x ∷ xs) zero y h e = omega (arith, e)
total_set (x ∷ xs) (suc a) y h e = let i : total (set xs a y) + 2 ≤ total xs = total_set xs a y (omega (arith, h)) e in omega (arith, i)

-- what is left to do
abbrev pub work : Spread → ℕ
work s = total s.values + length s.news

row_is : (rs : List (List ℕ)) (a : ℕ) → row rs a ≡ get_or rs a []
row_is [] a = refl
row_is (r ∷ rs) zero = refl
row_is (r ∷ rs) (suc a) = row_is rs a

drop_row : (rs : List (List ℕ)) (a : ℕ) → a < length rs → drop a rs ≡ row rs a ∷ drop (a + 1) rs
drop_row rs a h = drop_more rs a [] h ∙ ap (λ r. r ∷ drop (a + 1) rs) (sym (row_is rs a))

pub backward_more : (rs : List (List ℕ)) (a : ℕ) → a < length rs → backward_from a (drop a rs) ≡ map (λ b. (b, a)) (row rs a) ++ backward_from (a + 1) (drop (a + 1) rs)
backward_more rs a h = ap (backward_from a) (drop_row rs a h)

abbrev pub Pair : ℕ → ℕ → List (ℕ × ℕ) → Type 0
Pair b n pairs = Among {A = ℕ × ℕ} (b, n) pairs

-- a step, and the same backward
in_pairs : (n b : ℕ) (r : List ℕ) → Among b r → Pair b (n) (map (λ c. (c, n)) r)
in_pairs n b [] i = absurd i
in_pairs n b (c ∷ r) (inl e) = inl (ap (λ d. (d, n)) e)
in_pairs n b (c ∷ r) (inr i) = inr (in_pairs n b r i)

pub steps_backward : (n : ℕ) (rs : List (List ℕ)) (a b : ℕ) → Among b (row rs a) → Pair b (n + a) (backward_from n rs)
steps_backward n [] a b i = absurd i
steps_backward n (r ∷ rs) zero b i = among_left (b, n + 0) (map (λ c. (c, n)) r) (backward_from (n + 1) rs) (subst (λ k. Pair b (k) (map (λ c. (c, n)) r)) (omega arith) (in_pairs n b r i))
steps_backward n (r ∷ rs) (suc a) b i = among_right (b, n + suc a) (map (λ c. (c, n)) r) (backward_from (n + 1) rs) (subst (λ k. Pair b (k) (backward_from (n + 1) rs)) (omega arith) (steps_backward (n + 1) rs a b i))

pub record Forward (n : ℕ) (rs : List (List ℕ)) (b x : ℕ) : Type 0 where
  pub from : ℕ
  pub is : x ≡ n + from
  pub step : Among b (row rs from)

from_pairs : (n b x : ℕ) (r : List ℕ) → Pair b (x) (map (λ c. (c, n)) r) → Among b r × (x ≡ n)
from_pairs n b x [] i = absurd i
from_pairs n b x (c ∷ r) (inl e) = (inl (ap (λ p. p.0) e), sym (ap (λ p. p.1) e))
from_pairs n b x (c ∷ r) (inr i) = let j : Among b r × (x ≡ n) = from_pairs n b x r i in (inr j.0, j.1)

pub backward_steps : (n : ℕ) (rs : List (List ℕ)) (b x : ℕ) → Pair b (x) (backward_from n rs) → Forward n rs b x
backward_steps n [] b x i = absurd i
backward_steps n (r ∷ rs) b x i = go (among_either (b, x) (map (λ c. (c, n)) r) (backward_from (n + 1) rs) i) (λ j. backward_steps (n + 1) rs b x j)
  where
    go : Pair b (x) (map (λ c. (c, n)) r) ⊎ Pair b (x) (backward_from (n + 1) rs) → (Pair b (x) (backward_from (n + 1) rs) → Forward (n + 1) rs b x) → Forward n (r ∷ rs) b x
    go (inl j) more = let k : Among b r × (x ≡ n) = from_pairs n b x r j in record { from = 0; is = (let e : x ≡ n = k.1 in omega (arith, e)); step = k.0 }
    go (inr j) more = let f : Forward (n + 1) rs b x = more j in record { from = suc f.from; is = (let e : x ≡ n + 1 + f.from = f.is in omega (arith, e)); step = f.step }

-- the seconds of steps backward have rows
pub backward_within : (n k : ℕ) (rs : List (List ℕ)) → AreWithin n rs → All (λ p. p.0 < n) (backward_from k rs)
backward_within n k [] h = All-nil (λ p. p.0 < n)
backward_within n k (r ∷ rs) h =
    All-append (λ p. p.0 < n) (map (λ c. (c, k)) r) (backward_from (k + 1) rs)
    (All-map (λ p. p.0 < n) (λ c. (c, k)) r (All-head (All (λ b. b < n)) r rs h))
    (backward_within n (k + 1) rs (All-tail (All (λ b. b < n)) r rs h))

module _ (rows : List (List ℕ)) (ends : List (ℕ × ℕ)) where
  -- what is known is true
  abbrev pub Holds : Terminals → ℕ → Type 0
  Holds those.Nowhere a = Unit {0}
  Holds (those.One t) a = ReachesEnd rows ends a t
  Holds those.Several a = ReachesTwo rows ends a

  end_before : (a b t : ℕ) → Among b (row rows a) → ReachesEnd rows ends b t → ReachesEnd rows ends a t
  end_before a b t i r = record { there = r.there; reached = Leads.onward a b r.there i r.reached; end = r.end }

  holds_before : (v : Terminals) (a b : ℕ) → Among b (row rows a) → Holds v b → Holds v a
  holds_before those.Nowhere a b i h = tt
  holds_before (those.One t) a b i h = end_before a b t i h
  holds_before those.Several a b i h = record { one = h.one; other = h.other; reached_one = end_before a b h.one i h.reached_one; reached_other = end_before a b h.other i h.reached_other; differ = h.differ }

  joined_holds : (x v : Terminals) (a : ℕ) → Holds x a → Holds v a → Holds (joined x v) a
  joined_holds those.Nowhere v a h k = k
  joined_holds (those.One t) those.Nowhere a h k = h
  joined_holds (those.One t) (those.One u) a h k = go (t == u) refl
    where
      go : (b : Bool) → (t == u) ≡ b → Holds (cond b (those.One t) those.Several) a
      go true e = h
      go false e = record { one = t; other = u; reached_one = h; reached_other = k; differ = λ f. absurd (differ (sym (eq-eqb t u f) ∙ e)) }
        where
          differ : true ≡ false → ⊥
          differ f = absurd cc
  joined_holds (those.One t) those.Several a h k = k
  joined_holds those.Several those.Nowhere a h k = h
  joined_holds those.Several (those.One u) a h k = h
  joined_holds those.Several those.Several a h k = h

  pub record Spreads (n : ℕ) (s : Spread) : Type 0 where
    pub size : length s.values ≡ n
    pub within : (x : ℕ) → Among x s.news → x < n
    pub holds : (x : ℕ) → Holds (known_of s.values x) x

  -- what leads to a number knows what it knows, or will be told: it is among the news, or it is b, whose value is being told to these
  abbrev pub Told : ℕ → Terminals → List ℕ → Spread → Type 0
  Told b v rest s = (x y : ℕ) → Among y (row rows x) → (absorbs (known_of s.values x) (known_of s.values y) ≡ true) ⊎ (Among y s.news ⊎ ((y ≡ b) × Among x rest × (known_of s.values y ≡ v)))

  pub record Raised (n : ℕ) (s r : Spread) : Type 0 where
    pub spreads : Spreads n r
    pub grows : (x : ℕ) → absorbs (known_of r.values x) (known_of s.values x) ≡ true
    pub less : work r ≤ work s

  module _ (n : ℕ) (s : Spread) (a : ℕ) (v : Terminals) where
    abbrev new_values : List Terminals
    new_values = set s.values a (joined (known_of s.values a) v)

    higher : Spread
    higher = record { values = new_values; news = a ∷ s.news }

    there : a < length s.values → known_of new_values a ≡ joined (known_of s.values a) v
    there h = get_or-set_same s.values a (joined (known_of s.values a) v) those.Nowhere h

    elsewhere : (x : ℕ) → x ≢ a → known_of new_values x ≡ known_of s.values x
    elsewhere x other = get_or-set_other s.values a x (joined (known_of s.values a) v) those.Nowhere other

    raises_to : Spreads n s → a < n → Holds v a → absorbs (known_of s.values a) v ≡ false → Raised n s (record { values = new_values; news = a ∷ s.news })
    raises_to k l hv e =
        let h : a < length s.values = subst (λ m. a < m) (sym k.size) l in
        record {
          spreads = record {
            size = length-set s.values a (joined (known_of s.values a) v) ∙ k.size;
            within = λ x i. within x i;
            holds = λ x. holds h x (cases_eq x a);
          };
          grows = λ x. grows h x (cases_eq x a);
          less = (let t : total new_values + 2 ≤ total s.values = total_set s.values a (joined (known_of s.values a) v) h (lower (known_of s.values a) v e) in omega (arith, t));
        }
      where
        within : (x : ℕ) → Among x (a ∷ s.news) → x < n
        within x (inl same) = subst (λ y. y < n) same l
        within x (inr i) = k.within x i

        holds : a < length s.values → (x : ℕ) → (x ≡ a) ⊎ (x ≢ a) → Holds (known_of new_values x) x
        holds h x (inl same) = subst (λ y. Holds (known_of new_values y) y) (sym same) (subst (λ w. Holds w a) (sym (there h)) (joined_holds (known_of s.values a) v a (k.holds a) hv))
        holds h x (inr other) = subst (λ w. Holds w x) (sym (elsewhere x other)) (k.holds x)

        grows : a < length s.values → (x : ℕ) → (x ≡ a) ⊎ (x ≢ a) → absorbs (known_of new_values x) (known_of s.values x) ≡ true
        grows h x (inl same) = subst (λ y. absorbs (known_of new_values y) (known_of s.values y) ≡ true) (sym same) (ap (λ w. absorbs w (known_of s.values a)) (there h) ∙ absorbs_left (known_of s.values a) v)
        grows h x (inr other) = ap (λ w. absorbs w (known_of s.values x)) (elsewhere x other) ∙ absorbs_itself (known_of s.values x)

    pub raises : Spreads n s → a < n → Holds v a → Raised n s (spread_raised s a v)
    raises k l hv = go (absorbs (known_of s.values a) v) refl
      where
        go : (b : Bool) → absorbs (known_of s.values a) v ≡ b → Raised n s (cond b s (record { values = new_values; news = a ∷ s.news }))
        go true e = record { spreads = k; grows = λ x. absorbs_itself (known_of s.values x); less = omega arith }
        go false e = raises_to k l hv e

    -- the number has the value then
    pub has : a < length s.values → absorbs (known_of (spread_raised s a v).values a) v ≡ true
    has h = go (absorbs (known_of s.values a) v) refl
      where
        go : (b : Bool) → absorbs (known_of s.values a) v ≡ b → absorbs (known_of (cond b s (record { values = new_values; news = a ∷ s.news })).values a) v ≡ true
        go true e = e
        go false e = ap (λ w. absorbs w v) (there h) ∙ absorbs_right (known_of s.values a) v

    pub told_on : (b : ℕ) (rest : List ℕ) → a < length s.values → Told b v (a ∷ rest) s → Told b v rest (spread_raised s a v)
    told_on b rest h t = λ x y i. go (absorbs (known_of s.values a) v) refl x y i
      where
        stays : absorbs (known_of s.values a) v ≡ true → (x y : ℕ) → (absorbs (known_of s.values x) (known_of s.values y) ≡ true) ⊎ (Among y s.news ⊎ ((y ≡ b) × Among x (a ∷ rest) × (known_of s.values y ≡ v))) → (absorbs (known_of s.values x) (known_of s.values y) ≡ true) ⊎ (Among y s.news ⊎ ((y ≡ b) × Among x rest × (known_of s.values y ≡ v)))
        stays e x y (inl f) = inl f
        stays e x y (inr (inl j)) = inr (inl j)
        stays e x y (inr (inr (p, inl same, q))) = inl (subst (λ z. absorbs (known_of s.values z) (known_of s.values y) ≡ true) same (ap (absorbs (known_of s.values a)) q ∙ e))
        stays e x y (inr (inr (p, inr j, q))) = inr (inr (p, j, q))

        -- what x knows is no less than before
        more : (x : ℕ) → (x ≡ a) ⊎ (x ≢ a) → absorbs (known_of new_values x) (known_of s.values x) ≡ true
        more x (inl same) = subst (λ y. absorbs (known_of new_values y) (known_of s.values y) ≡ true) (sym same) (ap (λ w. absorbs w (known_of s.values a)) (there h) ∙ absorbs_left (known_of s.values a) v)
        more x (inr other) = ap (λ w. absorbs w (known_of s.values x)) (elsewhere x other) ∙ absorbs_itself (known_of s.values x)

        rises : (x y : ℕ) → (y ≡ a) ⊎ (y ≢ a) → (absorbs (known_of s.values x) (known_of s.values y) ≡ true) ⊎ (Among y s.news ⊎ ((y ≡ b) × Among x (a ∷ rest) × (known_of s.values y ≡ v))) → (absorbs (known_of new_values x) (known_of new_values y) ≡ true) ⊎ (Among y (a ∷ s.news) ⊎ ((y ≡ b) × Among x rest × (known_of new_values y ≡ v)))
        rises x y (inl same) o = inr (inl (inl (sym same)))
        rises x y (inr other) (inl f) = inl (ap (absorbs (known_of new_values x)) (elsewhere y other) ∙ absorbs_through (known_of s.values y) (known_of s.values x) (known_of new_values x) f (more x (cases_eq x a)))
        rises x y (inr other) (inr (inl j)) = inr (inl (inr j))
        rises x y (inr other) (inr (inr (p, inl same, q))) = inl (ap (absorbs (known_of new_values x)) (elsewhere y other ∙ q) ∙ subst (λ z. absorbs (known_of new_values z) v ≡ true) same (ap (λ w. absorbs w v) (there h) ∙ absorbs_right (known_of s.values a) v))
        rises x y (inr other) (inr (inr (p, inr j, q))) = inr (inr (p, j, elsewhere y other ∙ q))

        go : (c : Bool) → absorbs (known_of s.values a) v ≡ c → (x y : ℕ) → Among y (row rows x) → (absorbs (known_of (cond c s (record { values = new_values; news = a ∷ s.news })).values x) (known_of (cond c s (record { values = new_values; news = a ∷ s.news })).values y) ≡ true) ⊎ (Among y (cond c s (record { values = new_values; news = a ∷ s.news })).news ⊎ ((y ≡ b) × Among x rest × (known_of (cond c s (record { values = new_values; news = a ∷ s.news })).values y ≡ v)))
        go true e x y i = stays e x y (t x y i)
        go false e x y i = rises x y (cases_eq y a) (t x y i)

  told_all : (n b : ℕ) (v : Terminals) (s : Spread) (rest : List ℕ) → Spreads n s → All (λ x. x < n) rest → ((x : ℕ) → Among x rest → Holds v x) → Told b v rest s → Raised n s (raised_all s rest v) × Told b v [] (raised_all s rest v)
  told_all n b v s [] k l h t = (record { spreads = k; grows = λ x. absorbs_itself (known_of s.values x); less = omega arith }, t)
  told_all n b v s (a ∷ rest) k l h t =
      let in' : a < n = All-head (λ x. x < n) a rest l in
      let one : Raised n s (spread_raised s a v) = raises n s a v k in' (h a (inl refl)) in
      let more : Raised n (spread_raised s a v) (raised_all (spread_raised s a v) rest v) × Told b v [] (raised_all (spread_raised s a v) rest v) =
      told_all n b v (spread_raised s a v) rest one.spreads (All-tail (λ x. x < n) a rest l) (λ x i. h x (inr i)) (told_on n s a v b rest (subst (λ m. a < m) (sym k.size) in') t) in (
        record {
          spreads = more.0.spreads;
          grows = λ x. absorbs_through (known_of s.values x) (known_of (spread_raised s a v).values x) (known_of (raised_all (spread_raised s a v) rest v).values x) (one.grows x) (more.0.grows x);
          less = (let e : work (spread_raised s a v) ≤ work s = one.less in let f : work (raised_all (spread_raised s a v) rest v) ≤ work (spread_raised s a v) = more.0.less in omega (arith, e, f));
        },
        more.1,
      )

  -- each number knows the terminals in which it ends
  abbrev pub Ended : List (ℕ × ℕ) → Spread → Type 0
  Ended from s = (a t : ℕ) → Pair a t from → absorbs (known_of s.values a) (those.One t) ≡ true

  -- what leads to a number knows what it knows, or will be told
  abbrev pub Closed : Spread → Type 0
  Closed s = (x y : ℕ) → Among y (row rows x) → (absorbs (known_of s.values x) (known_of s.values y) ≡ true) ⊎ Among y s.news

  pub closed_told : (b : ℕ) (v : Terminals) (s : Spread) → Told b v [] s → Closed s
  closed_told b v s t x y i = go (t x y i)
    where
      go : (absorbs (known_of s.values x) (known_of s.values y) ≡ true) ⊎ (Among y s.news ⊎ ((y ≡ b) × ⊥ × (known_of s.values y ≡ v))) → (absorbs (known_of s.values x) (known_of s.values y) ≡ true) ⊎ Among y s.news
      go (inl e) = inl e
      go (inr (inl j)) = inr j
      go (inr (inr w)) = absurd w.1

  told_closed : (b : ℕ) (v : Terminals) (rest : List ℕ) (s : Spread) → Closed s → Told b v rest s
  told_closed b v rest s t x y i = elim (t x y i) [ inl e ↦ inl e | inr j ↦ inr (inl j) ]

  pub ends_all : (n : ℕ) (s : Spread) (more : List (ℕ × ℕ)) → Spreads n s → Closed s → All (λ end. end.0 < n) more → ((a t : ℕ) → Pair a t more → Pair a t ends) → Raised n s (with_ends s more) × Closed (with_ends s more) × Ended more (with_ends s more)
  ends_all n s [] k t l h = (record { spreads = k; grows = λ x. absorbs_itself (known_of s.values x); less = omega arith }, t, (λ a u i. absurd i))
  ends_all n s (end ∷ more) k t l h =
      let v : Terminals = those.One end.1 in
      let in' : end.0 < n = All-head (λ e. e.0 < n) end more l in
      let inside : end.0 < length s.values = subst (λ m. end.0 < m) (sym k.size) in' in
      let one : Raised n s (spread_raised s end.0 v) = raises n s end.0 v k in' (record { there = end.0; reached = Leads.itself end.0; end = h end.0 end.1 (inl refl) }) in
      let rest : Raised n (spread_raised s end.0 v) (with_ends (spread_raised s end.0 v) more) × Closed (with_ends (spread_raised s end.0 v) more) × Ended more (with_ends (spread_raised s end.0 v) more) =
      ends_all n (spread_raised s end.0 v) more one.spreads (closed_told 0 v (spread_raised s end.0 v) (told_on n s end.0 v 0 [] inside (told_closed 0 v (end.0 ∷ []) s t))) (All-tail (λ e. e.0 < n) end more l) (λ a u i. h a u (inr i)) in (
        record {
          spreads = rest.0.spreads;
          grows = λ x. absorbs_through (known_of s.values x) (known_of (spread_raised s end.0 v).values x) (known_of (with_ends (spread_raised s end.0 v) more).values x) (one.grows x) (rest.0.grows x);
          less = (let e : work (spread_raised s end.0 v) ≤ work s = one.less in let f : work (with_ends (spread_raised s end.0 v) more) ≤ work (spread_raised s end.0 v) = rest.0.less in omega (arith, e, f));
        },
        rest.1,
        (λ a u i. ended inside rest.0.grows rest.2 a u i),
      )
    where
      ended : end.0 < length s.values → ((x : ℕ) → absorbs (known_of (with_ends (spread_raised s end.0 (those.One end.1)) more).values x) (known_of (spread_raised s end.0 (those.One end.1)).values x) ≡ true) → Ended more (with_ends (spread_raised s end.0 (those.One end.1)) more) → (a u : ℕ) → Pair a u (end ∷ more) → absorbs (known_of (with_ends (spread_raised s end.0 (those.One end.1)) more).values a) (those.One u) ≡ true
      ended inside grows later a u (inl e) =
          subst (λ p. absorbs (known_of (with_ends (spread_raised s end.0 (those.One end.1)) more).values p.0) (those.One p.1) ≡ true) e
          (absorbs_through (those.One end.1) (known_of (spread_raised s end.0 (those.One end.1)).values end.0) (known_of (with_ends (spread_raised s end.0 (those.One end.1)) more).values end.0) (has n s end.0 (those.One end.1) inside) (grows end.0))
      ended inside grows later a u (inr i) = later a u i

  -- all that is known in the loop
  pub record Knows (n : ℕ) (s : Spread) : Type 0 where
    pub spreads : Spreads n s
    pub closed : Closed s
    pub ended : Ended ends s

  pub nothing_known : (n : ℕ) → Spreads n (record { values = replicate n those.Nowhere; news = [] })
  nothing_known n = record {
    size = length-replicate n those.Nowhere;
    within = λ x i. absurd i;
    holds = λ x. subst (λ v. Holds v x) (sym (nowhere n x)) tt;
  }
    where
      nowhere : (k x : ℕ) → known_of (replicate k those.Nowhere) x ≡ those.Nowhere
      nowhere zero x = refl
      nowhere (suc k) zero = refl
      nowhere (suc k) (suc x) = nowhere k x

  pub begins : (n : ℕ) → All (λ end. end.0 < n) ends → Knows n (with_ends (record { values = replicate n those.Nowhere; news = [] }) ends)
  begins n l =
      let all : Raised n (record { values = replicate n those.Nowhere; news = [] }) (with_ends (record { values = replicate n those.Nowhere; news = [] }) ends) × Closed (with_ends (record { values = replicate n those.Nowhere; news = [] }) ends) × Ended ends (with_ends (record { values = replicate n those.Nowhere; news = [] }) ends) =
      ends_all n (record { values = replicate n those.Nowhere; news = [] }) ends (nothing_known n) (λ x y i. inl (nowhere (known_of (replicate n those.Nowhere) x) y)) l (λ a t i. i) in
      record { spreads = all.0.spreads; closed = all.1; ended = all.2 }
    where
      nowhere_at : (k x : ℕ) → known_of (replicate k those.Nowhere) x ≡ those.Nowhere
      nowhere_at zero x = refl
      nowhere_at (suc k) zero = refl
      nowhere_at (suc k) (suc x) = nowhere_at k x

      nowhere : (x : Terminals) (y : ℕ) → absorbs x (known_of (replicate n those.Nowhere) y) ≡ true
      nowhere x y = ap (absorbs x) (nowhere_at n y)

  -- a turn: the news of a number are handed on to those in its row backward
  pub turn : (n b : ℕ) (values : List Terminals) (news back : List ℕ) → Knows n (record { values = values; news = b ∷ news }) → All (λ x. x < n) back → ((x : ℕ) → Among b (row rows x) → Among x back) → ((x : ℕ) → Among x back → Among b (row rows x)) → Knows n (raised_all (record { values = values; news = news }) back (known_of values b)) × (work (raised_all (record { values = values; news = news }) back (known_of values b)) < work (record { values = values; news = b ∷ news }))
  turn n b values news back k l to from =
      let s : Spread = record { values = values; news = news } in
      let done : Raised n s (raised_all s back (known_of values b)) × Told b (known_of values b) [] (raised_all s back (known_of values b)) =
      told_all n b (known_of values b) s back (record { size = k.spreads.size; within = λ x i. k.spreads.within x (inr i); holds = k.spreads.holds }) l (λ x i. holds_before (known_of values b) x b (from x i) (k.spreads.holds b)) told in (
        record {
          spreads = done.0.spreads;
          closed = closed_told b (known_of values b) (raised_all s back (known_of values b)) done.1;
          ended = λ a t i. absorbs_through (those.One t) (known_of values a) (known_of (raised_all s back (known_of values b)).values a) (k.ended a t i) (done.0.grows a);
        },
        (let e : work (raised_all s back (known_of values b)) ≤ work s = done.0.less in omega (arith, e)),
      )
    where
      told : Told b (known_of values b) back (record { values = values; news = news })
      told x y i = go (k.closed x y i)
        where
          go : (absorbs (known_of values x) (known_of values y) ≡ true) ⊎ Among y (b ∷ news) → (absorbs (known_of values x) (known_of values y) ≡ true) ⊎ (Among y news ⊎ ((y ≡ b) × Among x back × (known_of values y ≡ known_of values b)))
          go (inl e) = inl e
          go (inr (inl same)) = inr (inr (sym same, to x (subst (λ z. Among z (row rows x)) (sym same) i), ap (known_of values) (sym same)))
          go (inr (inr j)) = inr (inl j)

  -- in the end all is known
  absorbs_end : (n : ℕ) (s : Spread) → Knows n s → s.news ≡ [] → (a b t : ℕ) → Leads rows a b → Pair b t ends → absorbs (known_of s.values a) (those.One t) ≡ true
  absorbs_end n s k e a _ t (Leads.itself _) i = k.ended a t i
  absorbs_end n s k e a b t (Leads.onward _ c _ j rest) i = absorbs_through (those.One t) (known_of s.values c) (known_of s.values a) (absorbs_end n s k e c b t rest i) (known (k.closed a c j))
    where
      known : (absorbs (known_of s.values a) (known_of s.values c) ≡ true) ⊎ Among c s.news → absorbs (known_of s.values a) (known_of s.values c) ≡ true
      known (inl f) = f
      known (inr m) = absurd (subst (λ l. Among c l) e m)

  pub tells : (n : ℕ) (s : Spread) (a : ℕ) → Knows n s → s.news ≡ [] → AnswerTells rows ends (known_of s.values a) a
  tells n s a k e = go (known_of s.values a) (k.spreads.holds a) (λ t r. absorbs_end n s k e a r.there t r.reached r.end)
    where
      go : (v : Terminals) → Holds v a → ((t : ℕ) → ReachesEnd rows ends a t → absorbs v (those.One t) ≡ true) → AnswerTells rows ends v a
      go those.Nowhere h all = λ t r. absurd (differ (all t r))
        where
          differ : false ≡ true → ⊥
          differ f = absurd cc
      go (those.One t) h all = (h, (λ u r. sym (eqb-true t u (all u r))))
      go those.Several h all = h
