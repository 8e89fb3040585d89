-- The search by rounds comes to all that is reached, where statements are known apart by ids below the bound.
use Rattle.std.proofs.Common.{◌≡◌, ℕ, zero, suc, ◌+◌, ◌==◌, ◌||◌, ◌<◌, ◌≤◌, List, [], ◌∷◌, ◌++◌, Bool, true, false, cond, ◌⊎◌, inl, inr, map, flat_map, length, refl, ap, sym, subst, ◌∙◌, arith, length-append, append-nil, All}
use Rattle.std.proofs.lemmas.Bool.Decides.{nat_tests}
use Rattle.std.proofs.lemmas.List.Elements.{All-nil, All-cons}
use Rattle.std.proofs.lemmas.Bool.{eqb-true}
use Rattle.reachability.specs.Rows.{AreDistinct, Among as IsListed}
use Rattle.reachability.proofs.Distinct.{few_distinct}
use Rattle.semantic_model.specs.Entries.{Among}
use Rattle.semantic_model.specs.Namespace.{Item, is_among, new_items, reach, reached_within}
use Rattle.namespace_states.specs.Reaches.{Reaches, itself, onward}
use Rattle.namespace_states.proofs.Lists.{among-append, among-left, among-right, among-flat, among-flattened}

abbrev ids : List Item → List ℕ
ids xs = map (λ i. i.node.node_id) xs

other-number : (a b : ℕ) → (a == b) ≡ false → a ≡ b → ⊥
other-number a b h e = grind (arith, nat_tests)

-- one of the list has the id
found-among : (i : Item) (xs : List Item) → is_among i xs ≡ true → (x : Item) × (Among x xs × (i.node.node_id ≡ x.node.node_id))
found-among i [] h = absurd cc
found-among i (x ∷ xs) h = go (i.node.node_id == x.node.node_id) refl h (λ k. found-among i xs k)
  where
    go : (b : Bool) → (i.node.node_id == x.node.node_id) ≡ b → (b || is_among i xs) ≡ true → (is_among i xs ≡ true → (y : Item) × (Among y xs × (i.node.node_id ≡ y.node.node_id))) → (y : Item) × (Among y (x ∷ xs) × (i.node.node_id ≡ y.node.node_id))
    go true q h k = (x, (inl refl, eqb-true i.node.node_id x.node.node_id q))
    go false q h k = let (y, (a, e)) = k h in (y, (inr a, e))

none-among : (i : Item) (xs : List Item) → is_among i xs ≡ false → (x : Item) → Among x xs → i.node.node_id ≡ x.node.node_id → ⊥
none-among i [] h x a e = absurd a
none-among i (y ∷ xs) h x a e = go (i.node.node_id == y.node.node_id) refl h a (λ k b. none-among i xs k x b e)
  where
    go : (b : Bool) → (i.node.node_id == y.node.node_id) ≡ b → (b || is_among i xs) ≡ false → (y ≡ x) ⊎ Among x xs → (is_among i xs ≡ false → Among x xs → ⊥) → ⊥
    go true q h a k = absurd cc
    go false q h (inl p) k = other-number i.node.node_id y.node.node_id q (e ∙ sym (ap (λ (z : Item). z.node.node_id) p))
    go false q h (inr b) k = k h b

-- what is new stands in the list
new-in : (old xs : List Item) (j : Item) → Among j (new_items old xs) → Among j xs
new-in old [] j a = a
new-in old (i ∷ more) j a = go (is_among i old) a (λ k. new-in old more j k) (λ k. new-in (i ∷ old) more j k)
  where
    go : (b : Bool) → Among j (cond b (new_items old more) (i ∷ new_items (i ∷ old) more)) → (Among j (new_items old more) → Among j more) → (Among j (new_items (i ∷ old) more) → Among j more) → (i ≡ j) ⊎ Among j more
    go true a k l = inr (k a)
    go false (inl e) k l = inl e
    go false (inr a) k l = inr (l a)

-- none that is new is among the old
new-apart : (old xs : List Item) (j : Item) → Among j (new_items old xs) → is_among j old ≡ false
new-apart old [] j a = absurd a
new-apart old (i ∷ more) j a = go (is_among i old) refl a (λ k. new-apart old more j k) (λ k. new-apart (i ∷ old) more j k)
  where
    past : (b c : Bool) → (b || c) ≡ false → c ≡ false
    past true c h = absurd cc
    past false c h = h

    go : (b : Bool) → is_among i old ≡ b → Among j (cond b (new_items old more) (i ∷ new_items (i ∷ old) more)) → (Among j (new_items old more) → is_among j old ≡ false) → (Among j (new_items (i ∷ old) more) → is_among j (i ∷ old) ≡ false) → is_among j old ≡ false
    go true q a k l = k a
    go false q (inl e) k l = subst (λ (x : Item). is_among x old ≡ false) e q
    go false q (inr a) k l = past (j.node.node_id == i.node.node_id) (is_among j old) (l a)

listed-id : (n : ℕ) (xs : List Item) → IsListed n (ids xs) → (x : Item) × (Among x xs × (x.node.node_id ≡ n))
listed-id n [] a = absurd a
listed-id n (x ∷ xs) (inl e) = (x, (inl refl, e))
listed-id n (x ∷ xs) (inr a) = let (y, (b, e)) = listed-id n xs a in (y, (inr b, e))

-- those that are new are known apart
new-distinct : (old xs : List Item) → AreDistinct (ids (new_items old xs))
new-distinct old [] = tt
new-distinct old (i ∷ more) = go (is_among i old) (new-distinct old more) (new-distinct (i ∷ old) more)
  where
    clash : IsListed i.node.node_id (ids (new_items (i ∷ old) more)) → ⊥
    clash a =
        let (x, (b, e)) = listed-id i.node.node_id (new_items (i ∷ old) more) a in
        none-among x (i ∷ old) (new-apart (i ∷ old) more x b) i (inl refl) e

    go : (b : Bool) → AreDistinct (ids (new_items old more)) → AreDistinct (ids (new_items (i ∷ old) more)) → AreDistinct (ids (cond b (new_items old more) (i ∷ new_items (i ∷ old) more)))
    go true k l = k
    go false k l = (clash, l)

distinct-append : (xs ys : List Item) → AreDistinct (ids xs) → AreDistinct (ids ys) → ((x y : Item) → Among x xs → Among y ys → x.node.node_id ≡ y.node.node_id → ⊥) → AreDistinct (ids (xs ++ ys))
distinct-append [] ys d e h = e
distinct-append (x ∷ xs) ys d e h = (clash, distinct-append xs ys d.1 e (λ y z a b. h y z (inr a) b))
  where
    listed : (zs : List Item) (z : Item) → Among z zs → IsListed z.node.node_id (ids zs)
    listed [] z a = a
    listed (y ∷ zs) z (inl p) = inl (ap (λ (w : Item). w.node.node_id) p)
    listed (y ∷ zs) z (inr a) = inr (listed zs z a)

    clash : IsListed x.node.node_id (ids (xs ++ ys)) → ⊥
    clash a =
        let (z, (b, e)) = listed-id x.node.node_id (xs ++ ys) a in
        elim (among-append z xs ys b) [
          | inl c ↦ d.0 (subst (λ n. IsListed n (ids xs)) e (listed xs z c))
          | inr c ↦ h x z (inl refl) c (sym e)
        ]

module _ (all : List Item) (bound : ℕ) (start : Item)
    (below : (i : Item) → Among i all → i.node.node_id < bound)
    (apart : (i j : Item) → Among i all → Among j all → i.node.node_id ≡ j.node.node_id → i ≡ j)
    (within : (i j : Item) → Among i all → Among j (reach i).items → Among j all) where
  -- each of a list is old or new
  old-or-new : (old xs : List Item) → ((i : Item) → Among i old → Among i all) → ((i : Item) → Among i xs → Among i all) → (j : Item) → Among j xs → Among j old ⊎ Among j (new_items old xs)
  old-or-new old [] o h j a = absurd a
  old-or-new old (i ∷ more) o h j a = go (is_among i old) refl a (old-or-new old more o (λ k b. h k (inr b)) j) (old-or-new (i ∷ old) more wider (λ k b. h k (inr b)) j)
    where
      wider : (k : Item) → Among k (i ∷ old) → Among k all
      wider k (inl e) = h k (inl e)
      wider k (inr b) = o k b

      go : (b : Bool) → is_among i old ≡ b → (i ≡ j) ⊎ Among j more → (Among j more → Among j old ⊎ Among j (new_items old more)) → (Among j more → Among j (i ∷ old) ⊎ Among j (new_items (i ∷ old) more))
          → Among j old ⊎ Among j (cond b (new_items old more) (i ∷ new_items (i ∷ old) more))
      go true q (inl e) k l =
          let (x, (b, s)) = found-among i old q in
          let same : i ≡ x = apart i x (h i (inl refl)) (o x b) s in
          inl (subst (λ (y : Item). Among y old) (sym same ∙ e) b)
      go true q (inr a) k l = k a
      go false q (inl e) k l = inr (inl e)
      go false q (inr a) k l = elim (l a) [
        | inl b ↦ elim b [ inl e ↦ inr (inl e) | inr c ↦ inl c ]
        | inr b ↦ inr (inr b)
      ]

  -- what is known in a round, of what is reached already and what is new
  record Round (rounds : ℕ) (old fresh : List Item) : Type 0 where
    known : (i : Item) → Among i (old ++ fresh) → Among i all
    sound : (i : Item) → Among i (old ++ fresh) → Reaches start i
    begun : Among start (old ++ fresh)
    closed : (i j : Item) → Among i old → Among j (reach i).items → Among j (old ++ fresh)
    distinct : AreDistinct (ids (old ++ fresh))
    room : bound ≤ rounds + length old

  -- the list has exactly what is reached
  pub record IsAllReached (found : List Item) : Type 0 where
    pub sound : (i : Item) → Among i found → Reaches start i
    pub complete : (i : Item) → Reaches start i → Among i found

  complete-when-closed : (found : List Item) → Among start found → ((i j : Item) → Among i found → Among j (reach i).items → Among j found) → (i : Item) → Reaches start i → Among i found
  complete-when-closed found b c i itself = b
  complete-when-closed found b c i (onward j k r l) = c j i (complete-when-closed found b c j r) l

  few : (xs : List Item) → ((i : Item) → Among i xs → Among i all) → AreDistinct (ids xs) → length xs ≤ bound
  few xs h d = let same : length (ids xs) ≡ length xs = count xs in let most = few_distinct bound (ids xs) (low xs h) d in omega (arith, same, most)
    where
      count : (ys : List Item) → length (ids ys) ≡ length ys
      count [] = refl
      count (y ∷ ys) = ap suc (count ys)

      low : (ys : List Item) → ((i : Item) → Among i ys → Among i all) → All (λ n. n < bound) (ids ys)
      low [] h = All-nil (λ n. n < bound)
      low (y ∷ ys) h = All-cons (λ n. n < bound) y.node.node_id (ids ys) (below y (h y (inl refl))) (low ys (λ i a. h i (inr a)))

  next-round : (rounds : ℕ) (old : List Item) (i : Item) (fresh : List Item) → Round (suc rounds) old (i ∷ fresh) → Round rounds (old ++ i ∷ fresh) (new_items (old ++ i ∷ fresh) (flat_map (λ j. (reach j).items) (i ∷ fresh)))
  next-round rounds old i fresh r = record {
    known = λ k a. elim (among-append k mine new a) [ inl b ↦ r.known k b | inr b ↦ reached-known k (new-in mine reached k b) ];
    sound = λ k a. elim (among-append k mine new a) [ inl b ↦ r.sound k b | inr b ↦ reached-sound k (new-in mine reached k b) ];
    begun = among-left start mine new r.begun;
    closed = λ j k a l. elim (among-append j old (i ∷ fresh) a) [
      | inl b ↦ among-left k mine new (r.closed j k b l)
      | inr b ↦ elim (old-or-new mine reached r.known reached-known k (among-flat (λ x. (reach x).items) j k (i ∷ fresh) b l)) [
        | inl c ↦ among-left k mine new c
        | inr c ↦ among-right k mine new c
      ]
    ];
    distinct = distinct-append mine new r.distinct (new-distinct mine reached) (λ x y a b e. none-among y mine (new-apart mine reached y b) x a (sym e));
    room = (let longer = length-append old (i ∷ fresh) in omega (arith, longer, r.room));
  }
    where
      mine : List Item
      mine = old ++ i ∷ fresh

      reached : List Item
      reached = flat_map (λ j. (reach j).items) (i ∷ fresh)

      new : List Item
      new = new_items mine reached

      reached-known : (k : Item) → Among k reached → Among k all
      reached-known k a =
          let (x, (b, l)) = among-flattened (λ j. (reach j).items) k (i ∷ fresh) a in
          within x k (r.known x (among-right x old (i ∷ fresh) b)) l

      reached-sound : (k : Item) → Among k reached → Reaches start k
      reached-sound k a =
          let (x, (b, l)) = among-flattened (λ j. (reach j).items) k (i ∷ fresh) a in
          onward x k (r.sound x (among-right x old (i ∷ fresh) b)) l

  by-rounds : (rounds : ℕ) (old fresh : List Item) → Round rounds old fresh → IsAllReached (reached_within rounds old fresh)
  by-rounds rounds old [] r = record {
    sound = λ i a. r.sound i (among-left i old [] a);
    complete = complete-when-closed old (subst (λ xs. Among start xs) (append-nil old) r.begun) (λ i j a l. subst (λ xs. Among j xs) (append-nil old) (r.closed i j a l));
  }
  by-rounds zero old (i ∷ fresh) r =
      let most = few (old ++ i ∷ fresh) r.known r.distinct in
      let long = length-append old (i ∷ fresh) in
      absurd (omega (arith, most, long, r.room))
  by-rounds (suc rounds) old (i ∷ fresh) r =
      by-rounds rounds (old ++ i ∷ fresh) (new_items (old ++ i ∷ fresh) (flat_map (λ j. (reach j).items) (i ∷ fresh))) (next-round rounds old i fresh r)

  pub all-reached : Among start all → IsAllReached (reached_within bound [] (start ∷ []))
  all-reached a = by-rounds bound [] (start ∷ []) (record {
    known = one;
    sound = same;
    begun = inl refl;
    closed = λ i j b l. absurd b;
    distinct = ((λ b. b), tt);
    room = omega arith;
  })
    where
      one : (i : Item) → Among i (start ∷ []) → Among i all
      one i (inl e) = subst (λ (x : Item). Among x all) e a
      one i (inr b) = absurd b

      same : (i : Item) → Among i (start ∷ []) → Reaches start i
      same i (inl e) = subst (λ (x : Item). Reaches start x) e itself
      same i (inr b) = absurd b
