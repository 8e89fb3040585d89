-- Whether a statement reaches a value or a `const` enum is whether it is reached backward.
use Rattle.std.proofs.Common.{◌≡◌, ℕ, zero, suc, ◌+◌, ◌<◌, ◌≤◌, List, [], ◌∷◌, ◌++◌, Bool, true, false, inl, inr, length, get_or, drop, All, Vec, Result, Ok, Err, IfOk, refl, ap, sym, subst, ◌∙◌, arith, append_assoc}
use Rattle.std.proofs.lemmas.List.{map-append, length-map}
use Rattle.std.specs.declared.alloc.Global.{Global}
use Rattle.std.proofs.Math.ListN.{drop_of_length-le}
use Rattle.semantic_syntax.proofs.Truth.{drop_here}
use Rattle.reachability.specs.Rows.{lists, rows_from_pairs, Reached, seed, onward as step, AreWithin, Among as IsListed}
use Rattle.reachability.specs.Marked.{is_marked}
use Rattle.reachability.proofs.Pairs.{rows_have, rows_have_only}
use Rattle.reachability.proofs.Within.{all_from, length_rows_of, rows_of_within}
use Rattle.semantic_tree.specs.Children.{node_count}
use Rattle.semantic_tree.specs.Tree.{Tree, IsNumbered}
use Rattle.semantic_tree.specs.declared.node.Node.{Node}
use Rattle.semantic_model.specs.Entries.{Among}
use Rattle.semantic_model.specs.Namespace.{InstanceState, non_instantiated, const_enum_only, instantiated, Item, greater, instance_state, nodes_around}
use Rattle.namespace_states.specs.Reaches.{Reaches, itself, onward, LeadsTo, CountsAs, IsGreatestReached, statement_at}
use Rattle.namespace_states.specs.Statements.{items_from}
use Rattle.namespace_states.proofs.Standing.{apart, below_count}
use Rattle.namespace_states.proofs.Closed.{closed, leads-within}
use Rattle.namespace_states.proofs.Around.{place-in}
use Rattle.namespace_states.proofs.Greatest.{searched, only-one}
use Rattle.namespace_states.specs.Led.{Led}
use Rattle.namespace_states.proofs.Ties.{IsNoted}
use Rattle.namespace_states.specs.StatesByMarks.{state_by, states_by, state_in, AreStatesOf, AreSearched}

listed : {X : Type 0} (x : X) (xs : List X) → Among x xs → IsListed x xs
listed x [] a = a
listed x (y ∷ xs) (inl e) = inl e
listed x (y ∷ xs) (inr a) = inr (listed x xs a)

among : {X : Type 0} (x : X) (xs : List X) → IsListed x xs → Among x xs
among x [] a = a
among x (y ∷ xs) (inl e) = inl e
among x (y ∷ xs) (inr a) = inr (among x xs a)

-- a step first
before : (i j k : Item) → LeadsTo i j → Reaches j k → Reaches i k
before i j k l itself = onward i j itself l
before i j k l (onward m n r q) = onward m k (before i j m l r) q

module _ (root : Node) (numbered : IsNumbered root) (led : Led) (noted : IsNoted root led) where
  reaches-in : (i j : Item) → Among i (items_from root) → Reaches i j → Among j (items_from root)
  reaches-in i j a itself = a
  reaches-in i j a (onward k l r q) = leads-within (items_from root) (λ m b. closed root m b) k j (reaches-in i k a r) q

  pub firsts : All (λ (p : ℕ × ℕ). p.0 < node_count root) led.backward
  firsts = all_from (λ (p : ℕ × ℕ). p.0 < node_count root) led.backward go
    where
      go : (p : ℕ × ℕ) → IsListed p led.backward → p.0 < node_count root
      go p a =
          let (i, (b, (j, (l, e)))) = noted.back p (among p led.backward a) in
          let low = below_count root j numbered (leads-within (items_from root) (λ m c. closed root m c) i j b l) in
          let same : j.node.node_id ≡ p.0 = ap (λ (q : ℕ × ℕ). q.0) e in
          omega (arith, low, same)

  pub seconds : All (λ (p : ℕ × ℕ). p.1 < node_count root) led.backward
  seconds = all_from (λ (p : ℕ × ℕ). p.1 < node_count root) led.backward go
    where
      go : (p : ℕ × ℕ) → IsListed p led.backward → p.1 < node_count root
      go p a =
          let (i, (b, (j, (l, e)))) = noted.back p (among p led.backward a) in
          let low = below_count root i numbered b in
          let same : i.node.node_id ≡ p.1 = ap (λ (q : ℕ × ℕ). q.1) e in
          omega (arith, low, same)

  -- the statements of these numbers are those that count as a state
  pub record AreOf (s : InstanceState) (seeds : List ℕ) : Type 0 where
    pub only : (n : ℕ) → Among n seeds → (i : Item) × (Among i (items_from root) × (CountsAs i s × (i.node.node_id ≡ n)))
    pub each : (i : Item) → Among i (items_from root) → CountsAs i s → Among i.node.node_id seeds

  pub values_of : AreOf instantiated led.values
  values_of = record { only = noted.value; each = noted.values }

  pub const_enums_of : AreOf const_enum_only led.const_enums
  const_enums_of = record { only = noted.const_enum; each = noted.const_enums }

  pub seeds_within : (s : InstanceState) (seeds : List ℕ) → AreOf s seeds → All (λ n. n < node_count root) seeds
  seeds_within s seeds of = all_from (λ n. n < node_count root) seeds (λ n a. go n (of.only n (among n seeds a)))
    where
      go : (n : ℕ) → (i : Item) × (Among i (items_from root) × (CountsAs i s × (i.node.node_id ≡ n))) → n < node_count root
      go n (i, (b, (c, e))) = let low = below_count root i numbered b in omega (arith, low, e)

  sound : (s : InstanceState) (seeds : List ℕ) → AreOf s seeds → (n : ℕ) → Reached (rows_from_pairs (node_count root) led.backward) seeds n → (i : Item) → Among i (items_from root) → i.node.node_id ≡ n → (j : Item) × (Reaches i j × CountsAs j s)
  sound s seeds of n (seed m a) i b e =
      let (k, (c, (d, f))) = of.only n (among n seeds a) in
      let same : k ≡ i = apart root k i numbered c b (f ∙ sym e) in
      (k, (subst (λ (x : Item). Reaches x k) same itself, d))
  sound s seeds of n (step a m r l) i b e =
      let pair : Among (a, n) led.backward = among (a, n) led.backward (rows_have_only (node_count root) led.backward a n firsts l) in
      let (k, (c, (j, (q, f)))) = noted.back (a, n) pair in
      let same : k ≡ i = apart root k i numbered c b (ap (λ (p : ℕ × ℕ). p.1) f ∙ sym e) in
      let (m, (t, u)) = sound s seeds of a r j (leads-within (items_from root) (λ x y. closed root x y) k j c q) (ap (λ (p : ℕ × ℕ). p.0) f) in
      (m, (subst (λ (x : Item). Reaches x m) same (before k j m q t), u))

  complete : (seeds : List ℕ) (i j : Item) → Among i (items_from root) → Reaches i j → Reached (rows_from_pairs (node_count root) led.backward) seeds j.node.node_id → Reached (rows_from_pairs (node_count root) led.backward) seeds i.node.node_id
  complete seeds i j a itself r = r
  complete seeds i j a (onward k l q t) r =
      let back : Among (j.node.node_id, k.node.node_id) led.backward = noted.leads k j (reaches-in i k a q) t in
      complete seeds i k a q (step j.node.node_id k.node.node_id r (rows_have (node_count root) led.backward j.node.node_id k.node.node_id firsts (listed (j.node.node_id, k.node.node_id) led.backward back)))

  -- the marks are those of what is reached backward
  pub record AreMarks (seeds : List ℕ) (marks : List Bool) : Type 0 where
    pub sound : (n : ℕ) → is_marked marks n ≡ true → Reached (rows_from_pairs (node_count root) led.backward) seeds n
    pub complete : (n : ℕ) → Reached (rows_from_pairs (node_count root) led.backward) seeds n → is_marked marks n ≡ true

  pub marks_of : (rows : List (List ℕ)) (ends seeds : List ℕ) (marks : List Bool) → rows ≡ rows_from_pairs (node_count root) led.backward → ends ≡ seeds
      → ((n : ℕ) → is_marked marks n ≡ true → Reached rows ends n) → ((n : ℕ) → Reached rows ends n → is_marked marks n ≡ true) → AreMarks seeds marks
  marks_of rows ends seeds marks e f s c = record {
    sound = λ n h. subst (λ (rs : List (List ℕ)). Reached rs seeds n) e (subst (λ (xs : List ℕ). Reached rows xs n) f (s n h));
    complete = λ n r. c n (subst (λ (xs : List ℕ). Reached rows xs n) (sym f) (subst (λ (rs : List (List ℕ)). Reached rs seeds n) (sym e) r));
  }

  mark-reached : (s : InstanceState) (seeds : List ℕ) (marks : List Bool) → AreOf s seeds → AreMarks seeds marks → (i j : Item) → Among i (items_from root) → Reaches i j → CountsAs j s → is_marked marks i.node.node_id ≡ true
  mark-reached s seeds marks of m i j a r c =
      m.complete i.node.node_id (complete seeds i j a r (seed j.node.node_id (listed j.node.node_id seeds (of.each j (reaches-in i j a r) c))))

  -- so the state by the marks is the greatest that is reached
  pub state-found : (values const_enums : List Bool) → AreMarks led.values values → AreMarks led.const_enums const_enums → (i : Item) → Among i (items_from root)
      → IsGreatestReached i (state_by (is_marked values i.node.node_id) (is_marked const_enums i.node.node_id))
  state-found values const_enums v c i a = go (is_marked values i.node.node_id) refl (is_marked const_enums i.node.node_id) refl
    where
      clash : (b : Bool) → b ≡ true → b ≡ false → ⊥
      clash true p q = cc
      clash false p q = cc

      no-value : is_marked values i.node.node_id ≡ false → (j : Item) → Reaches i j → CountsAs j instantiated → ⊥
      no-value e j r k = clash (is_marked values i.node.node_id) (mark-reached instantiated led.values values values_of v i j a r k) e

      no-enum : is_marked const_enums i.node.node_id ≡ false → (j : Item) → Reaches i j → CountsAs j const_enum_only → ⊥
      no-enum e j r k = clash (is_marked const_enums i.node.node_id) (mark-reached const_enum_only led.const_enums const_enums const_enums_of c i j a r k) e

      above-enum : is_marked values i.node.node_id ≡ false → (j : Item) (t : InstanceState) → Reaches i j → CountsAs j t → greater const_enum_only t ≡ const_enum_only
      above-enum e j instantiated r k = absurd (no-value e j r k)
      above-enum e j const_enum_only r k = refl
      above-enum e j non_instantiated r k = refl

      above-none : is_marked values i.node.node_id ≡ false → is_marked const_enums i.node.node_id ≡ false → (j : Item) (t : InstanceState) → Reaches i j → CountsAs j t → greater non_instantiated t ≡ non_instantiated
      above-none e f j instantiated r k = absurd (no-value e j r k)
      above-none e f j const_enum_only r k = absurd (no-enum f j r k)
      above-none e f j non_instantiated r k = refl

      go : (b : Bool) → is_marked values i.node.node_id ≡ b → (d : Bool) → is_marked const_enums i.node.node_id ≡ d → IsGreatestReached i (state_by b d)
      go true e d f = record { above = λ j t r k. refl; reached = inr (sound instantiated led.values values_of i.node.node_id (v.sound i.node.node_id e) i a refl) }
      go false e true f = record { above = above-enum e; reached = inr (sound const_enum_only led.const_enums const_enums_of i.node.node_id (c.sound i.node.node_id f) i a refl) }
      go false e false f = record { above = above-none e f; reached = inl refl }

pub made_count : (n : ℕ) (rows : List (Vec ℕ Global)) (pairs : List (ℕ × ℕ)) → lists rows ≡ rows_from_pairs n pairs → length rows ≡ n
made_count n rows pairs e = sym (length-map rows (λ (v : Vec ℕ Global). v.items)) ∙ ap length e ∙ length_rows_of n pairs

pub made_within : (n : ℕ) (rows : List (Vec ℕ Global)) (pairs : List (ℕ × ℕ)) → lists rows ≡ rows_from_pairs n pairs → All (λ (pair : ℕ × ℕ). pair.0 < n) pairs → All (λ (pair : ℕ × ℕ). pair.1 < n) pairs → AreWithin (length rows) (lists rows)
made_within n rows pairs e h k = subst (λ m. AreWithin m (lists rows)) (sym (made_count n rows pairs e)) (subst (AreWithin n) (sym e) (rows_of_within n n pairs h k))

-- the nodes of a program are entered at its places
pub states_placed : {E : Type 0} (r : Result (List InstanceState) E) (program : Tree) → IfOk r (λ made. (i : Item) → Among i (items_from program.root) → IsGreatestReached i (state_in made i.node.node_id)) → IfOk r (λ made. AreStatesOf program made)
states_placed (Ok made) program h = λ p a. h (statement_at p) (place-in program p a)
states_placed (Err e) program h = tt

pub states_searched : {E : Type 0} (r : Result (List InstanceState) E) (program : Tree) → IsNumbered program.root → IfOk r (λ made. AreStatesOf program made) → IfOk r (λ made. AreSearched program made)
states_searched (Ok made) program n h = λ p a. only-one (statement_at p) (state_in made p.node.node_id) (instance_state p.node p.path (nodes_around p.node p.path)) (h p a) (searched program p n a)
states_searched (Err e) program n h = tt

-- the state at a place
pub state_at : (values const_enums : List Bool) (n : ℕ) → length const_enums ≡ length values → n < length values → state_in (states_by values const_enums) n ≡ state_by (is_marked values n) (is_marked const_enums n)
state_at [] cs n e h = absurd (omega arith)
state_at (v ∷ vs) [] n e h = absurd (omega (arith, e))
state_at (v ∷ vs) (c ∷ cs) zero e h = refl
state_at (v ∷ vs) (c ∷ cs) (suc n) e h = state_at vs cs n (omega (arith, e)) (omega (arith, h))

-- one more state
pub states_turn : (made : List InstanceState) (values const_enums : List Bool) (i : ℕ) (v c : Bool) → length const_enums ≡ length values → i < length values → v ≡ get_or values i v → c ≡ get_or const_enums i c
    → (made ++ state_by v c ∷ []) ++ states_by (drop (i + 1) values) (drop (i + 1) const_enums) ≡ made ++ states_by (drop i values) (drop i const_enums)
states_turn made values const_enums i v c e h p q =
    append_assoc made (state_by v c ∷ []) (states_by (drop (i + 1) values) (drop (i + 1) const_enums))
    ∙ sym (ap (λ (vs : List Bool). made ++ states_by vs (drop i const_enums)) (drop_here values i v h p) ∙ ap (λ (cs : List Bool). made ++ states_by (v ∷ drop (i + 1) values) cs) (drop_here const_enums i c (omega (arith, e, h)) q))

pub states_end : (made : List InstanceState) (values const_enums : List Bool) (i : ℕ) → length values ≤ i → made ++ states_by (drop i values) (drop i const_enums) ≡ made
states_end made values const_enums i h = ap (λ (vs : List Bool). made ++ states_by vs (drop i const_enums)) (drop_of_length-le values h) ∙ nil made
  where
    nil : (xs : List InstanceState) → xs ++ [] ≡ xs
    nil [] = refl
    nil (x ∷ xs) = ap (λ ys. x ∷ ys) (nil xs)

pub ruleset turns = (states_turn, states_end, map-append)
