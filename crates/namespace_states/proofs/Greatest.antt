-- The greatest of the states of all that is reached is the greatest that is reached.
use Rattle.std.proofs.Common.{◌≡◌, ℕ, List, [], ◌∷◌, ◌⊎◌, inl, inr, flat_map, refl, ap, sym, subst, ◌∙◌}
use Rattle.semantic_tree.specs.Children.{node_count}
use Rattle.semantic_tree.specs.Tree.{Tree, IsNumbered}
use Rattle.semantic_model.specs.Entries.{Among}
use Rattle.semantic_model.specs.Place.{Place}
use Rattle.semantic_model.specs.Step.{entering, steps}
use Rattle.semantic_model.specs.Namespace.{InstanceState, non_instantiated, const_enum_only, instantiated, greater, greatest, Item, reach, reached_within, instance_state, nodes_around}
use Rattle.namespace_states.specs.Reaches.{Reaches, IsGreatestReached, CountsAs, statement_at}
use Rattle.namespace_states.specs.Statements.{items_from}
use Rattle.namespace_states.proofs.Lists.{among-flat, among-flattened}
use Rattle.namespace_states.proofs.Standing.{below_count, apart}
use Rattle.namespace_states.proofs.Closed.{closed, leads-within}
use Rattle.namespace_states.proofs.Around.{place-in, around-place}
use Rattle.namespace_states.proofs.Rounds.{all-reached}

greater-itself : (s t : InstanceState) → greater (greater s t) s ≡ greater s t
greater-itself instantiated t = refl
greater-itself const_enum_only instantiated = refl
greater-itself const_enum_only const_enum_only = refl
greater-itself const_enum_only non_instantiated = refl
greater-itself non_instantiated instantiated = refl
greater-itself non_instantiated const_enum_only = refl
greater-itself non_instantiated non_instantiated = refl

greater-past : (s t u : InstanceState) → greater t u ≡ t → greater (greater s t) u ≡ greater s t
greater-past instantiated t u h = refl
greater-past const_enum_only instantiated u h = refl
greater-past const_enum_only const_enum_only u h = h
greater-past const_enum_only non_instantiated instantiated h = absurd cc
greater-past const_enum_only non_instantiated const_enum_only h = absurd cc
greater-past const_enum_only non_instantiated non_instantiated h = refl
greater-past non_instantiated instantiated u h = refl
greater-past non_instantiated const_enum_only u h = h
greater-past non_instantiated non_instantiated u h = h

-- the greatest of a list is at least each of it
above-all : (t : InstanceState) (ss : List InstanceState) → Among t ss → greater (greatest ss) t ≡ greatest ss
above-all t [] a = absurd a
above-all t (s ∷ ss) (inl e) = subst (λ u. greater (greater s (greatest ss)) u ≡ greater s (greatest ss)) e (greater-itself s (greatest ss))
above-all t (s ∷ ss) (inr a) = greater-past s (greatest ss) t (above-all t ss a)

one-of-two : (s t : InstanceState) → (greater s t ≡ s) ⊎ (greater s t ≡ t)
one-of-two instantiated t = inl refl
one-of-two const_enum_only instantiated = inr refl
one-of-two const_enum_only const_enum_only = inl refl
one-of-two const_enum_only non_instantiated = inl refl
one-of-two non_instantiated instantiated = inr refl
one-of-two non_instantiated const_enum_only = inr refl
one-of-two non_instantiated non_instantiated = inl refl

-- and one of it, or the least
one-of-all : (ss : List InstanceState) → (greatest ss ≡ non_instantiated) ⊎ Among (greatest ss) ss
one-of-all [] = inl refl
one-of-all (s ∷ ss) = elim (one-of-two s (greatest ss)) [
  | inl e ↦ inr (inl (sym e))
  | inr e ↦ elim (one-of-all ss) [
    | inl n ↦ inl (e ∙ n)
    | inr a ↦ inr (inr (subst (λ t. Among t ss) (sym e) a))
  ]
]

pub greatest-of-reached : (i : Item) (found : List Item) → ((j : Item) → Among j found → Reaches i j) → ((j : Item) → Reaches i j → Among j found) → IsGreatestReached i (greatest (flat_map (λ j. (reach j).states) found))
greatest-of-reached i found sound complete = record {
  above = λ j t r c. above-all t (flat_map (λ k. (reach k).states) found) (among-flat (λ k. (reach k).states) j t found (complete j r) c);
  reached = elim (one-of-all (flat_map (λ k. (reach k).states) found)) [
    | inl e ↦ inl e
    | inr a ↦ (let (j, (b, c)) = among-flattened (λ k. (reach k).states) (greatest (flat_map (λ k. (reach k).states) found)) found a in inr (j, (sound j b, c)))
  ];
}

-- the search of a place's state finds the greatest that is reached
pub searched : (program : Tree) (p : Place) → IsNumbered program.root → Among (entering p) (steps program) → IsGreatestReached (statement_at p) (instance_state p.node p.path (nodes_around p.node p.path))
searched program p h a =
    let all : List Item = items_from program.root in
    let bound : ℕ = node_count program.root in
    let start : Item = statement_at p in
    let found = all-reached all bound start (λ i b. below_count program.root i h b) (λ i j b c e. apart program.root i j h b c e) (λ i j b l. leads-within all (λ k c. closed program.root k c) i j b l) (place-in program p a) in
    subst (λ n. IsGreatestReached start (instance_state p.node p.path n)) (sym (around-place program p a))
    (greatest-of-reached start (reached_within bound [] (start ∷ [])) found.sound found.complete)

least-below : (s t : InstanceState) → greater s t ≡ s → greater t s ≡ t → s ≡ t
least-below instantiated instantiated p q = refl
least-below instantiated const_enum_only p q = cc
least-below instantiated non_instantiated p q = cc
least-below const_enum_only instantiated p q = cc
least-below const_enum_only const_enum_only p q = refl
least-below const_enum_only non_instantiated p q = cc
least-below non_instantiated instantiated p q = cc
least-below non_instantiated const_enum_only p q = cc
least-below non_instantiated non_instantiated p q = refl

at-least-none : (s : InstanceState) → greater s non_instantiated ≡ s
at-least-none instantiated = refl
at-least-none const_enum_only = refl
at-least-none non_instantiated = refl

-- only one state is the greatest that is reached
pub only-one : (i : Item) (s t : InstanceState) → IsGreatestReached i s → IsGreatestReached i t → s ≡ t
only-one i s t g h = least-below s t (over s t g h.reached) (over t s h g.reached)
  where
    over : (s t : InstanceState) → IsGreatestReached i s → (t ≡ non_instantiated) ⊎ ((j : Item) × (Reaches i j × CountsAs j t)) → greater s t ≡ s
    over s t g (inl e) = ap (λ u. greater s u) e ∙ at-least-none s
    over s t g (inr (j, (r, c))) = g.above j t r c
