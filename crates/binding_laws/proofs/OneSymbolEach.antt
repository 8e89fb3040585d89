-- The declarations of one name in one scope have one symbol, and the later one of two that exclude one another is told.
use Rattle.std.proofs.Common.{◌≡◌, ℕ, List, [], ◌∷◌, None, true, false, ◌⊎◌, inl, inr, refl, sym, subst, ◌∙◌}
use Rattle.std.proofs.lemmas.Bool.Decides.{eqb_tells}
use Rattle.semantic_syntax.specs.Tables.{Name}
use Rattle.semantic_tree.specs.Faults.{first_fault}
use Rattle.semantic_tree.specs.Tree.{Tree}
use Rattle.semantic_model.specs.Declaration.{How, plain, hoisted, moved, caught, Declaration, stands_in}
use Rattle.semantic_model.specs.Entries.{Among}
use Rattle.semantic_model.specs.Event.{events, declarations}
use Rattle.semantic_model.specs.Step.{steps}
use Rattle.semantic_model.proofs.once.ListedUnder.{name_tells}
use Rattle.binding_laws.specs.OneSymbol.{takes_by, NoneTakes, OneSymbolEach, ConflictsAreTold}
use Rattle.binding_laws.proofs.KeptSteps.{end_settled}
use Rattle.binding_laws.proofs.KeptSymbols.{IsFreeBy}
use Rattle.binding_laws.proofs.SmallLaws.{never}
use Rattle.binding_laws.proofs.VarScopes.{hoisted_apart, moved_apart}

-- a block function of the name that begins in the scope
record Mover (c : ℕ) (x : Name) (ds : List Declaration) : Type 0 where
  declaration : Declaration
  among : Among declaration ds
  moves : declaration.how ≡ moved
  begins : stands_in declaration ≡ c

abbrev NoMover : ℕ → Name → List Declaration → Type 0
NoMover c x ds = (d : Declaration) → Among d ds → d.how ≡ moved → d.naming.name ≡ x → stands_in d ≡ c → ⊥

one_mover : (c : ℕ) (x : Name) (how : How) (d : Declaration) → d.how ≡ how → ((d.how ≡ moved) × (stands_in d ≡ c)) ⊎ (d.how ≡ moved → d.naming.name ≡ x → stands_in d ≡ c → ⊥)
one_mover c x plain d e = inr (λ i. let w : plain ≡ moved = sym e ∙ i in absurd cc)
one_mover c x hoisted d e = inr (λ i. let w : hoisted ≡ moved = sym e ∙ i in absurd cc)
one_mover c x caught d e = inr (λ i. let w : caught ≡ moved = sym e ∙ i in absurd cc)
one_mover c x moved d e = elim (name_tells d.naming.name x) [
  | inr n ↦ inr (λ i j k. n.1 j)
  | inl n ↦ elim (eqb_tells (stands_in d) c) [ inl q ↦ inl (e, q.1) | inr q ↦ inr (λ i j k. q.1 k) ]
]

any_mover : (c : ℕ) (x : Name) (ds : List Declaration) → Mover c x ds ⊎ NoMover c x ds
any_mover c x [] = inr (λ d a. absurd a)
any_mover c x (d ∷ ds) = elim (one_mover c x d.how d refl) [
  | inl k ↦ inl (record { declaration = d; among = inl refl; moves = k.0; begins = k.1 })
  | inr k ↦ elim (any_mover c x ds) [
    | inl m ↦ inl (record { declaration = m.declaration; among = inr m.among; moves = m.moves; begins = m.begins })
    | inr n ↦ inr (λ e a. none e a k n)
  ]
]
  where
    none : (e : Declaration) → Among e (d ∷ ds) → (d.how ≡ moved → d.naming.name ≡ x → stands_in d ≡ c → ⊥) → NoMover c x ds → e.how ≡ moved → e.naming.name ≡ x → stands_in e ≡ c → ⊥
    none e (inl q) k n = subst (λ (o : Declaration). o.how ≡ moved → o.naming.name ≡ x → stands_in o ≡ c → ⊥) q k
    none e (inr a) k n = n e a

module _ (p : Tree) (h : first_fault p ≡ None) (c : ℕ) (x : Name) (none : NoneTakes p c x) where
  abbrev ds : List Declaration
  ds = declarations (events (steps p))

  not_true : false ≡ true → ⊥
  not_true e = absurd cc

  takes_none : (how : How) (d : Declaration) → d.how ≡ how → Among d ds → d.naming.name ≡ x → takes_by how c d ≡ false
  takes_none how d e a n = subst (λ k. takes_by k c d ≡ false) e (none d a n)

  -- in a block from which a function of the name moves
  free_in_block : Mover c x ds → (how : How) (d : Declaration) → d.how ≡ how → Among d ds → d.naming.name ≡ x → IsFreeBy true c x how d
  free_in_block m plain d e a n = tt
  free_in_block m hoisted d e a n = (takes_none hoisted d e a n, λ z past q. hoisted_apart p h m.declaration d m.among a m.moves e past (q ∙ sym m.begins))
  free_in_block m moved d e a n = (λ z. absurd (never z), λ z q. moved_apart p h m.declaration d m.among a m.moves e (q ∙ sym m.begins))
  free_in_block m caught d e a n = takes_none caught d e a n

  -- in any other scope
  free_elsewhere : NoMover c x ds → (how : How) (d : Declaration) → d.how ≡ how → Among d ds → d.naming.name ≡ x → IsFreeBy false c x how d
  free_elsewhere m plain d e a n = tt
  free_elsewhere m hoisted d e a n = (takes_none hoisted d e a n, λ z. absurd (not_true z))
  free_elsewhere m moved d e a n = (λ z q. m d a e n q, λ z. absurd (not_true z))
  free_elsewhere m caught d e a n = takes_none caught d e a n

pub one_symbol_each : (p : Tree) → first_fault p ≡ None → OneSymbolEach p
one_symbol_each p h c x none m n a b i j = elim (any_mover c x (declarations (events (steps p)))) [
  | inl k ↦ (end_settled p h true c x (λ d e. free_in_block p h c x none k d.how d refl e)).same m n a b i j
  | inr k ↦ (end_settled p h false c x (λ d e. free_elsewhere p h c x none k d.how d refl e)).same m n a b i j
]

pub conflicts_are_told : (p : Tree) → first_fault p ≡ None → ConflictsAreTold p
conflicts_are_told p h c x none = elim (any_mover c x (declarations (events (steps p)))) [
  | inl k ↦ (end_settled p h true c x (λ d e. free_in_block p h c x none k d.how d refl e)).told
  | inr k ↦ (end_settled p h false c x (λ d e. free_elsewhere p h c x none k d.how d refl e)).told
]
