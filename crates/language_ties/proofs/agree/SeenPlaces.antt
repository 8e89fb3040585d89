-- What is known of each place of a program: its scopes and environments, its nodes, and which clause it stands in.
use Rattle.std.proofs.Common.{◌≡◌, List, [], ◌∷◌, None, true, inl, inr, refl}
use Rattle.semantic_tree.specs.Faults.{first_fault}
use Rattle.semantic_tree.specs.Tree.{Tree, IsNumbered}
use Rattle.semantic_model.specs.EachStep.{EachStep}
use Rattle.semantic_model.specs.Entries.{Among}
use Rattle.semantic_model.specs.Place.{Place}
use Rattle.semantic_model.specs.Step.{Step, entering, opening, header_ending, closing, leaving, steps}
use Rattle.semantic_model.proofs.fold.BodyChains.{AllInTable, IsStepIn}
use Rattle.semantic_model.proofs.fold.Orders.{table_of, steps_in}
use Rattle.semantic_model.proofs.form.Shape.{has_form}
use Rattle.binding_laws.proofs.ScopeOpeners.{openers, AllOpened, IsPlaceOpened, places_opened}
use Rattle.language_ties.specs.EcmaScript.{is_ecmascript}
use Rattle.language_ties.proofs.EnvironmentsRound.{IsKnown, KnownAt, known_program}
use Rattle.language_ties.proofs.agree.FamiliarPlaces.{IsFamiliar, FamiliarAt, familiar_program}
use Rattle.language_ties.proofs.agree.KnownNodes.{node_at}
use Rattle.language_ties.proofs.caught.ClausePlaces.{IsClausal, ClausalAt, clausal_program}

module _ (p : Tree) where
  -- what is known of a place
  pub record IsSeen (q : Place) : Type 0 where
    pub entered : Among (entering q) (steps p)
    pub known : IsKnown q
    pub familiar : IsFamiliar (node_at p) q
    pub opened : AllOpened (openers (steps p)) q.chain
    pub in_table : AllInTable (table_of p) q.chain
    pub clausal : IsClausal (node_at p) q

  abbrev pub SeenAt : Step → Type 0
  SeenAt (entering q) = IsSeen q
  SeenAt (opening q o) = Unit {0}
  SeenAt (header_ending q o) = Unit {0}
  SeenAt (closing q o) = Unit {0}
  SeenAt (leaving q) = Unit {0}

  seen_each : (ss : List Step) → ((q : Place) → Among (entering q) ss → Among (entering q) (steps p)) → EachStep KnownAt ss → EachStep (FamiliarAt (node_at p)) ss → EachStep (IsPlaceOpened (openers (steps p))) ss → EachStep (IsStepIn (table_of p)) ss → EachStep (ClausalAt (node_at p)) ss → EachStep SeenAt ss
  seen_each [] f a b c d g = tt
  seen_each (entering q ∷ ss) f a b c d g = (record { entered = f q (inl refl); known = a.0; familiar = b.0; opened = c.0; in_table = d.0; clausal = g.0 }, seen_each ss (λ r i. f r (inr i)) a.1 b.1 c.1 d.1 g.1)
  seen_each (opening q o ∷ ss) f a b c d g = (tt, seen_each ss (λ r i. f r (inr i)) a.1 b.1 c.1 d.1 g.1)
  seen_each (header_ending q o ∷ ss) f a b c d g = (tt, seen_each ss (λ r i. f r (inr i)) a.1 b.1 c.1 d.1 g.1)
  seen_each (closing q o ∷ ss) f a b c d g = (tt, seen_each ss (λ r i. f r (inr i)) a.1 b.1 c.1 d.1 g.1)
  seen_each (leaving q ∷ ss) f a b c d g = (tt, seen_each ss (λ r i. f r (inr i)) a.1 b.1 c.1 d.1 g.1)

  pub seen_program : first_fault p ≡ None → is_ecmascript p ≡ true → IsNumbered p.root → EachStep SeenAt (steps p)
  seen_program h e numbered = seen_each (steps p) (λ q i. i) (known_program p h e) (familiar_program p h e numbered) (places_opened p) (steps_in p (has_form p h)) (clausal_program p h e numbered)
