-- What checks ask holds at each turn of the recursion.
use Rattle.std.proofs.Common.{◌≡◌, ℕ, List, ◌∷◌, sym, subst}
use Rattle.semantic_kinds.specs.declared.role.Role.{Role}
use Rattle.semantic_tree.specs.Children.{forest_of}
use Rattle.semantic_tree.specs.declared.node.Node.{Node}
use Rattle.semantic_model.specs.Declaration.{Declaration}
use Rattle.semantic_model.specs.Place.{Place}
use Rattle.semantic_model.specs.Step.{Step, entering}
use Rattle.walk_model.specs.WalkState.{WalkState}
use Rattle.walk_model.specs.Walks.{after, after_all}
use Rattle.walk_notes.specs.NoteLists.{NoteLists, noting, noted_over}
use Rattle.check_walk.specs.Apart.{HasApart}
use Rattle.check_walk.specs.Ready.{IsReadyAt, IsReadyBetween}
use Rattle.check_walk.proofs.Readiness.{ready_enters, ready_child, ready_behind}
use Rattle.check_walk.proofs.WalkConditions.{step_apart, steps_apart}

module _ (ds : List Declaration) (source : List ℕ) (made now : WalkState) (x y : NoteLists) (p : Place) where
  -- once the node is entered
  pub ready_first : IsReadyAt source made x.classes p → now ≡ after ds made (entering p) → y ≡ noting p.path p.node x → IsReadyBetween source now y.classes p p.node.children
  ready_first h e n =
      subst (λ (z : NoteLists). IsReadyBetween source now z.classes p p.node.children) (sym n)
      (subst (λ (w : WalkState). IsReadyBetween source w (noting p.path p.node x).classes p p.node.children) (sym e)
      (ready_enters source made (after ds made (entering p)) x.classes p h (step_apart ds made (entering p) h.apart)))

  module _ (child : Role × Node) (rest : List (Role × Node)) (h : IsReadyBetween source made x.classes p (forest_of (child ∷ rest))) where
    -- at a child, before which steps were done
    pub ready_at_child : (steps : List Step) (place : Place) → place.node ≡ child.1 → place.path ≡ p.node ∷ p.path → IsReadyAt source (after_all ds made steps) x.classes place
    ready_at_child steps place node path =
        ready_child source made (after_all ds made steps) x.classes p child.0 child.1 (forest_of rest) place node path h (steps_apart ds made steps h.apart)

    -- and behind it
    pub ready_past : (opened behind ended : List Step) → now ≡ after_all ds (after_all ds (after_all ds made opened) behind) ended → y ≡ noted_over (p.node ∷ p.path) child.1 x → IsReadyBetween source now y.classes p (forest_of rest)
    ready_past opened behind ended e n =
        let apart : HasApart (after_all ds (after_all ds (after_all ds made opened) behind) ended) =
        steps_apart ds (after_all ds (after_all ds made opened) behind) ended (steps_apart ds (after_all ds made opened) behind (steps_apart ds made opened h.apart)) in
        subst (λ (z : NoteLists). IsReadyBetween source now z.classes p (forest_of rest)) (sym n)
        (ready_behind source made now x.classes p child.0 child.1 (forest_of rest) h (subst HasApart (sym e) apart))
