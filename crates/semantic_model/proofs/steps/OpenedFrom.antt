-- What holds of the scopes that steps open, each with its number.
use Rattle.std.proofs.Common.{◌≡◌, ℕ, suc, ◌+◌, List, [], ◌∷◌, ◌++◌, Option, subst, arith}
use Rattle.semantic_tree.specs.Forest.{Forest}
use Rattle.semantic_tree.specs.declared.node.Node.{Node}
use Rattle.semantic_kinds.specs.declared.role.Role.{Role}
use Rattle.semantic_model.specs.Place.{Place, OpenScope}
use Rattle.semantic_model.specs.Step.{Step, entering, opening, header_ending, closing, leaving}
use Rattle.semantic_model.proofs.steps.Turn.{Turn, turn_at}
use Rattle.semantic_model.proofs.steps.Opened.{openings, next_opened, rest_opened}

module _ (P : ℕ → Place → OpenScope → Type 0) where
  -- of those that the steps open, from number n on
  abbrev pub OpenedFrom : ℕ → List Step → Type 0
  OpenedFrom n [] = Unit {0}
  OpenedFrom n (opening p s ∷ more) = P n p s × OpenedFrom (suc n) more
  OpenedFrom n (entering p ∷ more) = OpenedFrom n more
  OpenedFrom n (header_ending p s ∷ more) = OpenedFrom n more
  OpenedFrom n (closing p s ∷ more) = OpenedFrom n more
  OpenedFrom n (leaving p ∷ more) = OpenedFrom n more

  pub opened_left : (n : ℕ) (xs ys : List Step) → OpenedFrom n (xs ++ ys) → OpenedFrom n xs
  opened_left n [] ys h = tt
  opened_left n (opening p s ∷ xs) ys h = (h.0, opened_left (suc n) xs ys h.1)
  opened_left n (entering p ∷ xs) ys h = opened_left n xs ys h
  opened_left n (header_ending p s ∷ xs) ys h = opened_left n xs ys h
  opened_left n (closing p s ∷ xs) ys h = opened_left n xs ys h
  opened_left n (leaving p ∷ xs) ys h = opened_left n xs ys h

  opened_right : (n m : ℕ) (xs ys : List Step) → n + openings xs ≡ m → OpenedFrom n (xs ++ ys) → OpenedFrom m ys
  opened_right n m [] ys e h = subst (λ k. OpenedFrom k ys) (omega arith) h
  opened_right n m (opening p s ∷ xs) ys e h = opened_right (suc n) m xs ys (omega arith) h.1
  opened_right n m (entering p ∷ xs) ys e h = opened_right n m xs ys e h
  opened_right n m (header_ending p s ∷ xs) ys e h = opened_right n m xs ys e h
  opened_right n m (closing p s ∷ xs) ys e h = opened_right n m xs ys e h
  opened_right n m (leaving p ∷ xs) ys e h = opened_right n m xs ys e h

  -- of those that open before a child, below it, and in the children after it
  pub record OpenedRound (n : ℕ) (turn : Turn) : Type 0 where
    pub before : OpenedFrom n turn.before
    pub below : OpenedFrom turn.next turn.below
    pub others : OpenedFrom turn.rest turn.others

  pub opened_round : (p : Place) (own : Option OpenScope) (n cursor : ℕ) (r : Role) (node : Node) (after : Forest)
      → let turn : Turn = turn_at p own n cursor r node after in OpenedFrom n (turn.before ++ turn.whole ++ turn.behind ++ turn.others) → OpenedRound n turn
  opened_round p own n cursor r node after h =
      let turn : Turn = turn_at p own n cursor r node after in
      let first : OpenedFrom n (turn.before ++ turn.whole) = opened_left n (turn.before ++ turn.whole) turn.behind (opened_left n (turn.before ++ turn.whole ++ turn.behind) turn.others h) in
      record {
        before = opened_left n turn.before turn.whole first;
        below = opened_left turn.next turn.below (leaving turn.child ∷ []) (opened_right n turn.next turn.before turn.whole (next_opened p r own n) first);
        others = opened_right n turn.rest (turn.before ++ turn.whole ++ turn.behind) turn.others (rest_opened p own n cursor r node after) h;
      }
