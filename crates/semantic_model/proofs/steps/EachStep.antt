-- What holds of each step, where steps follow one another.
use Rattle.std.proofs.Common.{List, [], ◌∷◌, ◌++◌}
use Rattle.semantic_model.specs.Place.{Place}
use Rattle.semantic_model.specs.Step.{Step, entering, leaving}
pub use Rattle.semantic_model.specs.EachStep.{EachStep}
use Rattle.semantic_model.proofs.steps.Turn.{Turn}

module _ (P : Step → Type 0) where
  pub each_left : (xs ys : List Step) → EachStep P (xs ++ ys) → EachStep P xs
  each_left [] ys h = tt
  each_left (x ∷ xs) ys h = (h.0, each_left xs ys h.1)

  pub each_right : (xs ys : List Step) → EachStep P (xs ++ ys) → EachStep P ys
  each_right [] ys h = h
  each_right (x ∷ xs) ys h = each_right xs ys h.1

  pub each-append : (xs ys : List Step) → EachStep P xs → EachStep P ys → EachStep P (xs ++ ys)
  each-append [] ys h k = k
  each-append (x ∷ xs) ys h k = (h.0, each-append xs ys h.1 k)

  -- of a node's own steps and those below it
  pub each_of_node : (place : Place) (below : List Step) → P (entering place) → EachStep P below → P (leaving place) → EachStep P (entering place ∷ (below ++ leaving place ∷ []))
  each_of_node place below enters h leaves = (enters, each-append below (leaving place ∷ []) h (leaves, tt))

  -- of the steps of the children that are left of a place
  pub record EachOfTurn (turn : Turn) : Type 0 where
    pub before : EachStep P turn.before
    pub whole : EachStep P turn.whole
    pub behind : EachStep P turn.behind
    pub others : EachStep P turn.others

  pub each_of_turn : (turn : Turn) → EachOfTurn turn → EachStep P (turn.before ++ turn.whole ++ turn.behind ++ turn.others)
  each_of_turn turn h =
      each-append (turn.before ++ turn.whole ++ turn.behind) turn.others (each-append (turn.before ++ turn.whole) turn.behind (each-append turn.before turn.whole h.before h.whole) h.behind) h.others

  pub turn_of_each : (turn : Turn) → EachStep P (turn.before ++ turn.whole ++ turn.behind ++ turn.others) → EachOfTurn turn
  turn_of_each turn h =
      let three : EachStep P (turn.before ++ turn.whole ++ turn.behind) = each_left (turn.before ++ turn.whole ++ turn.behind) turn.others h in
      let two : EachStep P (turn.before ++ turn.whole) = each_left (turn.before ++ turn.whole) turn.behind three in
      record {
        before = each_left turn.before turn.whole two;
        whole = each_right turn.before turn.whole two;
        behind = each_right (turn.before ++ turn.whole) turn.behind three;
        others = each_right (turn.before ++ turn.whole ++ turn.behind) turn.others h;
      }
