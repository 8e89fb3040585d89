-- A fold over steps that does something only as nodes are entered and left does what a walk over their forest does.
use Rattle.std.proofs.Common.{◌≡◌, ℕ, List, [], ◌∷◌, ◌++◌, Option, None, sym, ap, ◌∙◌}
use Rattle.semantic_syntax.specs.declared.spans.Span.{Span}
use Rattle.semantic_kinds.specs.declared.kind.AstType.{AstType}
use Rattle.semantic_kinds.specs.declared.marks.Marks.{Marks}
use Rattle.semantic_kinds.specs.declared.role.Role.{Role}
use Rattle.semantic_tree.specs.Forest.{Forest, nothing, tree}
use Rattle.semantic_tree.specs.declared.node.Node.{Node}
use Rattle.semantic_model.specs.Place.{Place, OpenScope}
use Rattle.semantic_model.specs.Cursor.{on_entering}
use Rattle.semantic_model.specs.Step.{Step, entering, opening, leaving, header_ending, closing, opening_at, ending_after, opening_last, child_place, steps_below, steps_of}
use Rattle.semantic_model.proofs.steps.Turn.{Turn, turn_at}
use Rattle.semantic_model.proofs.steps.TurnCases.{opening_case, ending_case, last_case}

-- `done` folds `act` over steps, `walked` goes over the forest below a node of a kind and an id
pub record IsWalk {S : Type 0} (act : S → Step → S) (done : S → List Step → S) (enter : AstType → ℕ → Node → S → S) (leave : Node → S → S) (walked : AstType → ℕ → Forest → S → S) : Type 0 where
  pub none : (s : S) → done s [] ≡ s
  pub first : (s : S) (x : Step) (xs : List Step) → done s (x ∷ xs) ≡ done (act s x) xs
  pub opens : (s : S) (p : Place) (o : OpenScope) → act s (opening p o) ≡ s
  pub ends : (s : S) (p : Place) (o : OpenScope) → act s (header_ending p o) ≡ s
  pub closes : (s : S) (p : Place) (o : OpenScope) → act s (closing p o) ≡ s
  pub enters : (s : S) (p : Place) (own : Option OpenScope) (cursor : ℕ) (r : Role) (node : Node) → act s (entering (child_place p own cursor r node)) ≡ enter p.node.kind p.node.node_id node s
  pub leaves : (s : S) (p : Place) → act s (leaving p) ≡ leave p.node s
  pub no_child : (k : AstType) (id : ℕ) (s : S) → walked k id nothing s ≡ s
  pub child : (parent : AstType) (above : ℕ) (r : Role) (k : AstType) (span : Span) (text : List ℕ) (marks : Marks) (below : Forest) (id : ℕ) (after : Forest) (s : S)
      → let here : Node = record { kind = k; span = span; text = text; marks = marks; children = below; node_id = id } in walked parent above (tree r k span text marks below id after) s ≡ walked parent above after (leave here (walked k id below (enter parent above here s)))

module _ {S : Type 0} {act : S → Step → S} {done : S → List Step → S} {enter : AstType → ℕ → Node → S → S} {leave : Node → S → S} {walked : AstType → ℕ → Forest → S → S} (w : IsWalk act done enter leave walked) where
  pub done-append : (s : S) (xs ys : List Step) → done s (xs ++ ys) ≡ done (done s xs) ys
  done-append s [] ys = ap (λ a. done a ys) (sym (w.none s))
  done-append s (x ∷ xs) ys = w.first s x (xs ++ ys) ∙ done-append (act s x) xs ys ∙ ap (λ a. done a ys) (sym (w.first s x xs))

  one : (s : S) (x : Step) → done s (x ∷ []) ≡ act s x
  one s x = w.first s x [] ∙ w.none (act s x)

  two : (s : S) (x y : Step) → done s (x ∷ y ∷ []) ≡ act (act s x) y
  two s x y = w.first s x (y ∷ []) ∙ one (act s x) y

  opens_quietly : (p : Place) (r : Role) (own : Option OpenScope) (n : ℕ) (s : S) → done s (opening_at p r own n) ≡ s
  opens_quietly p r own n s = opening_case (λ xs. done s xs ≡ s) p r own n (w.none s) (one s _ ∙ w.opens s p _)

  ends_quietly : (p : Place) (r : Role) (own : Option OpenScope) (after : Forest) (s : S) → done s (ending_after p r own after) ≡ s
  ends_quietly p r own after s =
      ending_case (λ xs. done s xs ≡ s) p r own after (w.none s) (λ o. one s _ ∙ w.ends s p o) (λ o. one s _ ∙ w.closes s p o) (λ o. two s _ _ ∙ w.closes _ p o ∙ w.ends s p o)

  last_quietly : (p : Place) (own : Option OpenScope) (n : ℕ) (s : S) → done s (opening_last p own n) ≡ s
  last_quietly p own n s = last_case (λ xs. done s xs ≡ s) p own n (w.none s) (two s _ _ ∙ w.closes _ p _ ∙ w.opens s p _)

  -- the steps of a node, where its children are walked so
  node_done : (x : Step) (xs : List Step) (p : Place) (s : S) → done s (x ∷ (xs ++ leaving p ∷ [])) ≡ leave p.node (done (act s x) xs)
  node_done x xs p s = w.first s x (xs ++ leaving p ∷ []) ∙ done-append (act s x) xs (leaving p ∷ []) ∙ one (done (act s x) xs) (leaving p) ∙ w.leaves (done (act s x) xs) p

  -- the steps below a place
  pub steps_done : (f : Forest) (p : Place) (own : Option OpenScope) (n cursor : ℕ) (s : S) → done s (steps_below p own n cursor f) ≡ walked p.node.kind p.node.node_id f s
  steps_done nothing p own n cursor s = last_quietly p own n s ∙ sym (w.no_child p.node.kind p.node.node_id s)
  steps_done (tree r k span text marks below id after) p own n cursor s =
      let here : Node = record { kind = k; span = span; text = text; marks = marks; children = below; node_id = id } in
      let turn : Turn = turn_at p own n cursor r here after in
      let into : S = enter p.node.kind p.node.node_id here s in
      let child_done : done s turn.whole ≡ leave here (walked k id below into) =
      node_done (entering turn.child) turn.below turn.child s ∙ ap (λ a. leave here (done a turn.below)) (w.enters s p turn.scope cursor r here) ∙ ap (leave here) (steps_done below turn.child None turn.next turn.inner into) in
      done-append s (turn.before ++ turn.whole ++ turn.behind) turn.others
      ∙ ap (λ a. done a turn.others) (done-append s (turn.before ++ turn.whole) turn.behind ∙ ends_quietly p r turn.scope after (done s (turn.before ++ turn.whole)) ∙ done-append s turn.before turn.whole ∙ ap (λ a. done a turn.whole) (opens_quietly p r own n s) ∙ child_done)
      ∙ steps_done after p turn.scope turn.rest turn.past (leave here (walked k id below into))
      ∙ sym (w.child p.node.kind p.node.node_id r k span text marks below id after s)

  -- the steps of a node
  pub node_steps_done : (p : Place) (n : ℕ) (s : S) → done s (steps_of p n) ≡ leave p.node (walked p.node.kind p.node.node_id p.node.children (act s (entering p)))
  node_steps_done p n s =
      node_done (entering p) (steps_below p None n (on_entering p.node.kind p.cursor) p.node.children) p s
      ∙ ap (leave p.node) (steps_done p.node.children p None n (on_entering p.node.kind p.cursor) (act s (entering p)))
