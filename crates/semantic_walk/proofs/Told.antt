-- What is told over one turn of the recursion.
use Rattle.std.proofs.Common.{◌≡◌, ℕ, ◌+◌, List, ◌∷◌, Option, Bool, cond, sym, ap, ◌∙◌}
use Rattle.semantic_kinds.specs.declared.role.Role.{Role}
use Rattle.semantic_tree.specs.Children.{forest_of}
use Rattle.semantic_tree.specs.declared.node.Node.{Node}
use Rattle.semantic_model.specs.Declaration.{Declaration}
use Rattle.semantic_model.specs.Inside.{opens, scopes_in}
use Rattle.semantic_model.specs.Place.{Place, OpenScope}
use Rattle.semantic_model.specs.Step.{Step, leaving, steps_below, scope_at, next_at, child_place, cursor_past, opening_at, ending_after}
use Rattle.walk_model.specs.Walks.{after_all}
use Rattle.check_walk.specs.SoFar.{Telling}
use Rattle.check_walk.specs.TellingAlong.{telling_past, telling_left, telling_along, making, telling_over}
use Rattle.check_walk.proofs.Along.{along_makes, along_parts, leaving_parts, turn_told}

module _ (checks : Bool) (source : List ℕ) (ds : List Declaration) where
  -- to leave a node behind steps is to tell what is left there
  pub left_told : (t : Telling) (p : Place) (ss : List Step)
      → record (telling_left checks source (record (telling_along checks source ds t ss) { made = after_all ds t.made ss }) p) { made = after_all ds t.made ss }
      ≡ telling_past checks source ds (telling_along checks source ds t ss) (leaving p)
  left_told t p ss =
      ap (λ (u : Telling). record (telling_left checks source u p) { made = u.made }) (along_parts checks source ds t ss)
      ∙ leaving_parts checks source ds (telling_along checks source ds t ss) p

  -- and it makes no more than the steps
  pub over_told : (t : Telling) (p : Place) (ss : List Step)
      → record (telling_past checks source ds (telling_along checks source ds t ss) (leaving p)) { made = after_all ds t.made ss }
      ≡ telling_past checks source ds (telling_along checks source ds t ss) (leaving p)
  over_told t p ss =
      let inner : Telling = telling_along checks source ds t ss in
      λ i. record (telling_past checks source ds inner (leaving p)) {
        made = (sym (along_makes checks source ds t ss) ∙ ap (λ (u : Telling). u.made) (leaving_parts checks source ds inner p)) i;
      }

  -- behind a child as much is left to be told
  pub told_past : (t opened past ended : Telling) (p : Place) (own : Option OpenScope) (n cursor : ℕ) (child : Role × Node) (rest : List (Role × Node))
      → opened ≡ making ds t (opening_at p child.0 own n)
      → past ≡ telling_over checks source ds opened (child_place p (scope_at p child.0 own n) cursor child.0 child.1) (next_at p child.0 own n)
      → ended ≡ making ds past (ending_after p child.0 (scope_at p child.0 own n) (forest_of rest))
      → telling_along checks source ds ended
      (steps_below p (scope_at p child.0 own n) (next_at p child.0 own n + cond (opens child.1.kind) 1 0 + scopes_in child.1.children) (cursor_past p child.0 cursor (child_place p (scope_at p child.0 own n) cursor child.0 child.1)) (forest_of rest))
      ≡ telling_along checks source ds t (steps_below p own n cursor (forest_of (child ∷ rest)))
  told_past t opened past ended p own n cursor child rest o k e =
      let place : Place = child_place p (scope_at p child.0 own n) cursor child.0 child.1 in
      let later : List Step = steps_below p (scope_at p child.0 own n) (next_at p child.0 own n + cond (opens child.1.kind) 1 0 + scopes_in child.1.children) (cursor_past p child.0 cursor place) (forest_of rest) in
      ap (λ (u : Telling). telling_along checks source ds u later)
      (e
      ∙ ap (λ (u : Telling). making ds u (ending_after p child.0 (scope_at p child.0 own n) (forest_of rest))) (k ∙ ap (λ (u : Telling). telling_over checks source ds u place (next_at p child.0 own n)) o))
      ∙ sym (turn_told checks source ds t p own n cursor child.0 child.1 (forest_of rest))
