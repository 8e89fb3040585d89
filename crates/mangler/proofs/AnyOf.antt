-- Whether some item of a list passes a test, in lists and in the steps of a program.
use Rattle.std.proofs.Common.{◌≡◌, ℕ, List, [], ◌∷◌, ◌++◌, Option, Bool, true, false, ◌||◌, refl, sym, ap, ◌∙◌}
use Rattle.std.specs.List.{list_any}
use Rattle.semantic_kinds.specs.declared.role.Role.{Role}
use Rattle.semantic_tree.specs.Forest.{Forest}
use Rattle.semantic_syntax.proofs.Truth.{or_false}
use Rattle.semantic_model.specs.Place.{Place, OpenScope}
use Rattle.semantic_model.specs.ScopeKind.{opened_scope}
use Rattle.semantic_model.specs.Step.{Step, entering, opening, header_ending, closing, leaving, opening_at, ending_after, opening_last}
use Rattle.semantic_model.proofs.steps.TurnCases.{opening_case, ending_case, last_case}

pub or_assoc : (a b c : Bool) → ((a || b) || c) ≡ (a || (b || c))
or_assoc true b c = refl
or_assoc false b c = refl

pub any_append : {A : Type 0} (test : A → Bool) (xs ys : List A) → list_any test (xs ++ ys) ≡ (list_any test xs || list_any test ys)
any_append test [] ys = refl
any_append test (x ∷ xs) ys = ap (λ b. test x || b) (any_append test xs ys) ∙ sym (or_assoc (test x) (list_any test xs) (list_any test ys))

-- a test that only a step into a node passes
module _ (test : Step → Bool) (opens : (p : Place) (s : OpenScope) → test (opening p s) ≡ false) (ends : (p : Place) (s : OpenScope) → test (header_ending p s) ≡ false)
    (closes : (p : Place) (s : OpenScope) → test (closing p s) ≡ false) (leaves : (p : Place) → test (leaving p) ≡ false) where
  abbrev any : List Step → Bool
  any ss = list_any test ss

  one_fails : (s : Step) → test s ≡ false → any (s ∷ []) ≡ false
  one_fails s e = ap (λ b. b || false) e

  two_fail : (s t : Step) → test s ≡ false → test t ≡ false → any (s ∷ t ∷ []) ≡ false
  two_fail s t e f = λ i. e i || (f i || false)

  pub none_open : (p : Place) (r : Role) (own : Option OpenScope) (n : ℕ) → any (opening_at p r own n) ≡ false
  none_open p r own n = opening_case (λ ss. any ss ≡ false) p r own n refl (one_fails _ (opens p _))

  pub none_last : (p : Place) (own : Option OpenScope) (n : ℕ) → any (opening_last p own n) ≡ false
  none_last p own n = last_case (λ ss. any ss ≡ false) p own n refl (two_fail (opening p (opened_scope p n)) (closing p (opened_scope p n)) (opens p (opened_scope p n)) (closes p (opened_scope p n)))

  pub none_ended : (p : Place) (r : Role) (own : Option OpenScope) (after : Forest) → any (ending_after p r own after) ≡ false
  none_ended p r own after = ending_case (λ ss. any ss ≡ false) p r own after refl (λ s. one_fails _ (ends p s)) (λ s. one_fails _ (closes p s)) (λ s. two_fail (header_ending p s) (closing p s) (ends p s) (closes p s))

  -- a child, what is below it, and then the others
  pub any_turn : (xs ys es ws : List Step) (child : Place) → any xs ≡ false → any es ≡ false
      → any (xs ++ (entering child ∷ (ys ++ leaving child ∷ [])) ++ es ++ ws) ≡ ((test (entering child) || any ys) || any ws)
  any_turn xs ys es ws child h k =
      let middle : List Step = entering child ∷ (ys ++ leaving child ∷ []) in
      any_append test (xs ++ middle ++ es) ws
      ∙ ap (λ b. b || any ws) (
      any_append test (xs ++ middle) es
      ∙ ap (λ b. any (xs ++ middle) || b) k
      ∙ or_false (any (xs ++ middle))
      ∙ any_append test xs middle
      ∙ ap (λ b. b || any middle) h
      ∙ ap (λ b. test (entering child) || b) (any_append test ys (leaving child ∷ []) ∙ ap (λ b. any ys || b) (one_fails (leaving child) (leaves child)) ∙ or_false (any ys)))

  pub any_root : (p : Place) (below : List Step) → any (entering p ∷ (below ++ leaving p ∷ [])) ≡ (test (entering p) || any below)
  any_root p below = ap (λ b. test (entering p) || b) (any_append test below (leaving p ∷ []) ∙ ap (λ b. any below || b) (one_fails (leaving p) (leaves p)) ∙ or_false (any below))
