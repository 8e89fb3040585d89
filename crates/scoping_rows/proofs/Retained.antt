-- What a list retains.
use Rattle.std.proofs.Common.{◌≡◌, Bool, cond, List, [], ◌∷◌, filter, subst, ◌∙◌}
use Rattle.std.specs.List.Retain.{RetainsInTurn}

-- where no call changes the closure or the element, what passes the test stays
pub filter_retained : {X F : Type 0} (R : F → X → Bool → F → X → Type 0) (test : X → Bool) (f : F)
    → ((x : X) (b : Bool) (f' : F) (y : X) → R f x b f' y → (b ≡ test x) × (f' ≡ f) × (y ≡ x))
    → (xs ys : List X) → RetainsInTurn R f xs ys → ys ≡ filter test xs
filter_retained R test f says [] ys h = h
filter_retained R test f says (x ∷ xs) ys h =
    let said = says x h.0 h.1 h.2 h.3 in
    let rest = filter_retained R test f says xs h.4 (subst (λ g. RetainsInTurn R g xs h.4) said.1 h.5) in
    h.6 ∙ (λ j. cond (said.0 j) (said.2 j ∷ rest j) (rest j))
