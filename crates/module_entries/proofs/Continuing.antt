-- Lists that are made one part after the other: what holds of all that is left holds of the whole with it.
use Rattle.std.proofs.Common.{◌≡◌, ◌<◌, ◌≤◌, ℕ, ◌+◌, List, [], ◌∷◌, ◌++◌, drop, get_or, length, sym, ap, ◌∙◌, subst, append_assoc, append-nil}
use Rattle.std.proofs.Math.ListN.{drop_of_length-le}

abbrev pub Continues : {A : Type 0} → (left all : List A → Type 0) → List A → Type 0
Continues {A} left all done = (rest : List A) → left rest → all (done ++ rest)

-- one more part
pub continues_with : {A : Type 0} (left next all : List A → Type 0) (done new part : List A) → new ≡ done ++ part → ((rest : List A) → next rest → left (part ++ rest))
    → Continues left all done → Continues next all new
continues_with left next all done new part pushed turn goes rest h =
    subst all (sym (append_assoc done part rest) ∙ ap (λ xs. xs ++ rest) (sym pushed)) (goes (part ++ rest) (turn rest h))

-- nothing is left
pub continues_all : {A : Type 0} (left all : List A → Type 0) (done : List A) → left [] → Continues left all done → all done
continues_all left all done h goes = subst all (append-nil done) (goes [] h)

pub nothing_left : {A : Type 0} (xs : List A) (i : ℕ) → length xs ≤ i → drop i xs ≡ []
nothing_left xs i past = drop_of_length-le xs past
