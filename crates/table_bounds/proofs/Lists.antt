-- What holds of each element of lists that are made of others.
use Rattle.std.proofs.Common.{Bool, true, false, cond, List, [], ◌∷◌, filter, inl, inr, refl, subst}
use Rattle.std.specs.List.{AllByRecursion}
use Rattle.semantic_model.specs.EachStep.{EachStep}
use Rattle.semantic_model.specs.Entries.{Among}
use Rattle.semantic_model.specs.Step.{Step}

pub all_among : {A : Type 0} (P : A → Type 0) (xs : List A) → ((x : A) → Among x xs → P x) → AllByRecursion P xs
all_among P [] h = tt
all_among P (x ∷ xs) h = (h x (inl refl), all_among P xs (λ y a. h y (inr a)))

pub all_filtered : {A : Type 0} (P : A → Type 0) (test : A → Bool) (xs : List A) → AllByRecursion P xs → AllByRecursion P (filter test xs)
all_filtered P test [] h = tt
all_filtered P test (x ∷ xs) h = by (test x) (all_filtered P test xs h.1)
  where
    by : (b : Bool) → AllByRecursion P (filter test xs) → AllByRecursion P (cond b (x ∷ filter test xs) (filter test xs))
    by true later = (h.0, later)
    by false later = later

-- of a step among those of which it holds
pub each_among : (P : Step → Type 0) (ss : List Step) → EachStep P ss → (s : Step) → Among s ss → P s
each_among P [] h s a = absurd a
each_among P (x ∷ ss) h s (inl e) = subst P e h.0
each_among P (x ∷ ss) h s (inr a) = each_among P ss h.1 s a
