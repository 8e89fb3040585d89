-- Lists whose elements stand in a relation, one by one, pass the same tests.
use Rattle.std.proofs.Common.{◌≡◌, ℕ, zero, suc, ◌+◌, length, take, List, [], ◌∷◌, ◌++◌, Option, Some, None, Bool, true, false, cond, ◌||◌, refl, sym, ap, subst}
use Rattle.std.specs.Prelude.{flat_map, filter, reverse}
use Rattle.std.specs.List.{find, list_any, take_while, prefix_len}
use Rattle.std.proofs.lemmas.List.{reverse-append}
use Rattle.semantic_diagnostics.specs.declared.diagnostic.Diagnostic.{Diagnostic}
use Rattle.semantic_syntax.specs.Tables.{Name}
use Rattle.check_model.specs.Search.{rows_if, rows_of_some, passes, first, only, find_before, neighbours, onward, each_after}
use Rattle.swapped_checks.specs.SwappedRows.{AreToldAgain, told_the_same}

module _ {A : Type 0} (R : A → A → Type 0) where
  abbrev pub Each : List A → List A → Type 0
  Each [] [] = Unit {0}
  Each [] (y ∷ ys) = ⊥
  Each (x ∷ xs) [] = ⊥
  Each (x ∷ xs) (y ∷ ys) = R x y × Each xs ys

  abbrev pub Both : Option A → Option A → Type 0
  Both None None = Unit {0}
  Both None (Some y) = ⊥
  Both (Some x) None = ⊥
  Both (Some x) (Some y) = R x y

  abbrev pub OfPairs : A × A → A × A → Type 0
  OfPairs p q = R p.0 q.0 × R p.1 q.1

  -- one test on one side says what the other says on the other side
  abbrev pub Agree : (A → Bool) → (A → Bool) → Type 0
  Agree t u = (x y : A) → R x y → u y ≡ t x

  pub append_each : (xs ys us vs : List A) → Each xs ys → Each us vs → Each (xs ++ us) (ys ++ vs)
  append_each [] [] us vs h i = i
  append_each [] (y ∷ ys) us vs h i = absurd h
  append_each (x ∷ xs) [] us vs h i = absurd h
  append_each (x ∷ xs) (y ∷ ys) us vs h i = (h.0, append_each xs ys us vs h.1 i)

  pub any_each : (t u : A → Bool) → Agree t u → (xs ys : List A) → Each xs ys → list_any u ys ≡ list_any t xs
  any_each t u h [] [] e = refl
  any_each t u h [] (y ∷ ys) e = absurd e
  any_each t u h (x ∷ xs) [] e = absurd e
  any_each t u h (x ∷ xs) (y ∷ ys) e = λ i. h x y e.0 i || any_each t u h xs ys e.1 i

  some_each : (x y : A) (o p : Option A) → R x y → Both o p → (b : Bool) → Both (cond b (Some x) o) (cond b (Some y) p)
  some_each x y o p r h true = r
  some_each x y o p r h false = h

  pub find_each : (t u : A → Bool) → Agree t u → (xs ys : List A) → Each xs ys → Both (find t xs) (find u ys)
  find_each t u h [] [] e = tt
  find_each t u h [] (y ∷ ys) e = absurd e
  find_each t u h (x ∷ xs) [] e = absurd e
  find_each t u h (x ∷ xs) (y ∷ ys) e = subst (λ c. Both (find t (x ∷ xs)) (cond c (Some y) (find u ys))) (sym (h x y e.0)) (some_each x y (find t xs) (find u ys) e.0 (find_each t u h xs ys e.1) (t x))

  pub find_before_each : (s t u v : A → Bool) → Agree s u → Agree t v → (xs ys : List A) → Each xs ys → Both (find_before s t xs) (find_before u v ys)
  find_before_each s t u v h i [] [] e = tt
  find_before_each s t u v h i [] (y ∷ ys) e = absurd e
  find_before_each s t u v h i (x ∷ xs) [] e = absurd e
  find_before_each s t u v h i (x ∷ xs) (y ∷ ys) e =
      subst (λ c. Both (find_before s t (x ∷ xs)) (cond c None (cond (v y) (Some y) (find_before u v ys)))) (sym (h x y e.0))
      (subst (λ c. Both (find_before s t (x ∷ xs)) (cond (s x) None (cond c (Some y) (find_before u v ys)))) (sym (i x y e.0))
      (go (s x) (some_each x y (find_before s t xs) (find_before u v ys) e.0 (find_before_each s t u v h i xs ys e.1) (t x))))
    where
      go : (b : Bool) → Both (cond (t x) (Some x) (find_before s t xs)) (cond (t x) (Some y) (find_before u v ys)) → Both (cond b None (cond (t x) (Some x) (find_before s t xs))) (cond b None (cond (t x) (Some y) (find_before u v ys)))
      go true k = tt
      go false k = k

  pub filter_each : (t u : A → Bool) → Agree t u → (xs ys : List A) → Each xs ys → Each (filter t xs) (filter u ys)
  filter_each t u h [] [] e = tt
  filter_each t u h [] (y ∷ ys) e = absurd e
  filter_each t u h (x ∷ xs) [] e = absurd e
  filter_each t u h (x ∷ xs) (y ∷ ys) e = subst (λ c. Each (filter t (x ∷ xs)) (cond c (y ∷ filter u ys) (filter u ys))) (sym (h x y e.0)) (go (t x) (filter_each t u h xs ys e.1))
    where
      go : (b : Bool) → Each (filter t xs) (filter u ys) → Each (cond b (x ∷ filter t xs) (filter t xs)) (cond b (y ∷ filter u ys) (filter u ys))
      go true k = (e.0, k)
      go false k = k

  pub onward_each : (t u : A → Bool) → Agree t u → (xs ys : List A) → Each xs ys → Each (onward t xs) (onward u ys)
  onward_each t u h [] [] e = tt
  onward_each t u h [] (y ∷ ys) e = absurd e
  onward_each t u h (x ∷ xs) [] e = absurd e
  onward_each t u h (x ∷ xs) (y ∷ ys) e = subst (λ c. Each (onward t (x ∷ xs)) (cond c (y ∷ ys) (onward u ys))) (sym (h x y e.0)) (go (t x) (onward_each t u h xs ys e.1))
    where
      go : (b : Bool) → Each (onward t xs) (onward u ys) → Each (cond b (x ∷ xs) (onward t xs)) (cond b (y ∷ ys) (onward u ys))
      go true k = e
      go false k = k

  pub first_each : (xs ys : List A) → Each xs ys → Both (first xs) (first ys)
  first_each [] [] e = tt
  first_each [] (y ∷ ys) e = absurd e
  first_each (x ∷ xs) [] e = absurd e
  first_each (x ∷ xs) (y ∷ ys) e = e.0

  pub only_each : (xs ys : List A) → Each xs ys → Both (only xs) (only ys)
  only_each [] [] e = tt
  only_each [] (y ∷ ys) e = absurd e
  only_each (x ∷ xs) [] e = absurd e
  only_each (x ∷ []) (y ∷ []) e = e.0
  only_each (x ∷ []) (y ∷ y2 ∷ ys) e = absurd e.1
  only_each (x ∷ x2 ∷ xs) (y ∷ []) e = absurd e.1
  only_each (x ∷ x2 ∷ xs) (y ∷ y2 ∷ ys) e = tt

  pub passes_both : (t u : A → Bool) → Agree t u → (o p : Option A) → Both o p → passes u p ≡ passes t o
  passes_both t u h None None e = refl
  passes_both t u h None (Some y) e = absurd e
  passes_both t u h (Some x) None e = absurd e
  passes_both t u h (Some x) (Some y) e = h x y e

  pub length_each : (xs ys : List A) → Each xs ys → length ys ≡ length xs
  length_each [] [] e = refl
  length_each [] (y ∷ ys) e = absurd e
  length_each (x ∷ xs) [] e = absurd e
  length_each (x ∷ xs) (y ∷ ys) e = ap suc (length_each xs ys e.1)

  pub reverse_each : (xs ys : List A) → Each xs ys → Each (reverse xs) (reverse ys)
  reverse_each [] [] e = tt
  reverse_each [] (y ∷ ys) e = absurd e
  reverse_each (x ∷ xs) [] e = absurd e
  reverse_each (x ∷ xs) (y ∷ ys) e =
      subst (λ us. Each us (reverse (y ∷ ys))) (sym (reverse-append (x ∷ []) xs))
      (subst (λ vs. Each (reverse xs ++ x ∷ []) vs) (sym (reverse-append (y ∷ []) ys)) (append_each (reverse xs) (reverse ys) (x ∷ []) (y ∷ []) (reverse_each xs ys e.1) (e.0, tt)))

  prefix_each : (t u : A → Bool) → Agree t u → (xs ys : List A) → Each xs ys → prefix_len u ys ≡ prefix_len t xs
  prefix_each t u h [] [] e = refl
  prefix_each t u h [] (y ∷ ys) e = absurd e
  prefix_each t u h (x ∷ xs) [] e = absurd e
  prefix_each t u h (x ∷ xs) (y ∷ ys) e = λ i. cond (h x y e.0 i) (1 + prefix_each t u h xs ys e.1 i) 0

  take_each : (n : ℕ) (xs ys : List A) → Each xs ys → Each (take n xs) (take n ys)
  take_each zero xs ys e = tt
  take_each (suc n) [] [] e = tt
  take_each (suc n) [] (y ∷ ys) e = absurd e
  take_each (suc n) (x ∷ xs) [] e = absurd e
  take_each (suc n) (x ∷ xs) (y ∷ ys) e = (e.0, take_each n xs ys e.1)

  pub while_each : (t u : A → Bool) → Agree t u → (xs ys : List A) → Each xs ys → Each (take_while t xs) (take_while u ys)
  while_each t u h xs ys e = subst (λ n. Each (take_while t xs) (take n ys)) (sym (prefix_each t u h xs ys e)) (take_each (prefix_len t xs) xs ys e)

  -- ---- what is made of the elements

  pub some_same : {B : Type 0} (g h : A → List B) → ((x y : A) → R x y → h y ≡ g x) → (o p : Option A) → Both o p → rows_of_some h p ≡ rows_of_some g o
  some_same g h k None None e = refl
  some_same g h k None (Some y) e = absurd e
  some_same g h k (Some x) None e = absurd e
  some_same g h k (Some x) (Some y) e = k x y e

  pub flat_same : {B : Type 0} (g h : A → List B) → ((x y : A) → R x y → h y ≡ g x) → (xs ys : List A) → Each xs ys → flat_map h ys ≡ flat_map g xs
  flat_same g h k [] [] e = refl
  flat_same g h k [] (y ∷ ys) e = absurd e
  flat_same g h k (x ∷ xs) [] e = absurd e
  flat_same g h k (x ∷ xs) (y ∷ ys) e = λ i. k x y e.0 i ++ flat_same g h k xs ys e.1 i

  pub flat_each : (g h : A → List A) → ((x y : A) → R x y → Each (g x) (h y)) → (xs ys : List A) → Each xs ys → Each (flat_map g xs) (flat_map h ys)
  flat_each g h k [] [] e = tt
  flat_each g h k [] (y ∷ ys) e = absurd e
  flat_each g h k (x ∷ xs) [] e = absurd e
  flat_each g h k (x ∷ xs) (y ∷ ys) e = append_each (g x) (h y) (flat_map g xs) (flat_map h ys) (k x y e.0) (flat_each g h k xs ys e.1)

  pub after_same : {B : Type 0} (g h : List A → A → List B) → ((us vs : List A) (x y : A) → Each us vs → R x y → h vs y ≡ g us x) → (us vs xs ys : List A) → Each us vs → Each xs ys → each_after h vs ys ≡ each_after g us xs
  after_same g h k us vs [] [] d e = refl
  after_same g h k us vs [] (y ∷ ys) d e = absurd e
  after_same g h k us vs (x ∷ xs) [] d e = absurd e
  after_same g h k us vs (x ∷ xs) (y ∷ ys) d e = λ i. k us vs x y d e.0 i ++ after_same g h k (us ++ x ∷ []) (vs ++ y ∷ []) xs ys (append_each us vs (x ∷ []) (y ∷ []) d (e.0, tt)) e.1 i

  pub some_rows : (f : Name → Name) (g h : A → List Diagnostic) → ((x y : A) → R x y → AreToldAgain f (g x) (h y)) → (o p : Option A) → Both o p → AreToldAgain f (rows_of_some g o) (rows_of_some h p)
  some_rows f g h k None None e = tt
  some_rows f g h k None (Some y) e = absurd e
  some_rows f g h k (Some x) None e = absurd e
  some_rows f g h k (Some x) (Some y) e = k x y e

module _ {A : Type 0} (R : A → A → Type 0) where
  pub links_each : (xs ys : List A) → Each R xs ys → Each (OfPairs R) (neighbours xs) (neighbours ys)
  links_each [] [] e = tt
  links_each [] (y ∷ ys) e = absurd e
  links_each (x ∷ xs) [] e = absurd e
  links_each (x ∷ []) (y ∷ []) e = tt
  links_each (x ∷ []) (y ∷ y2 ∷ ys) e = absurd e.1
  links_each (x ∷ x2 ∷ xs) (y ∷ []) e = absurd e.1
  links_each (x ∷ x2 ∷ xs) (y ∷ y2 ∷ ys) e = ((e.0, e.1.0), links_each (x2 ∷ xs) (y2 ∷ ys) e.1)

module _ (f : Name → Name) where
  pub told_all : (xs : List Diagnostic) → AreToldAgain f xs xs
  told_all [] = tt
  told_all (x ∷ xs) = (told_the_same x, told_all xs)

  pub told_equal : (xs ys : List Diagnostic) → ys ≡ xs → AreToldAgain f xs ys
  told_equal xs ys e = subst (AreToldAgain f xs) (sym e) (told_all xs)

  pub told_append : (xs ys us vs : List Diagnostic) → AreToldAgain f xs ys → AreToldAgain f us vs → AreToldAgain f (xs ++ us) (ys ++ vs)
  told_append [] [] us vs h i = i
  told_append [] (y ∷ ys) us vs h i = absurd h
  told_append (x ∷ xs) [] us vs h i = absurd h
  told_append (x ∷ xs) (y ∷ ys) us vs h i = (h.0, told_append xs ys us vs h.1 i)

  pub told_if : (b c : Bool) (xs ys : List Diagnostic) → c ≡ b → AreToldAgain f xs ys → AreToldAgain f (rows_if b xs) (rows_if c ys)
  told_if b c xs ys e h = subst (λ d. AreToldAgain f (rows_if b xs) (rows_if d ys)) (sym e) (go b)
    where
      go : (d : Bool) → AreToldAgain f (rows_if d xs) (rows_if d ys)
      go true = h
      go false = tt

  -- the same where the rows are told at all
  pub told_where : (b c : Bool) (xs ys : List Diagnostic) → c ≡ b → (b ≡ true → AreToldAgain f xs ys) → AreToldAgain f (rows_if b xs) (rows_if c ys)
  told_where b c xs ys e h = subst (λ d. AreToldAgain f (rows_if b xs) (rows_if d ys)) (sym e) (go b h)
    where
      go : (d : Bool) → (d ≡ true → AreToldAgain f xs ys) → AreToldAgain f (rows_if d xs) (rows_if d ys)
      go true k = k refl
      go false k = tt

  module _ {A : Type 0} (R : A → A → Type 0) where
    pub flat_rows : (g h : A → List Diagnostic) → ((x y : A) → R x y → AreToldAgain f (g x) (h y)) → (xs ys : List A) → Each R xs ys → AreToldAgain f (flat_map g xs) (flat_map h ys)
    flat_rows g h k [] [] e = tt
    flat_rows g h k [] (y ∷ ys) e = absurd e
    flat_rows g h k (x ∷ xs) [] e = absurd e
    flat_rows g h k (x ∷ xs) (y ∷ ys) e = told_append (g x) (h y) (flat_map g xs) (flat_map h ys) (k x y e.0) (flat_rows g h k xs ys e.1)

    pub after_rows : (g h : List A → A → List Diagnostic) → ((us vs : List A) (x y : A) → Each R us vs → R x y → AreToldAgain f (g us x) (h vs y)) → (us vs xs ys : List A) → Each R us vs → Each R xs ys → AreToldAgain f (each_after g us xs) (each_after h vs ys)
    after_rows g h k us vs [] [] d e = tt
    after_rows g h k us vs [] (y ∷ ys) d e = absurd e
    after_rows g h k us vs (x ∷ xs) [] d e = absurd e
    after_rows g h k us vs (x ∷ xs) (y ∷ ys) d e =
        told_append (g us x) (h vs y) (each_after g (us ++ x ∷ []) xs) (each_after h (vs ++ y ∷ []) ys) (k us vs x y d e.0)
        (after_rows g h k (us ++ x ∷ []) (vs ++ y ∷ []) xs ys (append_each R us vs (x ∷ []) (y ∷ []) d (e.0, tt)) e.1)
