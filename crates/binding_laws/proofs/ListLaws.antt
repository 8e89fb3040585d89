-- Members of mapped, joined and filtered lists, and what holds of each step or declaration.
use Rattle.std.proofs.Common.{◌≡◌, List, [], ◌∷◌, ◌++◌, Bool, true, false, cond, map, flat_map, filter, inl, inr, refl, sym, ap, subst, ◌∙◌}
use Rattle.semantic_tree.specs.declared.node.Node.{Node}
use Rattle.semantic_model.specs.Declaration.{Declaration}
use Rattle.semantic_model.specs.EachStep.{EachStep}
use Rattle.semantic_model.specs.Entries.{Among}
use Rattle.semantic_model.specs.Step.{Step}
use Rattle.semantic_model.proofs.fold.EachDeclared.{EachDeclared}
use Rattle.semantic_model.proofs.lists.Members.{among_left, among_right}
use Rattle.walk_model.proofs.once.NamesInRole.{AtMostOne}
use Rattle.binding_laws.proofs.SmallLaws.{never, not_empty}

-- ---- members

pub of_map : {A B : Type 0} → (f : A → B) (xs : List A) (x : A) → Among x xs → Among (f x) (map f xs)
of_map f [] x a = absurd a
of_map f (y ∷ xs) x (inl e) = inl (ap f e)
of_map f (y ∷ xs) x (inr a) = inr (of_map f xs x a)

pub of_flat : {A B : Type 0} → (f : A → List B) (xs : List A) (x : A) (y : B) → Among x xs → Among y (f x) → Among y (flat_map f xs)
of_flat f [] x y a b = absurd a
of_flat f (z ∷ xs) x y (inl e) b = among_left y (f z) (flat_map f xs) (subst (λ w. Among y (f w)) (sym e) b)
of_flat f (z ∷ xs) x y (inr a) b = among_right y (f z) (flat_map f xs) (of_flat f xs x y a b)

pub among_filter : {A : Type 0} → (test : A → Bool) (xs : List A) (x : A) → Among x xs → test x ≡ true → Among x (filter test xs)
among_filter test [] x a t = absurd a
among_filter test (y ∷ xs) x a t = go (test y) refl a (λ b. among_filter test xs x b t)
  where
    go : (b : Bool) → test y ≡ b → Among x (y ∷ xs) → (Among x xs → Among x (filter test xs)) → Among x (cond b (y ∷ filter test xs) (filter test xs))
    go true e (inl q) later = inl q
    go true e (inr i) later = inr (later i)
    go false e (inl q) later = absurd (never (sym (subst (λ z. test z ≡ true) (sym q) t) ∙ e))
    go false e (inr i) later = later i

pub filter_among : {A : Type 0} → (test : A → Bool) (xs : List A) (x : A) → Among x (filter test xs) → Among x xs × (test x ≡ true)
filter_among test [] x a = absurd a
filter_among test (y ∷ xs) x a = go (test y) refl a (filter_among test xs x)
  where
    go : (b : Bool) → test y ≡ b → Among x (cond b (y ∷ filter test xs) (filter test xs)) → (Among x (filter test xs) → Among x xs × (test x ≡ true)) → Among x (y ∷ xs) × (test x ≡ true)
    go true e (inl q) later = (inl q, subst (λ z. test z ≡ true) q e)
    go true e (inr i) later = let w : Among x xs × (test x ≡ true) = later i in (inr w.0, w.1)
    go false e i later = let w : Among x xs × (test x ≡ true) = later i in (inr w.0, w.1)

-- two of at most one are the same
pub same_of_one : (ns : List Node) (n m : Node) → AtMostOne ns → Among n ns → Among m ns → n ≡ m
same_of_one [] n m o a b = absurd a
same_of_one (y ∷ []) n m o (inl i) (inl j) = sym i ∙ j
same_of_one (y ∷ []) n m o (inl i) (inr b) = absurd b
same_of_one (y ∷ []) n m o (inr a) b = absurd a
same_of_one (y ∷ z ∷ ns) n m o a b = absurd o

-- what a filter drops doesn't pass
pub filtered_out : {A : Type 0} → (test : A → Bool) (xs : List A) (x : A) → filter test xs ≡ [] → Among x xs → test x ≡ false
filtered_out test [] x h a = absurd a
filtered_out test (y ∷ xs) x h a = go (test y) refl h a (filtered_out test xs x)
  where
    go : (b : Bool) → test y ≡ b → cond b (y ∷ filter test xs) (filter test xs) ≡ [] → Among x (y ∷ xs) → (filter test xs ≡ [] → Among x xs → test x ≡ false) → test x ≡ false
    go true e i j later = absurd (not_empty y (filter test xs) i)
    go false e i (inl q) later = subst (λ z. test z ≡ false) q e
    go false e i (inr j) later = later i j

-- a list to which one entry is added
pub filter_push : {A : Type 0} → (test : A → Bool) (xs : List A) (x : A) → filter test (xs ++ x ∷ []) ≡ cond (test x) (filter test xs ++ x ∷ []) (filter test xs)
filter_push test [] x = refl
filter_push test (y ∷ xs) x = one (test y) (test x) (filter_push test xs x)
  where
    one : (a b : Bool) → filter test (xs ++ x ∷ []) ≡ cond b (filter test xs ++ x ∷ []) (filter test xs)
        → cond a (y ∷ filter test (xs ++ x ∷ [])) (filter test (xs ++ x ∷ [])) ≡ cond b (cond a (y ∷ filter test xs) (filter test xs) ++ x ∷ []) (cond a (y ∷ filter test xs) (filter test xs))
    one true true e = ap (λ l. y ∷ l) e
    one true false e = ap (λ l. y ∷ l) e
    one false true e = e
    one false false e = e

-- ---- what holds of each

pub each_at : (P : Step → Type 0) (ss : List Step) (st : Step) → EachStep P ss → Among st ss → P st
each_at P [] st h a = absurd a
each_at P (y ∷ ss) st h (inl e) = subst P e h.0
each_at P (y ∷ ss) st h (inr a) = each_at P ss st h.1 a

pub each_map : (P Q : Step → Type 0) → ((st : Step) → P st → Q st) → (ss : List Step) → EachStep P ss → EachStep Q ss
each_map P Q f [] h = tt
each_map P Q f (s ∷ ss) h = (f s h.0, each_map P Q f ss h.1)

pub each_declared : (P : Declaration → Type 0) (ds : List Declaration) (d : Declaration) → EachDeclared P ds → Among d ds → P d
each_declared P [] d h a = absurd a
each_declared P (e ∷ ds) d h (inl q) = subst P q h.0
each_declared P (e ∷ ds) d h (inr a) = each_declared P ds d h.1 a
