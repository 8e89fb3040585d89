-- A name is found among the names of its length.
use Rattle.std.proofs.Common.{◌≡◌, ℕ, List, [], ◌∷◌, Bool, true, false, ◌==◌, Option, Some, if◌then◌else◌, length, filter, refl, sym, ap, ◌∙◌}
use Rattle.std.specs.Prelude.{find}
use Rattle.std.specs.Str.{bytes_eq}
use Rattle.std.proofs.lemmas.Bool.Decides.{Decides-eqb}
use Rattle.std.proofs.lemmas.Slice.Eq.{bytes_eq-Decides}
use Rattle.semantic_kinds.specs.Kinds.{kind_name, all_kinds, kinds_of_length, kind_named}
use Rattle.semantic_kinds.specs.Roles.{role_name, all_roles, roles_of_length, role_named}
use Rattle.semantic_kinds.specs.Marks.{mark_name, all_marks, marks_of_length, mark_named}

true_is_not_false : true ≡ false → ⊥
true_is_not_false e = cc

-- what the second test refuses the first refuses too
step : {X : Type 0} (x : X) (t f : Bool) (few all : Option X) → (t ≡ true → f ≡ true) → (filtered : Bool → Option X) → filtered true ≡ (if t then Some x else few) → filtered false ≡ few → few ≡ all → filtered f ≡ (if t then Some x else all)
step x t true few all implies filtered with without same = with ∙ ap (λ rest. if t then Some x else rest) same
step x true false few all implies filtered with without same = absurd (true_is_not_false (sym (implies refl)))
step x false false few all implies filtered with without same = without ∙ same

-- a test that passes nothing that the first test refuses finds the same among what the first passes
find-filter : {X : Type 0} (test first : X → Bool) → ((x : X) → test x ≡ true → first x ≡ true) → (xs : List X) → find test (filter first xs) ≡ find test xs
find-filter test first implies [] = refl
find-filter test first implies (x ∷ xs) =
    step x (test x) (first x) (find test (filter first xs)) (find test xs) (implies x) (λ b. find test (if b then x ∷ filter first xs else filter first xs)) refl refl (find-filter test first implies xs)

-- texts of one name have its length
has_length : (name text : List ℕ) → bytes_eq name text ≡ true → (length name == length text) ≡ true
has_length name text e = (Decides-eqb (length name) (length text)).1 (ap length ((bytes_eq-Decides name text).0 e))

-- among things with names, one of a name is found among those of its length
named : {X : Type 0} (name : X → List ℕ) (text : List ℕ) (xs : List X) → find (λ one. bytes_eq (name one) text) (filter (λ one. length (name one) == length text) xs) ≡ find (λ one. bytes_eq (name one) text) xs
named name text xs = find-filter (λ one. bytes_eq (name one) text) (λ one. length (name one) == length text) (λ one e. has_length (name one) text e) xs

pub kind_found : (text : List ℕ) → find (λ one. bytes_eq (kind_name one) text) (kinds_of_length (length text)) ≡ kind_named text
unfolding kinds_of_length kind_named
kind_found text = named kind_name text all_kinds

pub role_found : (text : List ℕ) → find (λ one. bytes_eq (role_name one) text) (roles_of_length (length text)) ≡ role_named text
unfolding roles_of_length role_named
role_found text = named role_name text all_roles

pub mark_found : (text : List ℕ) → find (λ one. bytes_eq (mark_name one) text) (marks_of_length (length text)) ≡ mark_named text
unfolding marks_of_length mark_named
mark_found text = named mark_name text all_marks
