-- Names that pass, one by one.
use Rattle.std.proofs.Common.{◌≡◌, ℕ, zero, suc, ◌+◌, ◌<◌, ◌≤◌, List, [], ◌∷◌, Option, Some, None, Bool, true, false, ◌&&◌, length, drop, refl, sym, ap, ◌∙◌, arith}
use Rattle.std.proofs.Math.ListN.{drop_of_length-le}
use Rattle.semantic_syntax.specs.Tables.{Name}
use Rattle.mangle_model.specs.Assignment.{assignment_of}
use Rattle.mangle_model.specs.Mangling.{all_pass}
use Rattle.mangler.specs.Passing.{passes_option}

one_more : (test : ℕ → Name → Bool) (i : ℕ) (o : Option Name) (names : List (Option Name)) → all_pass test i (o ∷ names) ≡ (passes_option test i o && all_pass test (i + 1) names)
one_more test i None names = refl
one_more test i (Some name) names = refl

pass_from : (test : ℕ → Name → Bool) (from : ℕ) (names : List (Option Name)) (i : ℕ) → i < length names → (o : Option Name) → assignment_of names i ≡ o
    → all_pass test (from + i) (drop i names) ≡ all_pass test (from + i) (o ∷ drop (i + 1) names)
pass_from test from [] i h o e = absurd (omega arith)
pass_from test from (n ∷ names) zero h o e = ap (λ m. all_pass test (from + 0) (m ∷ names)) (named n o e)
  where
    named : (n o : Option Name) → assignment_of (n ∷ []) 0 ≡ o → n ≡ o
    named n o e = e
pass_from test from (n ∷ names) (suc i) h o e =
    let shift : from + suc i ≡ suc from + i = omega arith in
    ap (λ k. all_pass test k (drop i names)) shift
    ∙ pass_from test (suc from) names i (omega arith) o e
    ∙ ap (λ k. all_pass test k (o ∷ drop (i + 1) names)) (sym shift)
    ∙ ap (λ k. all_pass test (from + suc i) (o ∷ drop k (n ∷ names))) (more i)
  where
    more : (i : ℕ) → suc (i + 1) ≡ suc i + 1
    more i = omega arith

pub pass_at : (test : ℕ → Name → Bool) (names : List (Option Name)) (i : ℕ) → i < length names → (o : Option Name) → assignment_of names i ≡ o
    → all_pass test i (drop i names) ≡ all_pass test i (o ∷ drop (i + 1) names)
pass_at test names i h o e =
    let none : 0 + i ≡ i = omega arith in
    ap (λ k. all_pass test k (drop i names)) (sym none) ∙ pass_from test 0 names i h o e ∙ ap (λ k. all_pass test k (o ∷ drop (i + 1) names)) none

pub pass_next : (test : ℕ → Name → Bool) (names : List (Option Name)) (i : ℕ) (whole : Bool) → i < length names → passes_option test i (assignment_of names i) ≡ true
    → all_pass test i (drop i names) ≡ whole → all_pass test (i + 1) (drop (i + 1) names) ≡ whole
pass_next test names i whole h pass rest =
    sym (pass_at test names i h (assignment_of names i) refl ∙ one_more test i (assignment_of names i) (drop (i + 1) names) ∙ ap (λ b. b && all_pass test (i + 1) (drop (i + 1) names)) pass) ∙ rest

pub pass_fails : (test : ℕ → Name → Bool) (names : List (Option Name)) (i : ℕ) (whole : Bool) → i < length names → passes_option test i (assignment_of names i) ≡ false
    → all_pass test i (drop i names) ≡ whole → false ≡ whole
pass_fails test names i whole h fail rest =
    sym (pass_at test names i h (assignment_of names i) refl ∙ one_more test i (assignment_of names i) (drop (i + 1) names) ∙ ap (λ b. b && all_pass test (i + 1) (drop (i + 1) names)) fail) ∙ rest

pub pass_end : (test : ℕ → Name → Bool) (names : List (Option Name)) (i : ℕ) (whole : Bool) → length names ≤ i → all_pass test i (drop i names) ≡ whole → true ≡ whole
pass_end test names i whole h rest = sym (ap (all_pass test i) (drop_of_length-le names h)) ∙ rest
