-- What the parts of a kind ask of children, children that fit have.
use Rattle.std.proofs.Common.{◌≡◌, ℕ, List, [], ◌∷◌, ◌++◌, Bool, true, take, drop, length, refl, sym, subst, arith}
use Rattle.std.specs.List.{list_all}
use Rattle.std.proofs.lemmas.Bool.{eqb-true, and_from}
use Rattle.std.proofs.lemmas.List.{take-append-drop}
use Rattle.std.proofs.lemmas.List.Folds.{list_all-append}
use Rattle.semantic_syntax.proofs.Truth.{and_first, and_second}
use Rattle.semantic_kinds.specs.Roles.{same_role}
use Rattle.semantic_kinds.specs.Classes.{is_of}
use Rattle.semantic_kinds.specs.declared.kind.AstType.{AstType}
use Rattle.semantic_kinds.specs.declared.role.Role.{Role}
use Rattle.semantic_kinds.specs.declared.part.Part.{Part}
use Rattle.semantic_tree.specs.Fit.{lead, all_of, is_run, fit}
use Rattle.semantic_tree.specs.declared.node.Node.{Node}
use Rattle.semantic_tree.proofs.FitLaws.{lead_in_role}
use Rattle.semantic_model.proofs.form.Clauses.{role_is}

-- the children pass the test, by role and kind
abbrev pub all_pass : (Role → AstType → Bool) → List (Role × Node) → Bool
all_pass test cs = list_all (λ c. test c.0 c.1.kind) cs

pass_append : (test : Role → AstType → Bool) (xs ys : List (Role × Node)) → all_pass test xs ≡ true → all_pass test ys ≡ true → all_pass test (xs ++ ys) ≡ true
pass_append test xs ys h i = rw (list_all-append (λ c. test c.0 c.1.kind) xs ys, h, i) refl

-- what passes for a part passes for each child that the part takes
module _ (asks : List ℕ → Part → Bool) (test : Role → AstType → Bool) (carry : (part : Part) (k : AstType) (text : List ℕ) → asks text part ≡ true → is_of part.class k text ≡ true → test part.role k ≡ true) where
  run_passes : (part : Part) (own : List (Role × Node)) → ((text : List ℕ) → asks text part ≡ true) → list_all (λ c. same_role c.0 part.role) own ≡ true → all_of part.class own ≡ true → all_pass test own ≡ true
  run_passes part [] h s i = refl
  run_passes part (c ∷ cs) h s i =
      and_from (test c.0 c.1.kind) (all_pass test cs)
      (subst (λ r. test r c.1.kind ≡ true) (sym (role_is c.0 part.role (and_first (same_role c.0 part.role) _ s))) (carry part c.1.kind c.1.text (h c.1.text) (and_first (is_of part.class c.1.kind c.1.text) _ i)))
      (run_passes part cs h (and_second (same_role c.0 part.role) _ s) (and_second (is_of part.class c.1.kind c.1.text) _ i))

  pub fit_passes : (ps : List Part) (cs : List (Role × Node)) → ((text : List ℕ) → list_all (asks text) ps ≡ true) → fit ps cs ≡ true → all_pass test cs ≡ true
  fit_passes [] [] h f = refl
  fit_passes [] (c ∷ cs) h f = absurd (omega (arith, eqb-true (length (c ∷ cs)) 0 f))
  fit_passes (p ∷ ps) cs h f =
      let n : ℕ = lead p.role cs in
      let run : is_run p (take n cs) ≡ true = and_first (is_run p (take n cs)) _ f in
      subst (λ xs. all_pass test xs ≡ true) (take-append-drop n cs)
      (pass_append test (take n cs) (drop n cs)
      (run_passes p (take n cs) (λ text. and_first (asks text p) _ (h text)) (lead_in_role p.role cs) (and_second _ (all_of p.class (take n cs)) run))
      (fit_passes ps (drop n cs) (λ text. and_second (asks text p) _ (h text)) (and_second (is_run p (take n cs)) _ f)))
