-- What holds of each part of a kind holds of the children of a node that keeps the table.
use Rattle.std.proofs.Common.{◌≡◌, ℕ, List, [], ◌∷◌, ◌++◌, Bool, true, take, drop, length, refl, sym, subst, arith}
use Rattle.std.specs.List.{list_all}
use Rattle.std.proofs.lemmas.Bool.{eqb-true, and_from}
use Rattle.std.proofs.lemmas.List.{take-append-drop}
use Rattle.semantic_syntax.proofs.Truth.{and_first, and_second}
use Rattle.semantic_kinds.specs.Classes.{is_of}
use Rattle.semantic_kinds.specs.Roles.{same_role}
use Rattle.semantic_kinds.specs.declared.kind.AstType.{AstType}
use Rattle.semantic_kinds.specs.declared.role.Role.{Role}
use Rattle.semantic_kinds.specs.declared.part.Part.{Part}
use Rattle.semantic_tree.specs.Fit.{lead, all_of, is_run, fit}
use Rattle.semantic_tree.specs.declared.node.Node.{Node}
use Rattle.semantic_tree.proofs.FitLaws.{lead_in_role}
use Rattle.semantic_model.proofs.form.Clauses.{role_is}

module _ (q : AstType → Role → AstType → List ℕ → Bool) where
  -- the test holds of whatever the part may be
  abbrev pub HoldsPart : AstType → Part → Type 0
  HoldsPart k part = (k2 : AstType) (text : List ℕ) → is_of part.class k2 text ≡ true → q k part.role k2 text ≡ true

  abbrev pub HoldParts : AstType → List Part → Type 0
  HoldParts k [] = Unit {0}
  HoldParts k (p ∷ ps) = HoldsPart k p × HoldParts k ps

  -- of parts that pass a test of their own
  pub passed_hold : (test : List ℕ → Part → Bool) (k : AstType) → ((part : Part) (k2 : AstType) (text : List ℕ) → test text part ≡ true → is_of part.class k2 text ≡ true → q k part.role k2 text ≡ true)
      → (ps : List Part) → ((text : List ℕ) → list_all (test text) ps ≡ true) → HoldParts k ps
  passed_hold test k one [] h = tt
  passed_hold test k one (p ∷ ps) h = (λ k2 text i. one p k2 text (and_first (test text p) _ (h text)) i, passed_hold test k one ps (λ text. and_second (test text p) _ (h text)))

  abbrev pub hold : AstType → List (Role × Node) → Bool
  hold k cs = list_all (λ c. q k c.0 c.1.kind c.1.text) cs

  run_holds : (k : AstType) (part : Part) (own : List (Role × Node)) → HoldsPart k part → list_all (λ c. same_role c.0 part.role) own ≡ true → all_of part.class own ≡ true → hold k own ≡ true
  run_holds k part [] h s i = refl
  run_holds k part (c ∷ cs) h s i =
      and_from (q k c.0 c.1.kind c.1.text) (hold k cs)
      (subst (λ r. q k r c.1.kind c.1.text ≡ true) (sym (role_is c.0 part.role (and_first (same_role c.0 part.role) _ s))) (h c.1.kind c.1.text (and_first (is_of part.class c.1.kind c.1.text) _ i)))
      (run_holds k part cs h (and_second (same_role c.0 part.role) _ s) (and_second (is_of part.class c.1.kind c.1.text) _ i))

  hold_append : (k : AstType) (xs ys : List (Role × Node)) → hold k xs ≡ true → hold k ys ≡ true → hold k (xs ++ ys) ≡ true
  hold_append k [] ys h i = i
  hold_append k (x ∷ xs) ys h i = and_from (q k x.0 x.1.kind x.1.text) (hold k (xs ++ ys)) (and_first (q k x.0 x.1.kind x.1.text) _ h) (hold_append k xs ys (and_second (q k x.0 x.1.kind x.1.text) _ h) i)

  pub fit_holds : (k : AstType) (ps : List Part) (cs : List (Role × Node)) → HoldParts k ps → fit ps cs ≡ true → hold k cs ≡ true
  fit_holds k [] [] h f = refl
  fit_holds k [] (c ∷ cs) h f = let w : length (c ∷ cs) ≡ 0 = eqb-true (length (c ∷ cs)) 0 f in absurd (omega arith)
  fit_holds k (p ∷ ps) cs h f =
      let n : ℕ = lead p.role cs in
      let run : is_run p (take n cs) ≡ true = and_first (is_run p (take n cs)) _ f in
      subst (λ xs. hold k xs ≡ true) (take-append-drop n cs)
      (hold_append k (take n cs) (drop n cs)
      (run_holds k p (take n cs) h.0 (lead_in_role p.role cs) (and_second _ (all_of p.class (take n cs)) run))
      (fit_holds k ps (drop n cs) h.1 (and_second (is_run p (take n cs)) _ f)))
