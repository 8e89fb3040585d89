-- What an answer to a request says.
use Rattle.std.proofs.Common.{◌≡◌, Bool, true, false, nat_lt, if◌then◌else◌, Result, Ok, Err, length, refl, sym, ap, ◌∙◌, subst, arith}
use Rattle.std.specs.Result.{IsErrAnd}
use Rattle.std.proofs.lemmas.Bool.Decides.{nat_tests}
use Rattle.semantic_model.specs.TablesOf.{tables_of}
use Rattle.semantic_tree.specs.Tree.{Tree, IsNumbered}
use Rattle.rename_model.specs.Refusal.{bad_name, fixed, differs, rename}
use Rattle.rename_model.specs.Refusal as model
use Rattle.report_ends.specs.declared.error.ReportError.TheVariants as error
use Rattle.renamer.specs.Answers.{IsAnswer, HasSymbol, IsRenamed, IsRefusedAs, answer_to, renaming_of}
use Rattle.renamer.specs.Requests.{RenameRequest}
use Rattle.renamer.specs.declared.error.RenameError.TheVariants as rename_error
use Rattle.renamer.specs.declared.refusal.Refusal.{Refusal}
use Rattle.renamer.specs.declared.refusal.Refusal.TheVariants.{NoSymbol, BadName, Fixed, Differs}
use Rattle.renamer.specs.declared.refusal.RequestError.{RequestError}
use Rattle.renamer.specs.declared.refusal.RequestError.TheVariants.{Stopped}
use Rattle.renamer.proofs.Outcomes.{renaming_of as renaming_by, refused_for}

module _ (asked : RenameRequest) (p : Tree) where
  by_test : (b : Bool) → nat_lt asked.symbol (length (tables_of p).symbols) ≡ b → answer_to asked p ≡ (if b then renaming_of (rename p asked.symbol asked.name) else Err (NoSymbol asked.symbol))
  by_test b is = ap (λ t. if t then renaming_of (rename p asked.symbol asked.name) else Err (NoSymbol asked.symbol)) is

  -- memory was wanting before
  pub answers_nothing : (result : Result Tree RequestError) → IsErrAnd result (λ told. told ≡ Stopped error.Memory) → IsAnswer asked p result
  answers_nothing (Ok q) same = absurd same
  answers_nothing (Err told) same = subst (λ x. IsAnswer asked p (Err x)) (sym same) refl

-- ---- as relations

ok_of : (r : Result Tree model.Refusal) (q : Tree) → renaming_of r ≡ Ok q → r ≡ Ok q
ok_of (Ok t) q h = let same : t ≡ q = cc in ap Ok same
ok_of (Err e) q h = absurd (cc)

module _ (asked : RenameRequest) (p : Tree) where
  abbrev has : Bool
  has = nat_lt asked.symbol (length (tables_of p).symbols)

  -- the program that is given is renamed
  pub is_renamed : (q : Tree) → answer_to asked p ≡ Ok q → IsRenamed asked p q
  is_renamed q is = go has refl
    where
      go : (b : Bool) → has ≡ b → IsRenamed asked p q
      go true e = record {
        there = grind (arith, nat_tests, e);
        renaming = renaming_by p asked.symbol asked.name (Ok q) (ok_of (rename p asked.symbol asked.name) q (sym (by_test asked p true e) ∙ is));
      }
      go false e =
          let none : Err (NoSymbol asked.symbol) ≡ Ok q = sym (by_test asked p false e) ∙ is in
          absurd (cc)

  -- the refusal that is given has its cause
  pub is_refused : (refusal : Refusal) → IsNumbered p.root → answer_to asked p ≡ Err refusal → IsRefusedAs asked p refusal
  is_refused refusal numbered is = go has refl
    where
      by_cause : (r : Result Tree model.Refusal) → rename p asked.symbol asked.name ≡ r → HasSymbol asked p → renaming_of r ≡ Err refusal → IsRefusedAs asked p refusal
      by_cause (Ok q) e l h = absurd (cc)
      by_cause (Err bad_name) e l h =
          let same : BadName ≡ refusal = cc in
          subst (IsRefusedAs asked p) same (l, refused_for p asked.symbol asked.name numbered (Err rename_error.BadName) e)
      by_cause (Err (fixed node)) e l h =
          let same : Fixed node ≡ refusal = cc in
          subst (IsRefusedAs asked p) same (l, refused_for p asked.symbol asked.name numbered (Err (rename_error.Fixed node)) e)
      by_cause (Err (differs node)) e l h =
          let same : Differs node ≡ refusal = cc in
          subst (IsRefusedAs asked p) same (l, refused_for p asked.symbol asked.name numbered (Err (rename_error.Differs node)) e)

      go : (b : Bool) → has ≡ b → IsRefusedAs asked p refusal
      go true e = by_cause (rename p asked.symbol asked.name) refl (grind (arith, nat_tests, e)) (sym (by_test asked p true e) ∙ is)
      go false e =
          let none : Err (NoSymbol asked.symbol) ≡ Err refusal = sym (by_test asked p false e) ∙ is in
          let same : NoSymbol asked.symbol ≡ refusal = cc in
          subst (IsRefusedAs asked p) same (refl, grind (arith, nat_tests, e))
