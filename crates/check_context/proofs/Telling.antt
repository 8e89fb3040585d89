-- What is told by one check after another.
use Rattle.std.proofs.Common.{◌≡◌, List, [], ◌∷◌, ◌++◌, Result, Ok, Err, refl, sym, ap, subst, ◌∙◌}
use Rattle.std.specs.Prelude.{flat_map, IfOk}
use Rattle.std.specs.Result.{IsErrAnd}
use Rattle.std.proofs.lemmas.List.{append-nil, append_assoc}
use Rattle.semantic_diagnostics.specs.declared.diagnostic.Diagnostic.{Diagnostic}
use Rattle.check_context.specs.Tells.{TellsSome, IsTelling, Tells, TellsMade}

-- nothing is told yet
pub none_told : (rows before now : List Diagnostic) → now ≡ before → TellsSome rows before now
none_told rows before now h = record { told = []; left = rows; are_first = refl; are_last = h ∙ sym (append-nil before) }

-- the first of the first rows are the first of all
pub first_begun : (rows more before now : List Diagnostic) → TellsSome rows before now → TellsSome (rows ++ more) before now
first_begun rows more before now h =
    record { told = h.told; left = h.left ++ more; are_first = sym (append_assoc h.told h.left more) ∙ ap (λ l. l ++ more) h.are_first; are_last = h.are_last }

-- all the first rows are told, and then the first of the others
pub then_begun : (rows more before mid now : List Diagnostic) → mid ≡ before ++ rows → TellsSome more mid now → TellsSome (rows ++ more) before now
then_begun rows more before mid now h k =
    record {
      told = rows ++ k.told;
      left = k.left;
      are_first = append_assoc rows k.told k.left ∙ ap (λ l. rows ++ l) k.are_first;
      are_last = k.are_last ∙ ap (λ l. l ++ k.told) h ∙ append_assoc before rows k.told;
    }

pub ruleset telling = (none_told, first_begun, then_begun)

-- what was made is told, as the row that it is
pub told_made : {A E : Type 0} (made : Result Diagnostic E) (r : Result A E) (row : Diagnostic) (before now : List Diagnostic) → TellsMade made r before now → IfOk made (λ d. d ≡ row) → Tells r (row ∷ []) before now
told_made (Ok d) r row before now h is = subst (λ x. Tells r (x ∷ []) before now) is h
told_made (Err want) r row before now h is = h (row ∷ [])

pub ruleset made = (told_made)

-- a loop that tells the rows of one element after another: it begins, goes on, stops for want of memory, and ends
pub begins : (rows before : List Diagnostic) → IsTelling rows rows before before
begins rows before = record { told = []; are_first = refl; are_last = sym (append-nil before) }

pub goes_on : (rows own more before mid now : List Diagnostic) → IsTelling rows (own ++ more) before mid → now ≡ mid ++ own → IsTelling rows more before now
goes_on rows own more before mid now h k =
    record {
      told = h.told ++ own;
      are_first = append_assoc h.told own more ∙ h.are_first;
      are_last = k ∙ ap (λ l. l ++ own) h.are_last ∙ append_assoc before h.told own;
    }

pub stops : (rows own more before mid now : List Diagnostic) → IsTelling rows (own ++ more) before mid → TellsSome own mid now → TellsSome rows before now
stops rows own more before mid now h k =
    record {
      told = h.told ++ k.told;
      left = k.left ++ more;
      are_first = append_assoc h.told k.told (k.left ++ more) ∙ ap (λ l. h.told ++ l) (sym (append_assoc k.told k.left more) ∙ ap (λ l. l ++ more) k.are_first) ∙ h.are_first;
      are_last = k.are_last ∙ ap (λ l. l ++ k.told) h.are_last ∙ append_assoc before h.told k.told;
    }

pub ends : (rows before now : List Diagnostic) → IsTelling rows [] before now → now ≡ before ++ rows
ends rows before now h = h.are_last ∙ ap (λ l. before ++ l) (sym (append-nil h.told) ∙ h.are_first)

-- of two checks the first stops for want of memory
pub first_stops : {A E : Type 0} (P : E → Type 0) (r : Result A E) (rows more before now : List Diagnostic) → IsErrAnd r P → TellsSome rows before now → Tells r (rows ++ more) before now
first_stops P (Ok done) rows more before now h k = absurd h
first_stops P (Err want) rows more before now h k = first_begun rows more before now k

-- the first has told all, and the second goes on
pub then_tells : {A E : Type 0} (r : Result A E) (rows more before mid now : List Diagnostic) → mid ≡ before ++ rows → Tells r more mid now → Tells r (rows ++ more) before now
then_tells (Ok done) rows more before mid now h k = k ∙ ap (λ l. l ++ more) h ∙ append_assoc before rows more
then_tells (Err want) rows more before mid now h k = then_begun rows more before mid now h k

-- a loop goes on behind an element
pub goes_past : {X : Type 0} (f : X → List Diagnostic) (rows before mid now : List Diagnostic) (xs : List X) (x : X) (rest : List X)
    → xs ≡ x ∷ rest → IsTelling rows (flat_map f xs) before mid → now ≡ mid ++ f x → IsTelling rows (flat_map f rest) before now
goes_past f rows before mid now xs x rest is t k = goes_on rows (f x) (flat_map f rest) before mid now (subst (λ l. IsTelling rows (flat_map f l) before mid) is t) k

-- a loop stops at an element
pub loop_stops : {A E X : Type 0} (P : E → Type 0) (f : X → List Diagnostic) (rows before mid now : List Diagnostic) (xs : List X) (x : X) (rest : List X) (r : Result A E)
    → IsErrAnd r P → xs ≡ x ∷ rest → IsTelling rows (flat_map f xs) before mid → TellsSome (f x) mid now → Tells r rows before now
loop_stops P f rows before mid now xs x rest (Ok done) h is t k = absurd h
loop_stops P f rows before mid now xs x rest (Err want) h is t k =
    stops rows (f x) (flat_map f rest) before mid now (subst (λ l. IsTelling rows (flat_map f l) before mid) is t) k

pub ruleset loop_telling = (none_told, first_begun, then_begun, begins, goes_on, stops, ends)
