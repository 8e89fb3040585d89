-- A loop that tells of repeated names: it goes on, and it stops for want of memory.
use Rattle.std.proofs.Common.{◌≡◌, ℕ, List, [], ◌∷◌, ◌++◌, Option, Result, Ok, Err, ap, subst, ◌∙◌}
use Rattle.std.specs.Borrow.{Bor}
use Rattle.std.specs.HashMap.{HashMap}
use Rattle.std.specs.Result.{IsErrAnd}
use Rattle.semantic_syntax.specs.declared.spans.Span.{Span}
use Rattle.semantic_tree.specs.declared.node.Node.{Node}
use Rattle.semantic_diagnostics.specs.declared.diagnostic.Diagnostic.{Diagnostic}
use Rattle.check_model.specs.Methods.{repeated_rows}
use Rattle.check_model.specs.Search.{each_after}
use Rattle.check_context.specs.Tells.{TellsSome, IsTelling, Tells}
use Rattle.check_context.proofs.Telling.{goes_on, stops}
use Rattle.type_checks.specs.Repeats.{last_span, rows_after, HasLast, IsRepeating}
use Rattle.type_checks.proofs.LastSeen.{rows_are_after}

-- the rows of a name stand in front of those that are left
next_is : (rows : List Diagnostic) (earlier left rest : List Node) (name : Node) (before mid : List Diagnostic) → left ≡ name ∷ rest → IsTelling rows (each_after repeated_rows earlier left) before mid → IsTelling rows (repeated_rows earlier name ++ each_after repeated_rows (earlier ++ name ∷ []) rest) before mid
next_is rows earlier left rest name before mid is h = subst (λ l. IsTelling rows (each_after repeated_rows earlier l) before mid) is h

-- what is told of a name by where it stood before
same_rows : (earlier : List Node) (name : Node) (was : Option Span) → was ≡ last_span earlier name → rows_after was name ≡ repeated_rows earlier name
same_rows earlier name was at = ap (λ w. rows_after w name) at ∙ rows_are_after earlier name

pub turned : {S : Type 0} (rows : List Diagnostic) (left rest : List Node) (name : Node) (was : Option Span) (seen after : HashMap (Bor (List ℕ)) Span S) (before mid now : List Diagnostic)
    → (h : IsRepeating rows left seen before mid) → left ≡ name ∷ rest → was ≡ last_span h.earlier name → HasLast (h.earlier ++ name ∷ []) after → now ≡ mid ++ rows_after was name → IsRepeating rows rest after before now
turned rows left rest name was seen after before mid now h is at more told = record {
  earlier = h.earlier ++ name ∷ [];
  last = more;
  telling =
      goes_on rows (repeated_rows h.earlier name) (each_after repeated_rows (h.earlier ++ name ∷ []) rest) before mid now
      (next_is rows h.earlier left rest name before mid is h.telling)
      (told ∙ ap (λ l. mid ++ l) (same_rows h.earlier name was at));
}

pub stopped : {A E S : Type 0} (P : E → Type 0) (r : Result A E) (rows : List Diagnostic) (left rest : List Node) (name : Node) (was : Option Span) (seen : HashMap (Bor (List ℕ)) Span S) (before mid now : List Diagnostic)
    → IsErrAnd r P → (h : IsRepeating rows left seen before mid) → left ≡ name ∷ rest → was ≡ last_span h.earlier name → TellsSome (rows_after was name) mid now → Tells r rows before now
stopped P (Ok done) rows left rest name was seen before mid now e h is at k = absurd e
stopped P (Err want) rows left rest name was seen before mid now e h is at k =
    stops rows (repeated_rows h.earlier name) (each_after repeated_rows (h.earlier ++ name ∷ []) rest) before mid now
    (next_is rows h.earlier left rest name before mid is h.telling)
    (subst (λ l. TellsSome l mid now) (same_rows h.earlier name was at) k)
