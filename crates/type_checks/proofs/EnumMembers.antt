-- The members of an enum, each after the last initializer before it.
use Rattle.std.proofs.Common.{◌≡◌, List, Result, Ok, Err, subst, [], ◌∷◌, ◌++◌, Bool, true, false, Option, Some, None, if◌then◌else◌, not, refl, sym, ap, ◌∙◌}
use Rattle.std.specs.List.{find}
use Rattle.std.specs.Option.{option_and_then}
use Rattle.std.proofs.lemmas.List.{reverse-append}
use Rattle.semantic_kinds.specs.declared.role.Role.TheVariants as roles
use Rattle.semantic_tree.specs.Views.{has_child, child_of, is_there}
use Rattle.semantic_tree.specs.declared.node.Node.{Node}
use Rattle.std.specs.Result.{IsErrAnd}
use Rattle.semantic_diagnostics.specs.declared.diagnostic.Diagnostic.{Diagnostic}
use Rattle.semantic_diagnostics.specs.Types.{enum_member_must_have_initializer}
use Rattle.check_model.specs.Search.{row_if, rows_if, rows_of_some, each_after, find_last}
use Rattle.check_context.specs.Tells.{TellsSome, IsTelling, Tells}
use Rattle.check_context.proofs.Telling.{begins, stops}
use Rattle.check_model.specs.Types.{counts_on, last_initializer, member_rows}

-- the rows of a member by its initializer and the last one before
abbrev pub rows_by : Option Node → Option Node → Node → List Diagnostic
rows_by (Some own) last member = []
rows_by None last member = rows_of_some (λ before. row_if (not (counts_on before)) (enum_member_must_have_initializer member.span)) last

-- the last initializer behind a member
abbrev pub last_by : Option Node → Option Node → Option Node
last_by (Some own) last = Some own
last_by None last = last

-- the rows of the members that are left, behind the last initializer
abbrev pub rows_from : Option Node → List Node → List Diagnostic
rows_from last [] = []
rows_from last (member ∷ rest) = rows_by (child_of roles.Initializer member) last member ++ rows_from (last_by (child_of roles.Initializer member) last) rest

rows_of_one : (own : Option Node) (earlier : List Node) (member : Node) → child_of roles.Initializer member ≡ own → member_rows earlier member ≡ rows_by own (last_initializer earlier) member
rows_of_one (Some own) earlier member h = ap (λ o. rows_if (not (is_there o)) (rows_of_some (λ before. row_if (not (counts_on before)) (enum_member_must_have_initializer member.span)) (last_initializer earlier))) h
rows_of_one None earlier member h = ap (λ o. rows_if (not (is_there o)) (rows_of_some (λ before. row_if (not (counts_on before)) (enum_member_must_have_initializer member.span)) (last_initializer earlier))) h

first_with : (b : Bool) (member : Node) (rest : Option Node) (own : Option Node) → child_of roles.Initializer member ≡ own → is_there own ≡ b → option_and_then (child_of roles.Initializer) (if b then Some member else rest) ≡ last_by own (option_and_then (child_of roles.Initializer) rest)
first_with true member rest (Some own) h k = h
first_with true member rest None h k = absurd cc
first_with false member rest (Some own) h k = absurd cc
first_with false member rest None h k = refl

last_of_more : (earlier : List Node) (member : Node) → last_initializer (earlier ++ member ∷ []) ≡ last_by (child_of roles.Initializer member) (last_initializer earlier)
last_of_more earlier member =
    ap (λ l. option_and_then (child_of roles.Initializer) (find (has_child roles.Initializer) l)) (reverse-append earlier (member ∷ []))
    ∙ first_with (has_child roles.Initializer member) member (find_last (has_child roles.Initializer) earlier) (child_of roles.Initializer member) refl refl

pub rows_are_from : (earlier members : List Node) → each_after member_rows earlier members ≡ rows_from (last_initializer earlier) members
rows_are_from earlier [] = refl
rows_are_from earlier (member ∷ rest) =
    ap (λ own. own ++ each_after member_rows (earlier ++ member ∷ []) rest) (rows_of_one (child_of roles.Initializer member) earlier member refl)
    ∙ ap (λ l. rows_by (child_of roles.Initializer member) (last_initializer earlier) member ++ l) (rows_are_from (earlier ++ member ∷ []) rest ∙ ap (λ last. rows_from last rest) (last_of_more earlier member))

-- a loop over the members begins
pub begun : (members left : List Node) (before : List Diagnostic) → left ≡ members → IsTelling (each_after member_rows [] members) (rows_from None left) before before
begun members left before is =
    subst (λ l. IsTelling (each_after member_rows [] members) l before before) (rows_are_from [] members ∙ ap (rows_from None) (sym is)) (begins (each_after member_rows [] members) before)

-- and stops for want of memory
pub stopped : {A E : Type 0} (P : E → Type 0) (r : Result A E) (rows : List Diagnostic) (last : Option Node) (left rest : List Node) (member : Node) (before mid now : List Diagnostic)
    → IsErrAnd r P → left ≡ member ∷ rest → child_of roles.Initializer member ≡ None → IsTelling rows (rows_from last left) before mid → TellsSome (rows_by None last member) mid now → Tells r rows before now
stopped P (Ok done) rows last left rest member before mid now e is none h k = absurd e
stopped P (Err want) rows last left rest member before mid now e is none h k =
    stops rows (rows_by None last member) (rows_from last rest) before mid now
    (subst (λ l. IsTelling rows l before mid) (ap (rows_from last) is ∙ ap (λ own. rows_by own last member ++ rows_from (last_by own last) rest) none) h)
    k
