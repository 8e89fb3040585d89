-- The members of a class, by the next one and those behind it.
use Rattle.std.proofs.Common.{◌≡◌, List, [], ◌∷◌, ◌++◌, Option, Some, None, Result, Ok, Err, option_map, ap, subst}
use Rattle.std.specs.Iterator.{YieldsFirstBy}
use Rattle.std.specs.Result.{IsErrAnd}
use Rattle.semantic_tree.specs.ChildIter.{shown}
use Rattle.semantic_tree.specs.declared.node.Node.{Node}
use Rattle.semantic_tree.specs.declared.view.AstKind.{AstKind}
use Rattle.semantic_diagnostics.specs.declared.diagnostic.Diagnostic.{Diagnostic}
use Rattle.check_model.specs.Members.{implementation_rows}
use Rattle.check_model.specs.Search.{each_between, first}
use Rattle.check_context.specs.Grandchildren.{grandchildren_left}
use Rattle.check_context.specs.Tells.{TellsSome, IsTelling, Tells}
use Rattle.check_context.proofs.Telling.{goes_on, stops}
use Rattle.check_context.specs.declared.grandchildren.Grandchildren.{Grandchildren}

-- the next element and those behind it, or none
abbrev pub from_next : {A : Type 0} → Option A → List A → List A
from_next None rest = []
from_next (Some x) rest = x ∷ rest

-- the rows of a member and of those behind it, once the next one is taken
pub turn : (before : Option Node) (member : Node) (old new : Grandchildren) (next : Option AstKind) → YieldsFirstBy shown grandchildren_left old next new
    → each_between implementation_rows before (member ∷ grandchildren_left old) ≡ implementation_rows before member (option_map shown next) ++ each_between implementation_rows (Some member) (from_next (option_map shown next) (grandchildren_left new))
turn before member old new None (none, after) = ap (λ l. implementation_rows before member (first l) ++ each_between implementation_rows (Some member) l) none
turn before member old new (Some x) e = ap (λ l. implementation_rows before member (first l) ++ each_between implementation_rows (Some member) l) e

-- the loop goes on behind a member
pub turned : (rows : List Diagnostic) (last : Option Node) (member : Node) (old new : Grandchildren) (next : Option AstKind) (before mid now : List Diagnostic)
    → YieldsFirstBy shown grandchildren_left old next new → IsTelling rows (each_between implementation_rows last (member ∷ grandchildren_left old)) before mid → now ≡ mid ++ implementation_rows last member (option_map shown next)
    → IsTelling rows (each_between implementation_rows (Some member) (from_next (option_map shown next) (grandchildren_left new))) before now
turned rows last member old new next before mid now steps h k =
    goes_on rows (implementation_rows last member (option_map shown next)) (each_between implementation_rows (Some member) (from_next (option_map shown next) (grandchildren_left new))) before mid now
    (subst (λ l. IsTelling rows l before mid) (turn last member old new next steps) h)
    k

-- the loop stops at a member for want of memory
pub stopped : {A E : Type 0} (P : E → Type 0) (r : Result A E) (rows : List Diagnostic) (last : Option Node) (member : Node) (old new : Grandchildren) (next : Option AstKind) (before mid now : List Diagnostic)
    → IsErrAnd r P → YieldsFirstBy shown grandchildren_left old next new → IsTelling rows (each_between implementation_rows last (member ∷ grandchildren_left old)) before mid → TellsSome (implementation_rows last member (option_map shown next)) mid now → Tells r rows before now
stopped P (Ok done) rows last member old new next before mid now e steps h k = absurd e
stopped P (Err want) rows last member old new next before mid now e steps h k =
    stops rows (implementation_rows last member (option_map shown next)) (each_between implementation_rows (Some member) (from_next (option_map shown next) (grandchildren_left new))) before mid now
    (subst (λ l. IsTelling rows l before mid) (turn last member old new next steps) h)
    k
