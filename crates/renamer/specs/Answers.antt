-- What is answered to a request.
use Rattle.std.specs.Prelude.{◌≡◌, ℕ, ◌<◌, ◌≤◌, List, length, nat_lt, Result, Ok, Err, if◌then◌else◌, codes}
use Rattle.serde_json.specs.Written.{compact_text}
use Rattle.semantic_tree.specs.Tree.{Tree}
use Rattle.semantic_model.specs.TablesOf.{tables_of}
use Rattle.tree_json.specs.Form.{in_rows}
use Rattle.tree_json.specs.Written.{program_data}
use Rattle.report_ends.specs.declared.error.ReportError.TheVariants as error
use Rattle.program_ends.specs.Lines.{numbered_line}
use Rattle.rename_model.specs.Refusal.{bad_name, fixed, differs, rename}
use Rattle.rename_model.specs.Refusal as model
use Rattle.renamer.specs.Outcome.{IsRenaming, IsRefusedFor}
use Rattle.renamer.specs.Requests.{RenameRequest}
use Rattle.renamer.specs.declared.error.RenameError.{RenameError}
use Rattle.renamer.specs.declared.error.RenameError.TheVariants as rename_error
use Rattle.renamer.specs.declared.refusal.Refusal.{Refusal}
use Rattle.renamer.specs.declared.refusal.Refusal.TheVariants.{NoSymbol, BadName, Fixed, Differs}
use Rattle.renamer.specs.declared.refusal.RequestError.{RequestError}
use Rattle.renamer.specs.declared.refusal.RequestError.TheVariants.{Refused, Stopped}

abbrev pub refusal_shown : model.Refusal → Refusal
refusal_shown bad_name = BadName
refusal_shown (fixed node) = Fixed node
refusal_shown (differs node) = Differs node

abbrev pub renaming_of : Result Tree model.Refusal → Result Tree Refusal
renaming_of (Ok q) = Ok q
renaming_of (Err refusal) = Err (refusal_shown refusal)

-- the program in which the symbol that is asked for has the name, or the refusal
abbrev pub answer_to : RenameRequest → Tree → Result Tree Refusal
answer_to asked p = if nat_lt asked.symbol (length (tables_of p).symbols) then renaming_of (rename p asked.symbol asked.name) else Err (NoSymbol asked.symbol)

-- ---- as relations

-- the program has the symbol that is asked for
abbrev pub HasSymbol : RenameRequest → Tree → Type 0
HasSymbol asked p = asked.symbol < length (tables_of p).symbols

-- the symbol has the name, no node that has it fixes the old one, and each node means the same
pub record IsRenamed (asked : RenameRequest) (p q : Tree) : Type 0 where
  pub there : HasSymbol asked p
  pub renaming : IsRenaming p asked.symbol asked.name q

-- why a request is refused: there is no such symbol, or it can't have the name
abbrev pub IsRefusedAs : RenameRequest → Tree → Refusal → Type 0
IsRefusedAs asked p (NoSymbol symbol) = (symbol ≡ asked.symbol) × (length (tables_of p).symbols ≤ symbol)
IsRefusedAs asked p BadName = HasSymbol asked p × IsRefusedFor p asked.symbol asked.name rename_error.BadName
IsRefusedAs asked p (Fixed node) = HasSymbol asked p × IsRefusedFor p asked.symbol asked.name (rename_error.Fixed node)
IsRefusedAs asked p (Differs node) = HasSymbol asked p × IsRefusedFor p asked.symbol asked.name (rename_error.Differs node)

-- ---- as texts

-- the written form of a program
abbrev pub program_text : Tree → List ℕ
program_text q = compact_text (program_data in_rows q)

-- the line on a refusal
abbrev pub refusal_line : Refusal → List ℕ
refusal_line (NoSymbol symbol) = numbered_line (codes "rename: no symbol ") symbol
refusal_line BadName = codes "rename: bad name\n"
refusal_line (Fixed node) = numbered_line (codes "rename: name fixed at node ") node
refusal_line (Differs node) = numbered_line (codes "rename: differs at node ") node

-- ---- as results

-- why a request isn't done whose symbol doesn't get the name
abbrev pub error_of : RenameError → RequestError
error_of rename_error.BadName = Refused BadName
error_of (rename_error.Fixed node) = Refused (Fixed node)
error_of (rename_error.Differs node) = Refused (Differs node)
error_of (rename_error.Memory wanting) = Stopped error.Memory

-- the program or the refusal that is due, or want of memory
abbrev pub IsAnswer : RenameRequest → Tree → Result Tree RequestError → Type 0
IsAnswer asked p (Ok q) = answer_to asked p ≡ Ok q
IsAnswer asked p (Err (Refused refusal)) = answer_to asked p ≡ Err refusal
IsAnswer asked p (Err (Stopped cause)) = cause ≡ error.Memory
