use Rattle.semantic_tree.specs.Renamed.{swap, swapped_tree}
use Rattle.check_model.specs.DiagnosticsOf.{diagnostics_of}
use Rattle.swapped_checks.proofs.Told.{none_told}
use Rattle.swapped_checks.proofs.SwappedTold.{swapped_told, written_told}
use Rattle.swapped_checks.proofs.laws.swapped_names_leave_diagnostics.Goals as goal

pub returns-clause-told : goal.returns-clause-told
returns-clause-told c = λ a b p checks faultless h i strings. swapped_told a b h i checks p faultless strings

pub returns-clause-none : goal.returns-clause-none
returns-clause-none c = λ a b p checks faultless h i strings none. none_told (swap a b) (diagnostics_of checks p) (diagnostics_of checks (swapped_tree a b p)) none (swapped_told a b h i checks p faultless strings)

pub returns-clause-written : goal.returns-clause-written
returns-clause-written c = λ a b test p checks faultless h i strings keeps. written_told a b test h i checks p faultless strings keeps
