-- What the run of each tool is.
use Rattle.std.specs.Prelude.{List, String}
use Rattle.std.specs.declared.alloc.Global.{Global}
use Rattle.program_ends.specs.Calls.{SourceCall, SinkCall}
use Rattle.program_ends.specs.Faults.{FaultsEnd}
use Rattle.program_ends.specs.Findings.{FindingMeans}
use Rattle.report.specs.Meaning as report_meaning
use Rattle.renamer.specs.Meaning as rename_meaning
use Rattle.mangler_program.specs.Meaning as mangle_meaning
use Rattle.name_lint.specs.Meaning as lint_meaning
use Rattle.name_lint.specs.Telling as lint_telling
use Rattle.name_lint.specs.Words.{AreNames}
use Rattle.tangle_lint.specs.Meaning as tangle_meaning
use Rattle.tangle_lint.specs.Telling as tangle_telling
use Rattle.tangle_lint.specs.Words.{AreNone}
use Rattle.file_check.specs.Meaning as check_meaning
use Rattle.file_check.specs.Telling as check_telling
use Rattle.module_linker.specs.Meaning as link_meaning
use Rattle.tools.specs.Ends.{end_of}
use Rattle.tools.specs.declared.status.ToolStatus.{ToolStatus}
use Rattle.tools.specs.declared.status.ToolStatus.TheVariants as ran
use Rattle.tools.specs.declared.tool.Tool.{Tool}
use Rattle.tools.specs.declared.tool.Tool.TheVariants.{Report, Renamer, Mangler, NameLint, TangledNames, FileCheck, ModuleLinker}

-- what the tool has done at a status of its own
abbrev pub Means : Tool → SourceCall → SinkCall → SinkCall → List (String Global) → ToolStatus → Type 0
Means Report source out errs words (ran.Finding status) = report_meaning.Means source out errs words status
Means Renamer source out errs words (ran.Rename status) = rename_meaning.Means source out errs words status
Means Mangler source out errs words (ran.Mangle status) = mangle_meaning.Means source out errs words status
Means NameLint source out errs words (ran.Finding status) = FindingMeans (AreNames words) lint_telling.usage_line (lint_meaning.Answers words) source out errs status
Means TangledNames source out errs words (ran.Finding status) = FindingMeans (AreNone words) tangle_telling.usage_line tangle_meaning.Answers source out errs status
Means FileCheck source out errs words (ran.Finding status) = FindingMeans (AreNames words) check_telling.usage_line (check_meaning.Answers words) source out errs status
Means ModuleLinker source out errs words (ran.Finding status) = link_meaning.Means source out errs words status
Means tool source out errs words status = ⊥

-- the tool ran with these words, did to its ends what its status means, and told where one failed
abbrev pub IsRunOf : Tool → SourceCall → SinkCall → SinkCall → List (String Global) → ToolStatus → Type 0
IsRunOf tool source out errs words status = Means tool source out errs words status × FaultsEnd source out (end_of status)

-- some run of the tool comes to this status
abbrev pub IsGivenBy : Tool → ToolStatus → Type 0
IsGivenBy tool status = (source : SourceCall) × (out : SinkCall) × (errs : SinkCall) × (words : List (String Global)) × IsRunOf tool source out errs words status
