-- The line of each tool on words that are refused.
use Rattle.std.specs.Prelude.{ℕ, List}
use Rattle.report.specs.Telling as report_telling
use Rattle.renamer.specs.Telling as rename_telling
use Rattle.mangler_program.specs.Meaning as mangle_meaning
use Rattle.name_lint.specs.Telling as lint_telling
use Rattle.tangle_lint.specs.Telling as tangle_telling
use Rattle.file_check.specs.Telling as check_telling
use Rattle.module_linker.specs.Lines as link_lines
use Rattle.tools.specs.declared.tool.Tool.{Tool}
use Rattle.tools.specs.declared.tool.Tool.TheVariants.{Report, Renamer, Mangler, NameLint, TangledNames, FileCheck, ModuleLinker}

abbrev pub usage_of : Tool → List ℕ
usage_of Report = report_telling.usage_line
usage_of Renamer = rename_telling.usage_line
usage_of Mangler = mangle_meaning.usage_line
usage_of NameLint = lint_telling.usage_line
usage_of TangledNames = tangle_telling.usage_line
usage_of FileCheck = check_telling.usage_line
usage_of ModuleLinker = link_lines.usage_line
