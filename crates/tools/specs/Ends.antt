-- The end that each status of a tool stands for.
use Rattle.program_ends.specs.FindingEnds as finding
use Rattle.program_ends.specs.Meaning.{End}
use Rattle.renamer.specs.Codes as rename_codes
use Rattle.mangler_program.specs.Codes as mangle_codes
use Rattle.tools.specs.declared.status.ToolStatus.{ToolStatus}
use Rattle.tools.specs.declared.status.ToolStatus.TheVariants as ran

abbrev pub end_of : ToolStatus → End
end_of (ran.Rename status) = rename_codes.end_of status
end_of (ran.Mangle status) = mangle_codes.end_of status
end_of (ran.Finding status) = finding.end_of status
