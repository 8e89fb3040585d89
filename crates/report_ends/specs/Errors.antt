-- What a fault below a report is in the end.
use Rattle.report_ends.specs.declared.ends.WriteFault.{WriteFault}
use Rattle.report_ends.specs.declared.ends.WriteFault.TheVariants as fault
use Rattle.report_ends.specs.declared.error.ReportError.{ReportError}
use Rattle.report_ends.specs.declared.error.ReportError.TheVariants.{Write, Memory, Tree}
use Rattle.semantic_tree.specs.declared.error.TreeError.{TreeError}
use Rattle.semantic_tree.specs.declared.error.TreeError.TheVariants as tree

-- what a sink's fault is in the end
abbrev pub error_of_write : WriteFault → ReportError
error_of_write fault.Failed = Write
error_of_write fault.Memory = Memory

-- want of memory in the reader is want of memory
abbrev pub error_of_tree : TreeError → ReportError
error_of_tree (tree.Memory wanting) = Memory
error_of_tree refusal = Tree refusal
