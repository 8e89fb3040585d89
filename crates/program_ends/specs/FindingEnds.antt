-- The end that each status of a program that looks for findings stands for.
use Rattle.program_ends.specs.Meaning.{End}
use Rattle.program_ends.specs.Meaning as ends
use Rattle.program_ends.specs.declared.finding.FindingStatus.{FindingStatus}
use Rattle.program_ends.specs.declared.finding.FindingStatus.TheVariants.{Done, Found, Usage, Tree, TooLong, Read, Write, Memory}

abbrev pub end_of : FindingStatus → End
end_of Done = ends.done
end_of Found = ends.found
end_of Usage = ends.usage
end_of Tree = ends.input
end_of TooLong = ends.too_long
end_of Read = ends.read
end_of Write = ends.write
end_of Memory = ends.memory
