-- The end that each status stands for.
use Rattle.program_ends.specs.Meaning.{End}
use Rattle.program_ends.specs.Meaning as ends
use Rattle.renamer.specs.declared.status.RenameStatus.{RenameStatus}
use Rattle.renamer.specs.declared.status.RenameStatus.TheVariants.{Done, Usage, Tree, TooLong, Read, Write, Memory, Refused}

abbrev pub end_of : RenameStatus → End
end_of Done = ends.done
end_of Usage = ends.usage
end_of Tree = ends.input
end_of TooLong = ends.too_long
end_of Read = ends.read
end_of Write = ends.write
end_of Memory = ends.memory
end_of Refused = ends.refused
