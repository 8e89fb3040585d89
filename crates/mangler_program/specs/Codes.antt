-- The end that each status stands for.
use Rattle.program_ends.specs.Meaning.{End}
use Rattle.program_ends.specs.Meaning as ends
use Rattle.mangler_program.specs.declared.status.MangleStatus.{MangleStatus}
use Rattle.mangler_program.specs.declared.status.MangleStatus.TheVariants.{Done, Usage, Tree, TooLong, Read, Write, Memory}

abbrev pub end_of : MangleStatus → End
end_of Done = ends.done
end_of Usage = ends.usage
end_of Tree = ends.input
end_of TooLong = ends.too_long
end_of Read = ends.read
end_of Write = ends.write
end_of Memory = ends.memory
