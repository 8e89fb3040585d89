-- The exit status of each end.
use Rattle.std.specs.Prelude.{ℕ}
use Rattle.program_ends.specs.Meaning.{End, done, found, usage, input, too_long, read, write, memory, refused}

abbrev pub code_of : End → ℕ
code_of done = 0
code_of found = 1
code_of usage = 2
code_of input = 3
code_of too_long = 4
code_of read = 5
code_of write = 6
code_of memory = 7
code_of refused = 8
