-- What becomes of a buffer that gets a text.
use Rattle.std.specs.Prelude.{ℕ, List, ◌++◌, length, take, drop}

-- a buffer that has taken as much of a text as fits, and is as it was behind that
abbrev pub buffer_filled : List ℕ → List ℕ → List ℕ
buffer_filled buffer text = take (length buffer) text ++ drop (length text) buffer
