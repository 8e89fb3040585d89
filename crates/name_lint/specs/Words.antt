-- The words of the command line: names that are known.
use Rattle.std.specs.Prelude.{◌<◌, List, length, All, String, string_bytes}
use Rattle.std.specs.declared.alloc.Global.{Global}

-- no word is empty
abbrev pub AreNames : List (String Global) → Type 0
AreNames words = All (λ word. 0 < length (string_bytes word)) words
