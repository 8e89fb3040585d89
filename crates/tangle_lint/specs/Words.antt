-- The words of the command line: there are none.
use Rattle.std.specs.Prelude.{◌≡◌, List, length, String}
use Rattle.std.specs.declared.alloc.Global.{Global}

abbrev pub AreNone : List (String Global) → Type 0
AreNone words = length words ≡ 0
