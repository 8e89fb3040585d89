-- The names that are known.
use Rattle.std.specs.Prelude.{List, map, String, string_bytes}
use Rattle.std.specs.Str.{chars}
use Rattle.std.specs.declared.alloc.Global.{Global}
use Rattle.semantic_syntax.specs.Tables.{Name}

-- the names that the words are
abbrev pub known_names : List (String Global) → List Name
known_names words = map (λ word. chars (string_bytes word)) words
