-- The declarations of a symbol that was declared again.
use Rattle.std.specs.Prelude.{List, Option, None, ◌-◌, if◌then◌else◌, length, nat_lt, slice_get, take}
use Rattle.semantic_syntax.specs.declared.references.Redeclaration.{Redeclaration}

-- the declarations before the last one
abbrev pub before_last : List Redeclaration → List Redeclaration
before_last entries = take (length entries - 1) entries

-- the last declaration but one
abbrev pub one_before_last : List Redeclaration → Option Redeclaration
one_before_last entries = if nat_lt 1 (length entries) then slice_get entries (length entries - 2) else None
