-- What the words of the command line ask for.
use Rattle.std.specs.Prelude.{List, [], ◌∷◌, Option, Some, None, true, false, cond, codes, bytes_eq, String, string_bytes}
use Rattle.std.specs.declared.alloc.Global.{Global}
use Rattle.mangle_model.specs.MayMangle.{Options}

-- nothing, or that the variables of a script may change too
abbrev pub asked_by : List (String Global) → Option Options
asked_by [] = Some (record { toplevel = false })
asked_by (word ∷ []) = cond (bytes_eq (string_bytes word) (codes "--toplevel")) (Some (record { toplevel = true })) None
asked_by _ = None
