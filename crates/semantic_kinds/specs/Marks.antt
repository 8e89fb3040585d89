-- The marks of nodes and their names.
use Rattle.std.specs.Prelude.{ℕ, List, [], ◌∷◌, Bool, Option, codes, find, filter, length, ◌==◌}
use Rattle.std.specs.Str.{bytes_eq}
use denote.Enum.Bare.{sameb}
use Rattle.semantic_kinds.specs.declared.mark.Mark.{Mark}
use Rattle.semantic_kinds.specs.declared.mark.Mark.TheVariants as mark
use Rattle.semantic_kinds.specs.contracts.mark.Mark.{the_type as the_marks}

-- the two are one
abbrev pub same_mark : Mark → Mark → Bool
same_mark = sameb the_marks

-- in the order of the enum
abbrev pub all_marks : List Mark
all_marks = mark.Async ∷ mark.Generator ∷ mark.Declare ∷ mark.Pure ∷ mark.Static ∷ mark.Computed ∷ mark.Abstract ∷ mark.Optional ∷ mark.Definite ∷ mark.Readonly ∷ mark.Override ∷ mark.Public ∷ mark.Private ∷ mark.Protected ∷ mark.Method ∷ mark.Shorthand ∷ mark.Prefix ∷ mark.Delegate ∷ mark.Await ∷ mark.TypeOnly ∷ mark.Const ∷ mark.In ∷ mark.Out ∷ mark.Asserts ∷ mark.Postfix ∷ mark.Binary ∷ mark.Octal ∷ mark.Decimal ∷ mark.Hex ∷ mark.Float ∷ []

abbrev pub mark_name : Mark → List ℕ
mark_name mark.Async = codes "async"
mark_name mark.Generator = codes "generator"
mark_name mark.Declare = codes "declare"
mark_name mark.Pure = codes "pure"
mark_name mark.Static = codes "static"
mark_name mark.Computed = codes "computed"
mark_name mark.Abstract = codes "abstract"
mark_name mark.Optional = codes "optional"
mark_name mark.Definite = codes "definite"
mark_name mark.Readonly = codes "readonly"
mark_name mark.Override = codes "override"
mark_name mark.Public = codes "public"
mark_name mark.Private = codes "private"
mark_name mark.Protected = codes "protected"
mark_name mark.Method = codes "method"
mark_name mark.Shorthand = codes "shorthand"
mark_name mark.Prefix = codes "prefix"
mark_name mark.Delegate = codes "delegate"
mark_name mark.Await = codes "await"
mark_name mark.TypeOnly = codes "type"
mark_name mark.Const = codes "const"
mark_name mark.In = codes "in"
mark_name mark.Out = codes "out"
mark_name mark.Asserts = codes "asserts"
mark_name mark.Postfix = codes "postfix"
mark_name mark.Binary = codes "binary"
mark_name mark.Octal = codes "octal"
mark_name mark.Decimal = codes "decimal"
mark_name mark.Hex = codes "hex"
mark_name mark.Float = codes "float"

-- the marks whose names have so many bytes, in order
unfoldable pub marks_of_length : ℕ → List Mark
marks_of_length n = filter (λ one. length (mark_name one) == n) all_marks

-- the mark of that name
unfoldable pub mark_named : List ℕ → Option Mark
mark_named text = find (λ one. bytes_eq (mark_name one) text) all_marks

-- the place of each mark in a set of marks, as a number with one bit
abbrev pub mark_bit : Mark → ℕ
mark_bit mark.Async = 0x1
mark_bit mark.Generator = 0x2
mark_bit mark.Declare = 0x4
mark_bit mark.Pure = 0x8
mark_bit mark.Static = 0x10
mark_bit mark.Computed = 0x20
mark_bit mark.Abstract = 0x40
mark_bit mark.Optional = 0x80
mark_bit mark.Definite = 0x100
mark_bit mark.Readonly = 0x200
mark_bit mark.Override = 0x400
mark_bit mark.Public = 0x800
mark_bit mark.Private = 0x1000
mark_bit mark.Protected = 0x2000
mark_bit mark.Method = 0x4000
mark_bit mark.Shorthand = 0x8000
mark_bit mark.Prefix = 0x10000
mark_bit mark.Delegate = 0x20000
mark_bit mark.Await = 0x40000
mark_bit mark.TypeOnly = 0x80000
mark_bit mark.Const = 0x100000
mark_bit mark.In = 0x200000
mark_bit mark.Out = 0x400000
mark_bit mark.Asserts = 0x800000
mark_bit mark.Postfix = 0x1000000
mark_bit mark.Binary = 0x2000000
mark_bit mark.Octal = 0x4000000
mark_bit mark.Decimal = 0x8000000
mark_bit mark.Hex = 0x10000000
mark_bit mark.Float = 0x20000000
