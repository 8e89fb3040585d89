-- What a view of a name shows.
use Rattle.std.specs.Prelude.{ℕ, List}
use Rattle.std.specs.Str.{chars}
use Rattle.semantic_tree.specs.declared.key_names.StaticPropertyName.{StaticPropertyName}

-- the characters of the name
abbrev pub name_shown : StaticPropertyName → List ℕ
name_shown name = chars name.text.now
