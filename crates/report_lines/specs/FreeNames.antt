-- The names of free references, each in its reference's place.
use Rattle.std.specs.Prelude.{ℕ, List, [], ◌∷◌, Option, Some, None, length, slice_index_or, slice_set, replicate}
use Rattle.std.specs.Option.{option_map}
use Rattle.semantic_syntax.specs.declared.texts.Ident.{Ident}
use Rattle.semantic_syntax.specs.Tables.{Name, FreeLists, Tables}
use Rattle.scoping_rows.specs.Names.{name_of}

-- the characters of a name
abbrev pub name_shown : Option Ident → Option Name
name_shown name = option_map name_of name

-- a name, or this one for none
abbrev pub or_name : Option Name → Name → Option Name
or_name None name = Some name
or_name (Some other) name = Some other

-- the names, with this one for the reference where it has none
abbrev pub named_once : List (Option Name) → ℕ → Name → List (Option Name)
named_once names reference name = slice_set names reference (or_name (slice_index_or names reference (Some [])) name)

-- the names, with this one for those of the references that have none
abbrev pub named_each : List (Option Name) → List ℕ → Name → List (Option Name)
named_each names [] name = names
named_each names (reference ∷ references) name = named_each (named_once names reference name) references name

-- the names, with those of the free lists
abbrev pub names_with_free : List (Option Name) → FreeLists → List (Option Name)
names_with_free names [] = names
names_with_free names (list ∷ lists) = names_with_free (named_each names list.1 list.0) lists

-- what each of the references is called by the free lists
abbrev pub free_names : Tables → List (Option Name)
free_names t = names_with_free (replicate (length t.references) None) t.free
