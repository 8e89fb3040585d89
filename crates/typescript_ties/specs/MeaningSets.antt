-- Values, types and namespaces: what a declaration is, and what a reference asks for.
use Rattle.std.specs.Prelude.{Bool, true, false, ◌&&◌, ◌||◌}
use Rattle.typescript_ties.specs.declared.declaration_sort.DeclarationSort.{DeclarationSort}
use Rattle.typescript_ties.specs.declared.declaration_sort.DeclarationSort.TheVariants as sort

pub record MeaningSet : Type 0 where
  pub value : Bool
  pub is_type : Bool
  pub namespace : Bool

abbrev pub a_value : MeaningSet
a_value = record { value = true; is_type = false; namespace = false }

abbrev pub a_type : MeaningSet
a_type = record { value = false; is_type = true; namespace = false }

abbrev pub a_namespace : MeaningSet
a_namespace = record { value = false; is_type = false; namespace = true }

abbrev pub value_and_type : MeaningSet
value_and_type = record { value = true; is_type = true; namespace = false }

abbrev pub any_meaning : MeaningSet
any_meaning = record { value = true; is_type = true; namespace = true }

-- one of the meanings of one is of the other
abbrev pub shares_meaning : MeaningSet → MeaningSet → Bool
shares_meaning a b = (a.value && b.value) || ((a.is_type && b.is_type) || (a.namespace && b.namespace))

-- what is declared so; an import may stand for anything
abbrev pub sort_meanings : DeclarationSort → MeaningSet
sort_meanings sort.Var = a_value
sort_meanings sort.Lexical = a_value
sort_meanings sort.Function = a_value
sort_meanings sort.BlockFunction = a_value
sort_meanings sort.Parameter = a_value
sort_meanings sort.IndexParameter = a_value
sort_meanings sort.CatchName = a_value
sort_meanings sort.Class = value_and_type
sort_meanings sort.FunctionName = a_value
sort_meanings sort.ClassName = value_and_type
sort_meanings sort.Import = any_meaning
sort_meanings sort.TypeImport = any_meaning
sort_meanings sort.TypeAlias = a_type
sort_meanings sort.Interface = a_type
sort_meanings sort.Enum = any_meaning
sort_meanings sort.EnumMember = value_and_type
sort_meanings sort.TypeParameter = a_type
sort_meanings sort.MappedKey = a_type
sort_meanings sort.Inferred = a_type
sort_meanings sort.TypeNamespace = a_namespace
sort_meanings sort.ValueNamespace = record { value = true; is_type = false; namespace = true }
