-- What each name means among the elements of a class.
use Rattle.std.specs.Prelude.{ℕ, ◌+◌, ◌-◌, ◌^◌, ◌<◌, List, [], ◌∷◌, Bool, Option, Some, None, ◌&&◌, not, cond}
use Rattle.std.specs.Borrow.{Bor}
use Rattle.std.specs.List.{AllByRecursion}
use Rattle.std.specs.Map.{lookup}
use Rattle.std.specs.Str.{chars, bytes_eq, IsUtf8}
use Rattle.indexmap.specs.IndexMap.{insert_entry}
use Rattle.semantic_syntax.specs.Tables.{Name}
use Rattle.semantic_model.specs.Element.{Element, stands_alone}
use Rattle.class_table.specs.declared.meant_names.Meaning.{Meaning}
use Rattle.class_table.specs.declared.meant_names.Meaning.TheVariants.{Alone, Half, Both}

-- a name, private or public
abbrev pub ElementKey : Type 0
ElementKey = Name × Bool

-- a name, and what it means
abbrev pub NameMeaning : Type 0
NameMeaning = ElementKey × Meaning

-- what is seen of an entry of the map
abbrev pub entry_seen : (Bor (List ℕ) × Bool) × Meaning → NameMeaning
entry_seen e = ((chars e.0.0.now, e.0.1), e.1)

abbrev pub key_eq : ElementKey → ElementKey → Bool
key_eq k l = bytes_eq k.0 l.0 && cond l.1 k.1 (not k.1)

abbrev pub key_of : Element → ElementKey
key_of e = (e.name, e.is_private)

-- what a name means with one more element of the number, after what it meant
abbrev pub and_more : Meaning → ℕ → Meaning
and_more (Alone m) n = Alone m
and_more (Half m) n = Both m n
and_more (Both m k) n = Both m k

-- what a name means with one more element of the number
abbrev pub with_more : Option Meaning → ℕ → Bool → Meaning
with_more None n alone = cond alone (Alone n) (Half n)
with_more (Some meaning) n alone = and_more meaning n

-- the elements that are meant
abbrev pub ids_in : Meaning → List ℕ
ids_in (Alone m) = m ∷ []
ids_in (Half m) = m ∷ []
ids_in (Both m n) = m ∷ n ∷ []

abbrev pub ids_meant : Option Meaning → List ℕ
ids_meant None = []
ids_meant (Some meaning) = ids_in meaning

-- there is an id for each of the numbers
abbrev pub AreIds : List ℕ → Type 0
AreIds ids = AllByRecursion (λ i. i < 2 ^ 32 - 1) ids

-- the name of an entry is a text, and it means elements
pub record IsMeant (e : (Bor (List ℕ) × Bool) × Meaning) : Type 0 where
  pub text : IsUtf8 e.0.0.now
  pub ids : AreIds (ids_in e.1)

-- with one more element, of the number
abbrev pub with_meaning : List NameMeaning → ℕ → Element → List NameMeaning
with_meaning meant n e = insert_entry key_eq meant (key_of e) (with_more (lookup (key_eq (key_of e)) meant) n (stands_alone e))

-- with these elements more, numbered from n on
abbrev pub put_all : ℕ → List Element → List NameMeaning → List NameMeaning
put_all n [] meant = meant
put_all n (e ∷ es) meant = put_all (n + 1) es (with_meaning meant n e)

-- what each name means among the elements
abbrev pub meanings_of : List Element → List NameMeaning
meanings_of es = put_all 0 es []
