-- Names and their numbers.
use Rattle.std.specs.Prelude.{◌≡◌, ℕ, ◌<◌, ◌==◌, List, [], ◌++◌, false, length, map, slice_index_or}
use Rattle.std.specs.Borrow.{Bor}
use Rattle.std.specs.Str.{bytes_eq, chars}
use Rattle.semantic_syntax.specs.Tables.{Name}
use Rattle.semantic_syntax.specs.declared.texts.Ident.{Ident}

-- the characters of the text
abbrev pub name_of : Ident → Name
name_of name = chars name.text.now

-- the name that has the number
abbrev pub name_at : List Name → ℕ → Name
name_at names n = slice_index_or names n []

-- the name has no number
pub record IsUnknown (names : List Name) (name : Name) : Type 0 where
  pub none : (m : ℕ) → m < length names → bytes_eq name (name_at names m) ≡ false

-- the name has the number, and no other
pub record IsNumberOf (names : List Name) (name : Name) (n : ℕ) : Type 0 where
  pub within : n < length names
  pub named : name_at names n ≡ name
  pub only : (m : ℕ) → m < length names → bytes_eq name (name_at names m) ≡ (n == m)

-- the name has the number in `new`, which is `old` with at most that name more
pub record IsInterned (old new : List Name) (name : Name) (n : ℕ) : Type 0 where
  pub added : List Name
  pub grown : new ≡ old ++ added
  pub number : IsNumberOf new name n

-- values under names' numbers, with the names in place of their numbers
abbrev pub named : {X : Type 0} → List Name → List (ℕ × X) → List (Name × X)
named names es = map (λ e. (name_at names e.0, e.1)) es

-- what an item of an iterator over bindings shows
abbrev pub pair_of : Ident × ℕ → Name × ℕ
pair_of p = (name_of p.0, p.1)

-- what an item of an iterator over free lists shows
abbrev pub list_of : Ident × Bor (List ℕ) → Name × List ℕ
list_of p = (name_of p.0, p.1.now)
