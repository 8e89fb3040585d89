-- Which names are noted at which homes, and which more than once.
use Rattle.std.specs.Prelude.{ℕ, ◌==◌, List, [], ◌∷◌, Bool, false, ◌&&◌, cond, map, filter, bytes_eq}
use Rattle.std.specs.List.{list_any}
use denote.Enum.Bare.{sameb}
use Rattle.semantic_syntax.specs.Tables.{Name}
use Rattle.tangle_model.specs.Mention.{Mention}
use Rattle.tangle_model.specs.contracts.what.What.{the_type as the_whats}
use Rattle.tangle_model.specs.declared.what.What.{What}
use Rattle.tangle_model.specs.declared.what.What.TheVariants as what

abbrev pub same_what : What → What → Bool
same_what = sameb the_whats

-- a name at a home
pub record Key : Type 0 where
  pub name : Name
  pub home : ℕ

abbrev pub same_key : Key → Key → Bool
same_key k l = bytes_eq k.name l.name && k.home == l.home

abbrev pub is_mention_of : What → Mention → Bool
is_mention_of w m = same_what m.what w

-- blocks of one name are alike wherever they stand
abbrev pub key_of : Mention → Key
key_of m = record { name = m.name; home = cond (is_mention_of what.Block m) 0 m.home }

-- the keys of what is noted as that
abbrev pub keys_of : What → List Mention → List Key
keys_of w ms = map key_of (filter (is_mention_of w) ms)

abbrev pub key_stands : Key → List Key → Bool
key_stands k ls = list_any (same_key k) ls

-- it stands there more than once
abbrev pub repeats : Key → List Key → Bool
repeats k [] = false
repeats k (l ∷ ls) = cond (same_key k l) (key_stands k ls) (repeats k ls)
