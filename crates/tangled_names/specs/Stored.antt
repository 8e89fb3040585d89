-- What is seen of a set of names at homes.
use Rattle.std.specs.Prelude.{ℕ, List, [], ◌∷◌, ◌++◌, Bool, ◌&&◌, cond, map, filter}
use Rattle.std.specs.Borrow.{Bor}
use Rattle.std.specs.Str.{chars, IsUtf8}
use Rattle.semantic_syntax.specs.Tables.{Name}
use Rattle.tangle_model.specs.Mention.{Mention}
use Rattle.tangle_model.specs.Repeated.{Key, is_mention_of, key_of, key_stands}
use Rattle.tangle_model.specs.declared.what.What.TheVariants as what

-- a key as it is stored
abbrev pub Stored : Type 0
Stored = Bor (List ℕ) × ℕ

-- what is seen of it
abbrev pub key_seen : Stored → Key
key_seen k = record { name = chars k.0.now; home = k.1 }

-- its name is a text
abbrev pub IsSpelled : Stored → Type 0
IsSpelled k = IsUtf8 k.0.now

-- a key more: it is there, or goes last
abbrev pub with_key : List Key → Key → List Key
with_key ks k = cond (key_stands k ks) ks (ks ++ k ∷ [])

abbrev pub with_key_if : Bool → List Key → Key → List Key
with_key_if b ks k = cond b (with_key ks k) ks

-- a name, wherever it stands
abbrev pub name_key : Name → Key
name_key name = record { name = name; home = 0 }

abbrev pub has_name : List Key → Name → Bool
has_name ks name = key_stands (name_key name) ks

-- a node without a name
abbrev pub node_key : ℕ → Key
node_key n = record { name = []; home = n }

-- the nodes that open blocks whose names are among the keys
abbrev pub openers_by : List Key → List Mention → List ℕ
openers_by ks ms = map (λ m. m.home) (filter (λ m. is_mention_of what.Block m && key_stands (key_of m) ks) ms)
