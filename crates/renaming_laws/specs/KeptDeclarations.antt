-- The symbols of a program in which one has another name.
use Rattle.std.specs.Prelude.{◌≡◌, ℕ, ◌==◌, [], Some, cond, map, slice_get}
use Rattle.semantic_syntax.specs.Tables.{Name, Symbol}
use Rattle.semantic_tree.specs.Tree.{Tree}
use Rattle.semantic_model.specs.TablesOf.{tables_of}

-- what is declared: the symbol without its name, and without the scope that binds it
abbrev pub declared_as : Symbol → Symbol
declared_as y = record y { name = []; scope = 0 }

-- as many symbols, each declared as it was, of which one has the new name
pub record KeepsDeclarations (p q : Tree) (s : ℕ) (new : Name) : Type 0 where
  pub symbols : map declared_as (tables_of q).symbols ≡ map declared_as (tables_of p).symbols
  pub names : (r : ℕ) (y z : Symbol) → slice_get (tables_of p).symbols r ≡ Some y → slice_get (tables_of q).symbols r ≡ Some z → z.name ≡ cond (r == s) new y.name
