-- Conflicts in a program in which a symbol has another name.
use Rattle.std.specs.Prelude.{◌≡◌, ℕ, ◌==◌, List, [], ◌∷◌, cond}
use Rattle.semantic_syntax.specs.Tables.{Name}
use Rattle.semantic_tree.specs.Tree.{Tree}
use Rattle.semantic_model.specs.Entries.{Among}
use Rattle.semantic_model.specs.Fold.{Conflict, Made}
use Rattle.semantic_model.specs.TablesOf.{made_of}

-- a conflict of a declaration of the program, told by its name at its place, and the same one with the new name, if that is for
-- the declaration's symbol
pub record IsRenamedConflict (p : Tree) (s : ℕ) (new : Name) (c e : Conflict) : Type 0 where
  pub made : Made
  pub among : Among made (made_of p)
  pub named : c.name ≡ made.declaration.naming.name
  pub placed : c.later ≡ made.declaration.naming.span
  pub is : e ≡ record c { name = cond (made.symbol == s) new c.name }

-- so many conflicts, in this order
abbrev pub AreRenamedConflicts : (p : Tree) (s : ℕ) (new : Name) → List Conflict → List Conflict → Type 0
AreRenamedConflicts p s new [] [] = Unit {0}
AreRenamedConflicts p s new (c ∷ cs) (e ∷ es) = IsRenamedConflict p s new c e × AreRenamedConflicts p s new cs es
AreRenamedConflicts p s new _ _ = ⊥

-- a conflict told with another name
abbrev pub with_other_name : (Name → Name) → Conflict → Conflict
with_other_name f c = record c { name = f c.name }
