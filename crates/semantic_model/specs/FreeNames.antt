-- The free references of each name.
use Rattle.std.specs.Prelude.{ℕ, List, [], ◌∷◌, ◌++◌, cond, bytes_eq}
use Rattle.semantic_syntax.specs.Tables.{Name, FreeLists}

-- the free lists with one more reference of the name: a name has one list, and a new name goes last
abbrev pub add_free : FreeLists → Name → ℕ → FreeLists
add_free [] x r = (x, r ∷ []) ∷ []
add_free (f ∷ fs) x r = cond (bytes_eq x f.0) ((f.0, f.1 ++ r ∷ []) ∷ fs) (f ∷ add_free fs x r)

-- the free references of a name
abbrev pub free_references : FreeLists → Name → List ℕ
free_references [] x = []
free_references (f ∷ fs) x = cond (bytes_eq f.0 x) f.1 (free_references fs x)
