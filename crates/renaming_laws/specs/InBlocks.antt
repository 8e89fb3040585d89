-- Variables that stand in blocks.
use Rattle.std.specs.Prelude.{◌≡◌, ℕ, List, true}
use Rattle.semantic_syntax.specs.Members.{contains}
use Rattle.semantic_syntax.specs.Sets.{union}
use Rattle.semantic_tree.specs.Tree.{Tree}
use Rattle.semantic_model.specs.Declaration.{Declaration, hoisted, moved, path}
use Rattle.semantic_model.specs.Entries.{Among}
use Rattle.semantic_model.specs.Event.{written_declarations}
use Rattle.semantic_model.specs.Fold.{Made}
use Rattle.semantic_model.specs.Step.{steps}
use Rattle.semantic_model.specs.TablesOf.{numbers}

-- where a `var` passes a scope on the path of another declaration of its symbol, that one has the flags of the `var`: it is a
-- `var`, a parameter or the plain name of a catch clause, and no function, class or lexical declaration
abbrev pub ShareFlags : List Made → Type 0
ShareFlags ms = (m k : Made) (c : ℕ) → Among m ms → Among k ms → m.symbol ≡ k.symbol → m.declaration.how ≡ hoisted → contains (numbers m.declaration.route.passed) c ≡ true → contains (path k.declaration) c ≡ true → union k.declaration.naming.flags m.declaration.naming.flags ≡ k.declaration.naming.flags

-- no function is one that moves out of its block where nothing bars it
abbrev pub NoneMoves : Tree → Type 0
NoneMoves p = (d : Declaration) → Among d (written_declarations (steps p)) → d.how ≡ moved → ⊥
