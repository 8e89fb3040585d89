-- What contracts see of the children of a node: a forest, in which each tree stands with what is below it and what comes after it.
use Rattle.std.specs.Prelude.{ℕ, ◌+◌, List}
use Rattle.semantic_syntax.specs.declared.spans.Span.{Span}
use Rattle.semantic_kinds.specs.declared.kind.AstType.{AstType}
use Rattle.semantic_kinds.specs.declared.role.Role.{Role}
use Rattle.semantic_kinds.specs.declared.marks.Marks.{Marks}

pub data Forest : Type 0 where
  nothing : Forest
  tree : (role : Role) (kind : AstType) (span : Span) (text : List ℕ) (marks : Marks) (below : Forest) (id : ℕ) (after : Forest) → Forest

-- how many nodes a forest has
abbrev pub count : Forest → ℕ
count nothing = 0
count (tree role kind span text marks below id after) = count below + count after + 1

-- one forest after another
abbrev pub join : Forest → Forest → Forest
join nothing last = last
join (tree role kind span text marks below id after) last = tree role kind span text marks below id (join after last)

-- the same forest, whose ids are n, n + 1 and so on in preorder
abbrev pub numbered : ℕ → Forest → Forest
numbered n nothing = nothing
numbered n (tree role kind span text marks below id after) =
    tree role kind span text marks (numbered (n + 1) below) n (numbered (n + 1 + count below) after)
