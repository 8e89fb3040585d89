-- What is declared: a node, its name, and the flags of its symbol.
use Rattle.std.specs.Prelude.{ℕ, Bool}
use Rattle.semantic_syntax.specs.declared.spans.Span.{Span}
use Rattle.semantic_syntax.specs.Tables.{Name}

pub record Naming : Type 0 where
  -- the declaring node, and the node of the name
  pub node : ℕ
  pub identifier : ℕ
  pub name : Name
  pub span : Span
  pub flags : ℕ
  -- the flags of a symbol with which it conflicts
  pub excluded : ℕ
  -- whether a function without side effects is declared
  pub is_pure : Bool
