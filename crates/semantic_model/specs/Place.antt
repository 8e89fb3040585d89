-- A node where it stands in a program.
use Rattle.std.specs.Prelude.{ℕ, List, [], ◌∷◌, Bool, false, Option, None}
use Rattle.semantic_syntax.specs.declared.source_type.SourceType.{SourceType}
use Rattle.semantic_syntax.specs.declared.scope_flags.TheConstants.ScopeFlags as scope
use Rattle.semantic_syntax.specs.Sets.{meets}
use Rattle.semantic_kinds.specs.declared.role.Role.{Role}
use Rattle.semantic_tree.specs.declared.node.Node.{Node}

-- a scope that is open at a place
pub record OpenScope : Type 0 where
  pub number : ℕ
  -- the id of the node that opens it
  pub opener : ℕ
  -- its flags, without `DirectEval`
  pub flags : ℕ
  -- of a catch clause: the number of its body's scope
  pub body : Option ℕ
  -- whether the place stands in the header of the scope's function, arrow or catch clause
  pub in_header : Bool

pub record Place : Type 0 where
  pub source_type : SourceType
  pub role : Role
  pub node : Node
  -- the scopes in which the node stands, innermost first
  pub chain : List OpenScope
  -- the nodes above it, parent first
  pub path : List Node
  -- the flags that the next reference will get, on coming to the node
  pub cursor : ℕ
  -- whether the code around the node is only declared, not run
  pub is_ambient : Bool

-- a scope that stands nowhere
abbrev pub no_scope : OpenScope
no_scope = record { number = 0; opener = 0; flags = 0; body = None; in_header = false }

-- the innermost scope
abbrev pub innermost : List OpenScope → OpenScope
innermost [] = no_scope
innermost (s ∷ ss) = s

-- the scopes around the innermost one
abbrev pub outside : List OpenScope → List OpenScope
outside [] = []
outside (s ∷ ss) = ss

-- the scope where the place stands
abbrev pub scope_of_place : Place → ℕ
scope_of_place p = (innermost p.chain).number

-- whether the code of the innermost scope is strict
abbrev pub is_strict : List OpenScope → Bool
is_strict chain = meets (innermost chain).flags scope.StrictMode.bits

-- whether the test holds of the parent
abbrev pub parent_holds : (Node → Bool) → List Node → Bool
parent_holds test [] = false
parent_holds test (x ∷ xs) = test x
