-- What the rows of early errors may look at when the walk leaves a node.
use Rattle.std.specs.Prelude.{ℕ, List, [], Bool, Option, Some, None, nat_eq, slice_get}
use Rattle.std.specs.Map.{lookup}
use Rattle.std.specs.Option.{option_and_then, unwrap_or}
use Rattle.semantic_syntax.specs.declared.source_type.SourceType.{SourceType}
use Rattle.semantic_syntax.specs.declared.references.Redeclaration.{Redeclaration}
use Rattle.semantic_syntax.specs.Tables.{Symbol}
use Rattle.semantic_tree.specs.declared.node.Node.{Node}
use Rattle.semantic_model.specs.Element.{Element}
use Rattle.semantic_model.specs.Class.{PrivateUse}

-- a scope: the node that opens it, and what the rows ask of its flags
pub record SeenScope : Type 0 where
  pub opener : ℕ
  pub is_strict : Bool
  pub is_top : Bool
  pub is_function : Bool
  pub is_arrow : Bool
  pub is_static_block : Bool

-- a class: its node and its elements
pub record SeenClass : Type 0 where
  pub node : ℕ
  pub elements : List Element

-- a node that is left, and all that its rows may look at
pub record Sight : Type 0 where
  pub node : Node
  -- the nodes around it, parent first
  pub path : List Node
  -- the bytes of the source
  pub source : List ℕ
  pub source_type : SourceType
  -- whether its code is ambient, by its own mark too
  pub is_ambient : Bool
  -- the scope where it stands and those around that, inner first
  pub scopes : List SeenScope
  -- the symbols so far
  pub symbols : List Symbol
  -- binding identifiers and enum members so far, each with its symbol
  pub declared : List (ℕ × ℕ)
  -- the current class and those around it, inner first: on leaving a class that class itself, else the innermost whose body holds the node
  pub classes : List SeenClass
  -- on leaving a class: the uses of private names in it
  pub uses : List PrivateUse
  -- on leaving the program: the elements of each class,
  pub elements : List (List Element)
  -- the symbols that the root scope binds,
  pub bound : List ℕ
  -- and the identifier references that are tied to no symbol
  pub unresolved : List ℕ

-- the entries of a symbol that was declared more than once
abbrev pub entries_in : Option Symbol → List Redeclaration
entries_in None = []
entries_in (Some symbol) = unwrap_or symbol.redeclarations []

-- the entries of the symbol of a binding identifier
abbrev pub symbol_entries : Sight → Node → List Redeclaration
symbol_entries s ident = entries_in (option_and_then (slice_get s.symbols) (lookup (nat_eq ident.node_id) s.declared))
