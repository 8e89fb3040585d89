-- The tables of scopes, symbols and references. Ids are numbers and names are lists of characters.
use Rattle.std.specs.Prelude.{ℕ, List, Option}
use Rattle.semantic_syntax.specs.declared.spans.Span.{Span}
use Rattle.semantic_syntax.specs.declared.scope_flags.ScopeFlags.{ScopeFlags}
use Rattle.semantic_syntax.specs.declared.symbol_flags.SymbolFlags.{SymbolFlags}
use Rattle.semantic_syntax.specs.declared.references.Reference.{Reference}
use Rattle.semantic_syntax.specs.declared.references.Redeclaration.{Redeclaration}

abbrev pub Name : Type 0
Name = List ℕ

-- a scope: the scope around it, the node that opens it, and its flags
pub record Scope : Type 0 where
  pub parent : Option ℕ
  pub node : ℕ
  pub flags : ScopeFlags

-- a symbol; it has a list of redeclarations once it is declared twice
pub record Symbol : Type 0 where
  pub name : Name
  pub span : Span
  pub flags : SymbolFlags
  pub scope : ℕ
  pub node : ℕ
  pub redeclarations : Option (List Redeclaration)

-- what a scope binds: names and their symbols, in order of binding
abbrev pub Bindings : Type 0
Bindings = List (Name × ℕ)

-- the free references of each name, names in order of their first entry
abbrev pub FreeLists : Type 0
FreeLists = List (Name × List ℕ)

pub record Tables : Type 0 where
  pub scopes : List Scope
  -- what each scope binds
  pub bindings : List Bindings
  pub symbols : List Symbol
  pub references : List Reference
  -- the references of each symbol
  pub uses : List (List ℕ)
  pub free : FreeLists
  -- the symbols without side effects, ascending
  pub pure_symbols : List ℕ
