-- What is read from the tables.
use Rattle.std.specs.Prelude.{◌≡◌, ℕ, ◌<◌, List, [], ◌∷◌, length, map, slice_index_or, true, Option, None, Some, IfSome}
use Rattle.std.specs.Option.{option_map_or, unwrap_or}
use Rattle.std.specs.Str.{bytes_eq}
use Rattle.std.specs.Map.{lookup}
use Rattle.semantic_syntax.specs.declared.references.Reference.{Reference}
use Rattle.semantic_syntax.specs.declared.references.Redeclaration.{Redeclaration}
use Rattle.semantic_syntax.specs.Tables.{Name, Scope, Symbol, Bindings, Tables}
use Rattle.semantic_syntax.specs.Source.{chain_within, ends_within}

-- what stands past the end of a list
abbrev pub no_scope : Scope
no_scope = record { parent = None; node = 0; flags = record { bits = 0 } }

abbrev pub no_symbol : Symbol
no_symbol = record { name = []; span = record { start = 0; end = 0 }; flags = record { bits = 0 }; scope = 0; node = 0; redeclarations = None }

abbrev pub no_reference : Reference
no_reference = record { node_id = 0; scope_id = 0; flags = record { bits = 0 }; symbol_id = None }

abbrev pub scope_of : Tables → ℕ → Scope
scope_of t s = slice_index_or t.scopes s no_scope

abbrev pub symbol_of : Tables → ℕ → Symbol
symbol_of t y = slice_index_or t.symbols y no_symbol

abbrev pub reference_of : Tables → ℕ → Reference
reference_of t r = slice_index_or t.references r no_reference

-- what the scope binds
abbrev pub bindings_of : Tables → ℕ → Bindings
bindings_of t s = slice_index_or t.bindings s []

-- the symbol to which the scope binds the name
abbrev pub bound_in : Tables → ℕ → Name → Option ℕ
bound_in t s name = lookup (bytes_eq name) (bindings_of t s)

abbrev pub scope_flags : Tables → ℕ → ℕ
scope_flags t s = (scope_of t s).flags.bits

abbrev pub symbol_flags : Tables → ℕ → ℕ
symbol_flags t y = (symbol_of t y).flags.bits

-- the way in which the reference uses its name
abbrev pub way_of : Tables → ℕ → ℕ
way_of t r = (reference_of t r).flags.bits

-- the references of the symbol
abbrev pub uses_of : Tables → ℕ → List ℕ
uses_of t y = slice_index_or t.uses y []

-- the free references of the name
abbrev pub free_of : Tables → Name → List ℕ
free_of t name = unwrap_or (lookup (bytes_eq name) t.free) []

abbrev or_own : ℕ → List Redeclaration → List ℕ
or_own node [] = node ∷ []
or_own node (d ∷ ds) = map (λ (e : Redeclaration). e.declaration) (d ∷ ds)

-- the redeclarations of the symbol; none where it has no list
abbrev pub redeclarations_of : Tables → ℕ → List Redeclaration
redeclarations_of t y = unwrap_or (symbol_of t y).redeclarations []

-- the nodes that declare the symbol: its declaration where it has no redeclarations, else theirs
abbrev pub declarations_of : Tables → ℕ → List ℕ
declarations_of t y = or_own (symbol_of t y).node (redeclarations_of t y)

-- the symbol's own entry among its declarations
abbrev pub own_entry : Symbol → Redeclaration
own_entry y = record { span = y.span; declaration = y.node; flags = y.flags }

-- the scope around the scope
abbrev pub parent_of : List Scope → ℕ → Option ℕ
parent_of scopes s = (slice_index_or scopes s no_scope).parent

-- the scope and those outward from it
abbrev pub chain : List Scope → ℕ → List ℕ
chain scopes s = chain_within (parent_of scopes) (length scopes) s

-- the parents exist and make no cycle
pub record IsForest (scopes : List Scope) : Type 0 where
  pub exist : (s : ℕ) → IfSome (parent_of scopes s) (λ p. p < length scopes)
  pub ends : (s : ℕ) → s < length scopes → ends_within (parent_of scopes) (length scopes) s ≡ true

-- what the first of the scopes that binds the name binds it to
unfoldable pub first_bound : List Bindings → Name → List ℕ → Option ℕ
first_bound bindings name [] = None
first_bound bindings name (s ∷ ss) = option_map_or (λ y. Some y) (lookup (bytes_eq name) (slice_index_or bindings s [])) (first_bound bindings name ss)
