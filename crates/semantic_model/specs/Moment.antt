-- What holds of tables right after an analysis.
use Rattle.std.specs.Prelude.{◌≡◌, ◌<◌, ◌≤◌, ℕ, ◌+◌, List, [], ◌∷◌, Option, Some, None, cond, length, map, slice_get}
use Rattle.semantic_syntax.specs.declared.references.Reference.{Reference}
use Rattle.semantic_syntax.specs.declared.references.Redeclaration.{Redeclaration}
use Rattle.semantic_syntax.specs.Tables.{Name, Tables, Symbol}
use Rattle.semantic_syntax.specs.Reading.{bindings_of}
use Rattle.semantic_model.specs.Entries.{times, times_in_all, or_empty, Among}
use Rattle.semantic_model.specs.TablesOf.{is_symbol}

-- a reference is in the uses of a symbol exactly if that is its symbol, and there once
abbrev pub UsesAreTies : Tables → Type 0
UsesAreTies t = (n s : ℕ) (e : Reference) → slice_get t.references n ≡ Some e → times n (or_empty (slice_get t.uses s)) ≡ cond (is_symbol s e.symbol_id) 1 0

-- each reference stands in exactly one use list or exactly one free list, once
abbrev pub StandsInOneList : Tables → Type 0
StandsInOneList t = (n : ℕ) → n < length t.references → times_in_all n t.uses + times_in_all n (map (λ f. f.1) t.free) ≡ 1

-- an entry of scope c is its symbol's: the symbol has the name and the scope
pub record IsOwned (t : Tables) (c : ℕ) (b : Name × ℕ) : Type 0 where
  pub symbol : Symbol
  pub is_there : slice_get t.symbols b.1 ≡ Some symbol
  pub named : symbol.name ≡ b.0
  pub stands : symbol.scope ≡ c

-- a name that a scope binds is its symbol's name, and the scope is that symbol's; no symbol is bound twice
pub record BindingsAreSymbols (t : Tables) : Type 0 where
  pub owned : (c : ℕ) (b : Name × ℕ) → Among b (bindings_of t c) → IsOwned t c b
  pub once : (s : ℕ) → times_in_all s (map (map (λ b. b.1)) t.bindings) ≤ 1

-- a list of declarations of a symbol: two or more, of which the first is the symbol's own
abbrev pub BeginsWithOwn : Symbol → List Redeclaration → Type 0
BeginsWithOwn y [] = ⊥
BeginsWithOwn y (r ∷ []) = ⊥
BeginsWithOwn y (r ∷ q ∷ more) = (r.span ≡ y.span) × (r.declaration ≡ y.node)

abbrev pub HasOwnEntry : Symbol → Option (List Redeclaration) → Type 0
HasOwnEntry y None = Unit {0}
HasOwnEntry y (Some rs) = BeginsWithOwn y rs

-- a list of redeclarations is absent or begins so
abbrev pub ListsBeginWithOwn : Tables → Type 0
ListsBeginWithOwn t = (s : ℕ) (y : Symbol) → slice_get t.symbols s ≡ Some y → HasOwnEntry y y.redeclarations
