-- What a source of scopes, bindings, symbols and references tells.
use Rattle.std.specs.Prelude.{◌≡◌, ℕ, ◌<◌, zero, suc, Bool, true, false, List, [], ◌∷◌, Option, None, IfSome, length, slice_index_or}
use Rattle.std.specs.Option.{option_map_or}
use Rattle.semantic_syntax.specs.Tables.{Name}

-- scopes with parents, flags and bindings, symbols with flags, references with ways
pub record Source : Type 0 where
  pub scopes : ℕ
  pub symbols : ℕ
  pub references : ℕ
  pub parent : ℕ → Option ℕ
  pub scope_flags : ℕ → ℕ
  pub bound : ℕ → Name → Option ℕ
  pub symbol_flags : ℕ → ℕ
  pub way : ℕ → ℕ

-- the scopes from s outward, at most `count` of them
unfoldable pub chain_within : (ℕ → Option ℕ) → ℕ → ℕ → List ℕ
chain_within parent zero s = []
chain_within parent (suc count) s = s ∷ option_map_or (chain_within parent count) (parent s) []

-- whether the scopes from s outward are at most `count`
unfoldable pub ends_within : (ℕ → Option ℕ) → ℕ → ℕ → Bool
ends_within parent zero s = false
ends_within parent (suc count) s = option_map_or (ends_within parent count) (parent s) true

-- the scope, its parent, and so on to one without a parent
abbrev pub chain : Source → ℕ → List ℕ
chain source s = chain_within source.parent source.scopes s

-- the list tells for each scope the symbol that it binds to the name, if any
pub record TellsName (source : Source) (name : Name) (symbols : List (Option ℕ)) : Type 0 where
  pub count : length symbols ≡ source.scopes
  pub each : (s : ℕ) → s < source.scopes → slice_index_or symbols s None ≡ source.bound s name

-- the parents make no cycle, and each parent and each bound symbol exists
pub record IsSource (source : Source) : Type 0 where
  pub parents : (s : ℕ) → s < source.scopes → IfSome (source.parent s) (λ p. p < source.scopes)
  pub ends : (s : ℕ) → s < source.scopes → ends_within source.parent source.scopes s ≡ true
  pub bound_symbols : (s : ℕ) (name : Name) → s < source.scopes → IfSome (source.bound s name) (λ y. y < source.symbols)
