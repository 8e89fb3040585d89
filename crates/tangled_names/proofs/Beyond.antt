-- What the tables tell of scopes that they don't hold.
use Rattle.std.proofs.Common.{◌≡◌, ◌≤◌, ℕ, zero, suc, List, [], ◌∷◌, refl, ap, length, slice_index_or, arith}
use Rattle.semantic_syntax.specs.Tables.{Tables, Scope}
use Rattle.semantic_syntax.specs.Reading.{no_scope, scope_of, scope_flags}

scope_beyond : (scopes : List Scope) (s : ℕ) → length scopes ≤ s → slice_index_or scopes s no_scope ≡ no_scope
scope_beyond [] s h = refl
scope_beyond (e ∷ es) zero h = absurd (omega arith)
scope_beyond (e ∷ es) (suc s) h = scope_beyond es s (omega arith)

-- a scope that isn't there has no flags, and the root opens it
pub flags_beyond : (t : Tables) (s : ℕ) → length t.scopes ≤ s → scope_flags t s ≡ 0
flags_beyond t s h = ap (λ e. e.flags.bits) (scope_beyond t.scopes s h)

pub opener_beyond : (t : Tables) (s : ℕ) → length t.scopes ≤ s → (scope_of t s).node ≡ 0
opener_beyond t s h = ap (λ e. e.node) (scope_beyond t.scopes s h)

pub ruleset scopes = (flags_beyond, opener_beyond)
