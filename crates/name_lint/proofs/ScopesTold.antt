-- What the tables tell of scopes that they don't hold.
use Rattle.std.proofs.Common.{◌≡◌, ◌≤◌, ℕ, zero, suc, List, [], ◌∷◌, false, refl, ap, length, slice_index_or, arith}
use Rattle.std.specs.List.{list_any}
use Rattle.semantic_syntax.specs.Tables.{Tables, Scope}
use Rattle.semantic_syntax.specs.Reading.{no_scope, parent_of, scope_flags}
use Rattle.semantic_syntax.specs.Source.{chain_within}
use Rattle.name_lint.specs.Undeclared.{has_arguments, is_in_function}

scope_beyond : (scopes : List Scope) (s : ℕ) → length scopes ≤ s → slice_index_or scopes s no_scope ≡ no_scope
scope_beyond [] s h = refl
scope_beyond (e ∷ es) zero h = absurd (omega arith)
scope_beyond (e ∷ es) (suc s) h = scope_beyond es s (omega arith)

-- a scope that isn't there has no flags
pub flags_beyond : (t : Tables) (s : ℕ) → length t.scopes ≤ s → scope_flags t s ≡ 0
flags_beyond t s h = ap (λ e. e.flags.bits) (scope_beyond t.scopes s h)

alone : (t : Tables) (n c : ℕ) → length t.scopes ≤ c → list_any (has_arguments t) (chain_within (parent_of t.scopes) n c) ≡ false
unfolding chain_within
alone t zero c h = refl
alone t (suc n) c h = rw (scope_beyond t.scopes c h, flags_beyond t c h) refl

-- nor is it in a function
pub function_beyond : (t : Tables) (c : ℕ) → length t.scopes ≤ c → is_in_function t c ≡ false
function_beyond t c h = alone t (length t.scopes) c h

pub ruleset scopes = (flags_beyond, function_beyond)
