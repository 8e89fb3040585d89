-- The rows of the tables show the scopes in which a place stands.
use Rattle.std.specs.Prelude.{◌≡◌, ℕ, ◌<◌, List, [], ◌∷◌, ◌⊎◌, Option, Some, None, IfSome, length}
use Rattle.std.specs.Int.RustNames.{bit_and}
use Rattle.semantic_kinds.specs.declared.kind.AstType.TheVariants as kind
use Rattle.semantic_syntax.specs.declared.scope_flags.TheConstants.ScopeFlags as flag
use Rattle.semantic_syntax.specs.Sets.{meets}
use Rattle.semantic_syntax.specs.Tables.{Tables}
use Rattle.semantic_syntax.specs.Reading.{scope_of}
use Rattle.semantic_model.specs.Place.{Place, OpenScope}
use Rattle.semantic_model.specs.Declaration.{first_with}
use Rattle.semantic_model.specs.Binder.{is_var}
use Rattle.walk_model.specs.Opens.{innermost_number}

-- flags other than `DirectEval`
abbrev pub IsOther : ℕ → Type 0
IsOther bits = bit_and flag.DirectEval.bits bits ≡ 0

-- the scope has a row, with its parent, node and flags; `DirectEval` may be among them
pub record ShowsScope (t : Tables) (s : OpenScope) (around : List OpenScope) : Type 0 where
  pub within : s.number < length t.scopes
  pub parent : (scope_of t s.number).parent ≡ innermost_number around
  pub node : (scope_of t s.number).node ≡ s.opener
  pub flags : (bits : ℕ) → IsOther bits → meets (scope_of t s.number).flags.bits bits ≡ meets s.flags bits
  -- the scope around it has a smaller number
  pub falls : IfSome (innermost_number around) (λ p. p < s.number)

abbrev pub ShowsChain : Tables → List OpenScope → Type 0
ShowsChain t [] = Unit {0}
ShowsChain t (s ∷ ss) = ShowsScope t s ss × ShowsChain t ss

-- the own scope of a place, if it is open, is shown within the place's chain
abbrev pub ShowsOwn : Tables → Place → Option OpenScope → Type 0
ShowsOwn t p None = Unit {0}
ShowsOwn t p (Some s) = ShowsChain t (s ∷ p.chain)

-- some scope of the chain is a function's, or alike
abbrev pub HasVar : List OpenScope → Type 0
HasVar chain = first_with is_var chain ≡ None → ⊥

-- the place stands in a function's scope, or the like, or is the root
abbrev pub IsGrounded : Place → Type 0
IsGrounded p = HasVar p.chain ⊎ (p.node.kind ≡ kind.Program)
