-- Where the bodies of `with` statements open.
use Rattle.std.specs.Prelude.{◌≡◌, ◌<◌, ℕ, List, length, nat_lt}
use Rattle.semantic_syntax.specs.Tables.{Scope}
use Rattle.mangle_model.specs.MayMangle.{holds_with}

-- the bodies of `with` statements open before this scope
abbrev pub EndsWith : List Scope → ℕ → Type 0
EndsWith scopes end = (c : ℕ) → c < length scopes → nat_lt c end ≡ holds_with scopes c
