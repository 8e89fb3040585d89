-- What tables tell by themselves: the first binding outward that is usable, and how deep a scope lies.
use Rattle.std.specs.Prelude.{ℕ, List, [], ◌∷◌, Option, Some, None, cond, length}
use Rattle.semantic_syntax.specs.Usable.{is_usable}
use Rattle.semantic_syntax.specs.Tables.{Name, Tables}
use Rattle.semantic_syntax.specs.Reading.{bound_in, symbol_flags, chain}

abbrev pub usable_or : Tables → ℕ → Option ℕ → Option ℕ → Option ℕ
usable_or t w None later = later
usable_or t w (Some s) later = cond (is_usable w (symbol_flags t s)) (Some s) later

-- the symbol of the first scope of a list that binds the name to one that is usable in the way
abbrev pub first_outward : Tables → List ℕ → Name → ℕ → Option ℕ
first_outward t [] x w = None
first_outward t (c ∷ cs) x w = usable_or t w (bound_in t c x) (first_outward t cs x w)

-- how deep a scope lies
abbrev pub depth : Tables → ℕ → ℕ
depth t s = length (chain t.scopes s)
