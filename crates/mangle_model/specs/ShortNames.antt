-- Short names in order of length: `a`, `b`, .. `z`, `A`, .. `Z`, `_`, `$`, and then those of two characters.
use Rattle.std.specs.Prelude.{ℕ, zero, suc, ◌+◌, ◌-◌, ◌/◌, ◌%◌, [], ◌∷◌, cond, nat_lt, ◌==◌}
use Rattle.semantic_syntax.specs.Tables.{Name}

-- the 64 characters of such names; the last ten, which are digits, don't begin one
abbrev pub character : ℕ → ℕ
character n = cond (nat_lt n 26) (97 + n) (cond (nat_lt n 52) (39 + n) (cond (n == 52) 95 (cond (n == 53) 36 (n - 6))))

-- the characters behind the first, not more than so many
abbrev pub further : (most n : ℕ) → Name
further zero n = []
further (suc most) zero = []
further (suc most) (suc n) = character (n % 64) ∷ further most (n / 64)

-- the name of this number
abbrev pub short_name : ℕ → Name
short_name n = character (n % 54) ∷ further n (n / 54)
