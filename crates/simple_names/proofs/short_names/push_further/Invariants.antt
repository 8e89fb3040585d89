use Rattle.std.proofs.Common.{◌≡◌, ◌++◌, string_bytes}
use Rattle.std.specs.Str.{chars}
use Rattle.mangle_model.specs.ShortNames.{further}
use Rattle.simple_names.proofs.short_names.push_further.Given as goal

-- with the characters that are left, it is the name
abbrev pub invariant-loop-rest : goal.invariant-loop-rest
invariant-loop-rest l = chars (string_bytes l.name) ++ further l.rest l.rest ≡ chars (string_bytes l.fn.name) ++ further l.number l.number

-- the numbers fall
abbrev pub decreases-loop-rest : goal.decreases-loop-rest
decreases-loop-rest l = l.rest
