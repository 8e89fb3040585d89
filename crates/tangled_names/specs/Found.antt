-- What is seen of the tangled names that are found.
use Rattle.std.specs.Prelude.{ℕ, List, [], ◌++◌}
use Rattle.tangle_model.specs.Tangled.{Tangle, told}
use Rattle.tangle_model.specs.declared.reason.Reason.{Reason}
use Rattle.tangled_names.specs.declared.tangles.TangledName.{TangledName}

-- what is seen of one
abbrev pub tangle_seen : TangledName → Tangle
tangle_seen n = record { symbol = n.symbol; reasons = n.reasons.items }

-- with the name of a symbol, if there are reasons
abbrev pub with_tangle : List Tangle → ℕ → List Reason → List Tangle
with_tangle found symbol reasons = found ++ told symbol reasons []
