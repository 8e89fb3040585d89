use Rattle.std.proofs.Common.{◌≡◌, ◌||◌, drop}
use Rattle.semantic_syntax.specs.Tables.{Name}
use Rattle.tangle_model.specs.Tangled.{any_symbol}
use Rattle.tangled_names.specs.Asked.{asked}
use Rattle.tangled_names.specs.Stored.{has_name}
use Rattle.tangled_names.proofs.symbol_names.names_where.Given as goal

abbrev pub invariant-loop-number : goal.invariant-loop-number
invariant-loop-number l = (x : Name) → (has_name l.names x || any_symbol (asked l.question l.scoping) (drop l.number l.scoping.symbols) x) ≡ any_symbol (asked l.question l.scoping) l.scoping.symbols x
