use Rattle.std.proofs.Common.{◌≡◌, ◌||◌, ℕ, List, bytes_eq}
use Rattle.std.specs.List.{list_any}
use Rattle.mangle_names.proofs.BarredNames.{any_free}
use Rattle.mangle_names.proofs.barred.add_free_names.Given as goal

-- with those that are left, all free names are there
abbrev pub invariant-loop-name : goal.invariant-loop-name
invariant-loop-name l = (q : List ℕ) → (list_any (bytes_eq q) l.names || any_free q l.name-iterator) ≡ (list_any (bytes_eq q) l.fn.names || any_free q l.scoping.free)
