use Rattle.std.proofs.Common.{◌≡◌, ◌||◌, ℕ, List, bytes_eq, drop}
use Rattle.std.specs.List.{list_any}
use Rattle.mangle_model.specs.GoodNames.{is_kept_name}
use Rattle.mangle_names.specs.Marks.{is_number_marked}
use Rattle.mangle_names.proofs.barred.add_kept_names.Given as goal

-- with those of the symbols that are left, all names are there
abbrev pub invariant-loop-number : goal.invariant-loop-number
invariant-loop-number l = (q : List ℕ) → (list_any (bytes_eq q) l.names || is_kept_name (is_number_marked l.may) q l.number (drop l.number l.scoping.symbols)) ≡ (list_any (bytes_eq q) l.fn.names || is_kept_name (is_number_marked l.may) q 0 l.scoping.symbols)
