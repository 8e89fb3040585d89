use Rattle.std.proofs.Common.{◌≡◌, drop}
use Rattle.mangle_model.specs.Mangling.{all_pass}
use Rattle.mangle_names.specs.Marks.{is_number_marked}
use Rattle.mangler.specs.Passing.{passes_by}
use Rattle.mangler.proofs.passing.all_pass.Given as goal

-- the names so far pass
abbrev pub invariant-loop-number : goal.invariant-loop-number
invariant-loop-number l = all_pass (passes_by (is_number_marked l.may) l.barred) l.number (drop l.number l.names) ≡ all_pass (passes_by (is_number_marked l.may) l.barred) 0 l.names
