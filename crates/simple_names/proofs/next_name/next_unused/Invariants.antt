use Rattle.std.proofs.Common.{◌≡◌, ◌≤◌, ◌<◌, ℕ, false}
use Rattle.mangle_model.specs.ShortNames.{short_name}
use Rattle.simple_names.specs.TakenNames.{unused_by}
use Rattle.simple_names.proofs.next_name.next_unused.Given as goal

-- those before are used
abbrev pub invariant-loop-number : goal.invariant-loop-number
invariant-loop-number l = (n : ℕ) → l.from ≤ n → n < l.number → unused_by l.taken (short_name n) ≡ false
