use Rattle.std.proofs.Common.{◌≡◌, ◌-◌}
use Rattle.renamer.specs.Told.{told_by}
use Rattle.rename_model.specs.Same.{first_difference}
use Rattle.renamer.proofs.differing.first_difference.Given as goal

-- the nodes so far are the same
abbrev pub invariant-loop-number : goal.invariant-loop-number
invariant-loop-number l =
    first_difference (told_by l.one) (told_by l.other) l.number (l.count - l.number)
    ≡ first_difference (told_by l.one) (told_by l.other) 0 l.count
