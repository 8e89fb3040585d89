use Rattle.std.proofs.Common.{◌≡◌, drop}
use Rattle.std.specs.Cmp.Lexicographic.{pointwise}
use Rattle.mangle_model.specs.Tests.{same_declaration}
use Rattle.mangler.proofs.comparing.values.are_same_declarations.Given as goal

abbrev pub invariant-loop-number : goal.invariant-loop-number
invariant-loop-number l = pointwise same_declaration (drop l.number l.one) (drop l.number l.other) ≡ pointwise same_declaration l.one l.other
