use Rattle.std.proofs.Common.{◌≡◌, drop, map}
use Rattle.std.specs.Cmp.Lexicographic.{pointwise}
use Rattle.mangle_model.specs.Tests.{same_binding}
use Rattle.mangle_model.specs.Assignment.{assignment_of}
use Rattle.mangle_model.specs.Alike.{renamed_binding}
use Rattle.mangler.proofs.comparing.scopes.are_same_bindings.Given as goal

abbrev pub invariant-loop-number : goal.invariant-loop-number
invariant-loop-number l = pointwise (pointwise same_binding) (drop l.number l.other.bindings) (drop l.number (map (map (renamed_binding (assignment_of l.names))) l.one.bindings)) ≡ pointwise (pointwise same_binding) l.other.bindings (map (map (renamed_binding (assignment_of l.names))) l.one.bindings)
