use Rattle.std.proofs.Common.{◌≡◌, map}
use Rattle.std.specs.Cmp.Lexicographic.{pointwise}
use Rattle.mangle_model.specs.Tests.{same_binding}
use Rattle.mangle_model.specs.Assignment.{assignment_of}
use Rattle.mangle_model.specs.Alike.{renamed_binding}
use Rattle.semantic_syntax.specs.Reading.{bindings_of}
use Rattle.mangler.proofs.comparing.scopes.binds_the_same.Given as goal

abbrev pub invariant-loop-name : goal.invariant-loop-name
invariant-loop-name l = pointwise same_binding l.theirs (map (renamed_binding (assignment_of l.names)) l.name-iterator) ≡ pointwise same_binding (bindings_of l.other l.fn.scope) (map (renamed_binding (assignment_of l.names)) (bindings_of l.one l.fn.scope))
