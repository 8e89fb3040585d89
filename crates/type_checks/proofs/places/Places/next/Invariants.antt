use Rattle.std.proofs.Common.{◌≡◌, length}
use Rattle.node_store.specs.PathLeft.{path_left}
use Rattle.type_checks.specs.Places.{places_left}
use Rattle.type_checks.proofs.places.Places.next.Given as goal

-- no place was passed
abbrev pub invariant-loop-kind : goal.invariant-loop-kind
invariant-loop-kind l = places_left l.self ≡ places_left l.initial.self

abbrev pub decreases-loop-kind : goal.decreases-loop-kind
decreases-loop-kind l = length (path_left l.self.above)
