use Rattle.std.proofs.Common.{◌≡◌, ◌++◌, map, drop}
use Rattle.namespace_states.specs.InstanceStates.{state_of}
use Rattle.namespace_states.specs.StatesByMarks.{states_by}
use Rattle.namespace_states.proofs.states.states_by.Given as goal

-- with the states that are left, all are made
abbrev pub invariant-loop-id : goal.invariant-loop-id
invariant-loop-id l = map state_of l.states.items ++ states_by (drop l.id l.values) (drop l.id l.const_enums) ≡ states_by l.values l.const_enums
