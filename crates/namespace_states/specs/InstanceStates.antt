-- The states of namespaces, as the definition has them.
use Rattle.semantic_model.specs.Namespace.{InstanceState, non_instantiated, instantiated, const_enum_only}
use Rattle.namespace_states.specs.declared.instance_state.ModuleInstanceState.{ModuleInstanceState}
use Rattle.namespace_states.specs.declared.instance_state.ModuleInstanceState.TheVariants.{NonInstantiated, Instantiated, ConstEnumOnly}

abbrev pub state_of : ModuleInstanceState → InstanceState
state_of NonInstantiated = non_instantiated
state_of Instantiated = instantiated
state_of ConstEnumOnly = const_enum_only
