-- The states that are found before a walk are those of the namespaces that it comes to.
use Rattle.std.specs.Prelude.{◌≡◌, List, true}
use Rattle.semantic_kinds.specs.declared.kind.AstType.TheVariants as kind
use Rattle.semantic_model.specs.Entries.{Among}
use Rattle.semantic_model.specs.Namespace.{InstanceState, instance_state, nodes_around}
use Rattle.semantic_tree.specs.Views.{is}
use Rattle.semantic_model.specs.Place.{Place}
use Rattle.semantic_model.specs.Step.{Step, entering}
use Rattle.namespace_states.specs.StatesByMarks.{state_in}

-- at a namespace its state is the one that the definition finds there
abbrev pub IsStated : List InstanceState → Place → Type 0
IsStated states p = is kind.TSNamespaceDeclaration p.node ≡ true → state_in states p.node.node_id ≡ instance_state p.node p.path (nodes_around p.node p.path)

-- so it is at all that the steps enter
abbrev pub AllStated : List InstanceState → List Step → Type 0
AllStated states steps = (p : Place) → Among (entering p) steps → IsStated states p
