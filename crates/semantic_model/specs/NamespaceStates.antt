-- The states of the namespaces of a program.
use Rattle.std.specs.Prelude.{List, Option, Some, None, cond, filter_map}
use Rattle.semantic_kinds.specs.declared.kind.AstType.TheVariants as kind
use Rattle.semantic_tree.specs.Views.{is}
use Rattle.semantic_model.specs.Step.{Step, entering}
use Rattle.semantic_model.specs.Namespace.{InstanceState, instance_state, nodes_around}

abbrev pub state_at : Step → Option InstanceState
state_at (entering p) = cond (is kind.TSNamespaceDeclaration p.node) (Some (instance_state p.node p.path (nodes_around p.node p.path))) None
state_at _ = None

-- the state of each namespace, in preorder
abbrev pub namespace_states : List Step → List InstanceState
namespace_states steps = filter_map state_at steps
